-- The player of the code as the state of the meaning: its numbers, the group that it runs, and the line's array.
use Rattle.std.specs.Prelude.{◌≡◌, List, [], map, ℕ, ◌+◌, ◌*◌, length, take, get_or}
use Rattle.group.specs.Choice.{when◌then◌else◌, ◌and◌, ◌<?◌, ◌≤?◌}
use Rattle.group.specs.Lent.{front, Laid}
use Rattle.group.specs.Limits.{members_most, longest_packet}
use Rattle.model.specs.World.{Group}
use Rattle.report.specs.Print.{line_room}
use Rattle.simulator.specs.Whole.{packets_most, list_of, group_of, Whole}
use Rattle.simulator.specs.declared.Head.{Head}
use Rattle.player.specs.Play as play
use Rattle.player.specs.Play.{Stage, last_of}
use Rattle.player.specs.Feed as feed
use Rattle.player.specs.Feed.{State}
use Rattle.player.specs.declared.Fed.{Fed}
use Rattle.player.specs.declared.Phase.{Phase}
use Rattle.player.specs.declared.Phase.TheVariants.{Opening, Running, Ended, Closed}
use Rattle.player.specs.declared.Player.{Player}

-- the room of the longest line that is printed
abbrev pub output_room : ℕ
output_room = line_room + 2 * longest_packet

unfoldable pub stage_in : Phase → Group → ℕ → Stage
stage_in Opening g number = play.opening
stage_in Running g number = play.running g number
stage_in Ended g number = play.ended g
stage_in Closed g number = play.closed

-- the phase of a group with n members and that many packets: one that has not the room that it says is none
abbrev pub phase_with : ℕ → ℕ → Phase → Phase
phase_with n count phase = when n ≤? members_most and count ≤? packets_most then phase else Closed

unfoldable pub phase_of : Head → Phase → Phase
phase_of head phase = phase_with head.sequencer.group.n head.count phase

abbrev pub stage_of : Player → Whole → Stage
stage_of p w = stage_in (phase_of p.head p.phase) (group_of w) p.number

abbrev pub state_of : Player → Whole → List ℕ → State
state_of p w line = record { stage = stage_of p w; line = take p.length line }

-- a resilience degree as a byte. No group has one of the most members or more: those become the most members
unfoldable pub degree_of : ℕ → ℕ
degree_of resilience = when resilience <? members_most then resilience else members_most

-- a player that does what the meaning says, with the lent output before and after
pub record Does (told : feed.Fed) (r : Fed) (w : Whole) (line : List ℕ) (lent after : List ℕ) : Type 0 where
  pub state : state_of r.player w line ≡ told.state
  pub used : r.used ≡ told.used
  pub written : r.written ≡ length told.text
  pub output : after ≡ front told.text lent

-- what member i took last, by the rows of numbers
abbrev pub taken_at : List (List ℕ) → ℕ → ℕ
taken_at numbers i = get_or (get_or numbers i []) 0 0

-- a group whose sequencer has the head's numbers, and whose members took what the rows say
pub record Shown (head : Head) (numbers : List (List ℕ)) (g : Group) : Type 0 where
  pub top : g.sequencer.top ≡ head.sequencer.top
  pub floor : g.sequencer.floor ≡ head.sequencer.floor
  pub members : map (λ m. m.taken.0) g.members ≡ list_of (taken_at numbers) 0 head.sequencer.group.n

-- what was laid is what `text` says of every such group
abbrev pub Lays : (Group → List ℕ) → Head → List (List ℕ) → ℕ → List ℕ → List ℕ → Type 0
Lays text head numbers size lent after = (g : Group) → Shown head numbers g → Laid (text g) size lent after

-- the last line
abbrev pub LaysLast : Player → List (List ℕ) → ℕ → List ℕ → List ℕ → Type 0
LaysLast p numbers size lent after = Lays (λ g. last_of (stage_in (phase_of p.head p.phase) g p.number)) p.head numbers size lent after

-- numbers of a player that has read nothing, whatever the arrays hold
abbrev pub Fresh : Player → Type 0
Fresh p = (w : Whole) (line : List ℕ) → state_of p w line ≡ feed.start
