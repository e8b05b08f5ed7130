-- What the private functions promise on the way. No public promise speaks of it.
use Rattle.std.specs.Prelude.{Option, None, Some, ◌≡◌, List, ℕ, ◌≤◌, length}
use Rattle.group.specs.Lent.{front}
use Rattle.group.specs.Limits.{members_most}
use Rattle.model.specs.World.{Event}
use Rattle.model.specs.declared.Reply.{Reply}
use Rattle.simulator.specs.Whole.{packets_most, group_of, Whole, Plays}
use Rattle.simulator.specs.declared.Happening.{Happening}
use Rattle.simulator.specs.declared.Head.{Head}
use Rattle.simulator.specs.declared.MemberCall.{MemberCall}
use Rattle.simulator.specs.declared.SequencerCall.{SequencerCall}
use Rattle.schedule.specs.Line.{payload_room}
use Rattle.schedule.specs.declared.Command.{Command}
use Rattle.schedule.specs.declared.Command.TheVariants.{Submit}
use Rattle.player.specs.Play as play
use Rattle.player.specs.Feed as feed
use Rattle.player.specs.Player.{stage_in, phase_of, Does}
use Rattle.player.specs.declared.Action.{Action}
use Rattle.player.specs.declared.Fed.{Fed}
use Rattle.player.specs.declared.Told.{Told}

-- there is room for every member, and for the packets that were written
pub record Fits (head : Head) : Type 0 where
  pub members : head.sequencer.group.n ≤ members_most
  pub packets : head.count ≤ packets_most

-- a submit's payload lies in the bytes that were lent
abbrev pub Sized : Command → Type 0
Sized command = (i size : ℕ) → command ≡ Submit i size → size ≤ payload_room

-- what a command asks of the group; a submission alone comes with bytes
unfoldable pub action_of : Command → Action
action_of (Command.Submit i size) = Action.Member MemberCall.Submit i size
action_of (Command.Repeat i) = Action.Member MemberCall.Repeat i 0
action_of (Command.Take i) = Action.Member MemberCall.Take i 0
action_of (Command.Status i) = Action.Member MemberCall.Status i 0
action_of Command.Poll = Action.Sequencer SequencerCall.Poll
action_of (Command.Copy number) = Action.Sequencer (SequencerCall.Copy (record { 0 = number }))
action_of (Command.HandMember k i) = Action.HandMember k i
action_of (Command.HandSequencer k) = Action.HandSequencer k

-- an event was performed, if there was one
unfoldable pub Performed : Option Event → Head → Whole → Happening → Whole → List ℕ → List ℕ → Type 0
Performed None head w r w' before after = r ≡ record { head = head; reply = Reply.Absent; written = 0 }
Performed (Some event) head w r w' before after = Plays event head w r.head r.reply r.written w' before after

-- a line was told
pub record Tells (told : play.Told) (r : Told) (w : Whole) (lent after : List ℕ) : Type 0 where
  pub stage : stage_in (phase_of r.head r.phase) (group_of w) r.number ≡ told.stage
  pub written : r.written ≡ length told.text
  pub output : after ≡ front told.text lent

-- a group that cannot be opened: closed, whatever the arrays hold
abbrev pub Refuses : play.Told → Told → List ℕ → List ℕ → Type 0
Refuses told r lent after = (w : Whole) → Tells told r w lent after

-- a line that was played: nothing of it is kept, whatever its array holds
abbrev pub PlaysLine : feed.Fed → Fed → Whole → List ℕ → List ℕ → Type 0
PlaysLine told r w lent after = (line : List ℕ) → Does told r w line lent after
