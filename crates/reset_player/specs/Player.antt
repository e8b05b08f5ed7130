-- The player of the code as the state of the meaning: its numbers, the world that it runs, and the line's array.
use Rattle.std.specs.Prelude.{◌≡◌, List, ℕ, length, take}
use Rattle.group.specs.Lent.{front, Laid}
use Rattle.player.specs.Player.{phase_with}
use Rattle.player.specs.declared.Phase.{Phase}
use Rattle.player.specs.declared.Phase.TheVariants.{Opening, Running, Ended, Closed}
use Rattle.recovery.specs.State.{Terminal}
use Rattle.reset.specs.World.{Group}
use Rattle.reset_simulator.specs.Whole.{Rows, terminals_of, terminal_at, group_of, Whole}
use Rattle.reset_simulator.specs.declared.World.{World}
use Rattle.reset_player.specs.Feed as feed
use Rattle.reset_player.specs.Feed.{State}
use Rattle.reset_output.specs.Recover as recover
use Rattle.reset_output.specs.Recover.{Stage}
use Rattle.reset_player.specs.declared.Fed.{Fed}
use Rattle.reset_player.specs.declared.Player.{Player}

unfoldable pub stage_in : Phase → Group → ℕ → Stage
stage_in Opening g number = recover.opening
stage_in Running g number = recover.running g number
stage_in Ended g number = recover.ended g
stage_in Closed g number = recover.closed

-- the phase of a world that has the room that it says
unfoldable pub phase_of : World → Phase → Phase
phase_of world phase = phase_with world.n world.count phase

abbrev pub stage_of : Player → Whole → Stage
stage_of p w = stage_in (phase_of p.world p.phase) (group_of w) p.number

abbrev pub state_of : Player → Whole → List ℕ → State
state_of p w line = record { stage = stage_of p w; line = take p.length line }

-- a player that does what the meaning says, with the lent output before and after
pub record Does (told : feed.Fed) (r : Fed) (w : Whole) (line : List ℕ) (lent after : List ℕ) : Type 0 where
  pub state : state_of r.player w line ≡ told.state
  pub used : r.used ≡ told.used
  pub written : r.written ≡ length told.text
  pub output : after ≡ front told.text lent

-- what was laid is what is told of terminal i, by the rows of its head, whatever its arrays hold
abbrev pub LaysLast : (ℕ → Terminal → List ℕ) → List (List ℕ) → List (List ℕ) → List (List ℕ) → ℕ → ℕ → List ℕ → List ℕ → Type 0
LaysLast told small masks numbers i size lent after =
    (rows : Rows) → Laid (told i (terminal_at (terminals_of small masks numbers rows) i)) size lent after

-- numbers of a player that has read nothing, whatever the arrays hold
abbrev pub Fresh : Player → Type 0
Fresh p = (w : Whole) (line : List ℕ) → state_of p w line ≡ feed.start
