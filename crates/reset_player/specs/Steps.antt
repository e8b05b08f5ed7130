-- What the private functions promise on the way. No public promise speaks of it.
use Rattle.std.specs.Prelude.{Option, None, Some, ◌≡◌, List, ℕ, ◌≤◌, length}
use Rattle.group.specs.Lent.{front}
use Rattle.group.specs.Limits.{members_most}
use Rattle.model.specs.declared.Reply.{Reply}
use Rattle.reset.specs.World.{Event, happen}
use Rattle.reset_schedule.specs.declared.Command.{Command}
use Rattle.reset_schedule.specs.declared.Command.TheVariants.{Submit}
use Rattle.reset_simulator.specs.Whole.{group_of, Whole, Plays}
use Rattle.reset_simulator.specs.declared.Happening.{Happening}
use Rattle.reset_simulator.specs.declared.World.{World}
use Rattle.schedule.specs.Line.{payload_room}
use Rattle.simulator.specs.Whole.{packets_most}
use Rattle.terminal_rows.specs.declared.Call.{Call}
use Rattle.reset_player.specs.Feed as feed
use Rattle.reset_player.specs.Player.{stage_in, phase_of, Does}
use Rattle.reset_output.specs.Recover as recover
use Rattle.reset_player.specs.declared.Action.{Action}
use Rattle.reset_player.specs.declared.Fed.{Fed}
use Rattle.reset_player.specs.declared.Told.{Told}

-- there is room for every terminal, and for the packets that were written
pub record Fits (world : World) : Type 0 where
  pub terminals : world.n ≤ members_most
  pub packets : world.count ≤ packets_most

-- a submit's payload lies in the bytes that were lent
abbrev pub Sized : Command → Type 0
Sized command = (i size : ℕ) → command ≡ Submit i size → size ≤ payload_room

-- what a command asks of the world; a submission alone comes with bytes
unfoldable pub action_of : Command → Action
action_of (Command.Submit i size) = Action.Act Call.Submit i size
action_of (Command.Repeat i) = Action.Act Call.Repeat i 0
action_of (Command.Take i) = Action.Act Call.Take i 0
action_of (Command.Status i) = Action.Act Call.Status i 0
action_of (Command.Poll i) = Action.Act Call.Poll i 0
action_of (Command.Copy i number) = Action.Act (Call.Copy (record { 0 = number })) i 0
action_of (Command.HandMember k i) = Action.Hand Call.Receive k i
action_of (Command.HandSequencer k i) = Action.Hand Call.Order k i
action_of (Command.Invite i number) = Action.Act (Call.Invite number) i 0
action_of (Command.Make i demand) = Action.Act (Call.Make demand) i 0

-- an event was performed, if there was one
unfoldable pub Performed : Option Event → World → Whole → Happening → Whole → List ℕ → List ℕ → Type 0
Performed None world w r w' before after = r ≡ record { world = world; reply = Reply.Absent; written = 0 }
Performed (Some event) world w r w' before after = Plays (λ g. happen g event) world w r w' before after

-- a line was told
pub record Tells (told : recover.Told) (r : Told) (w : Whole) (lent after : List ℕ) : Type 0 where
  pub stage : stage_in (phase_of r.world r.phase) (group_of w) r.number ≡ told.stage
  pub written : r.written ≡ length told.text
  pub output : after ≡ front told.text lent

-- a group that cannot be opened: closed, whatever the arrays hold
abbrev pub Refuses : recover.Told → Told → List ℕ → List ℕ → Type 0
Refuses told r lent after = (w : Whole) → Tells told r w lent after

-- a line that was played: nothing of it is kept, whatever its array holds
abbrev pub PlaysLine : feed.Fed → Fed → Whole → List ℕ → List ℕ → Type 0
PlaysLine told r w lent after = (line : List ℕ) → Does told r w line lent after
