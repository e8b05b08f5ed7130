-- What a command asks of the group is its event. Assumes nothing.
use mathlib.Core.Path.{◌≡◌, refl, sym, subst}
use mathlib.Core.List.{List}
use Rattle.std.specs.Prelude.{Option, Some}
use Prim.Native.Nat.{ℕ, ◌≤◌, zero-le}
use lib.ListN.{take}
use Rattle.model.specs.World as world
use Rattle.model.specs.World.{Event, Group, Happened, happen}
use Rattle.schedule.specs.Laws.{meant_by}
use Rattle.schedule.specs.Line.{payload_room}
use Rattle.schedule.specs.declared.Command.{Command}
use Rattle.simulator.proofs.Playing.{submit_is, repeat_is, take_is, status_is}
use Rattle.simulator.specs.Steps.{outcome_here, happened_at, happened_here, handed_to, handed_here}
use Rattle.player.specs.Steps.{action_of, Sized}
use Rattle.player.specs.declared.Action.{Action}

-- there is an event, and it happens so
abbrev pub Is : (Group → Happened) → Option Event → Type 0
Is happened o = (event : Event) × (o ≡ Some event) × ((g : Group) → happened g ≡ happen g event)

unfoldable pub Meant : Action → List ℕ → Option Event → Type 0
Meant (Action.Member call i size) payload o = (size ≤ payload_room) × Is (happened_at call i (take size payload)) o
Meant (Action.Sequencer call) payload o = Is (happened_here call payload) o
Meant (Action.HandMember k i) payload o = Is (handed_to k i) o
Meant (Action.HandSequencer k) payload o = Is (handed_here k) o

command_is : (command : Command) (payload : List ℕ) → Sized command → Meant (action_of command) payload (meant_by (Some command) payload)
unfolding Meant action_of meant_by happen outcome_here happened_here handed_to handed_here
command_is (Command.Submit i size) payload f = (f i size refl, (world.submit i (take size payload), refl, λ g. submit_is i g (take size payload)))
command_is (Command.Repeat i) payload f = (zero-le, (world.repeat i, refl, λ g. repeat_is i g (take 0 payload)))
command_is (Command.Take i) payload f = (zero-le, (world.take i, refl, λ g. take_is i g (take 0 payload)))
command_is (Command.Status i) payload f = (zero-le, (world.status i, refl, λ g. status_is i g (take 0 payload)))
command_is Command.Poll payload f = (world.poll, refl, λ g. refl)
command_is (Command.Copy number) payload f = (world.copy number, refl, λ g. refl)
command_is (Command.HandMember k i) payload f = (world.hand_member k i, refl, λ g. refl)
command_is (Command.HandSequencer k) payload f = (world.hand_sequencer k, refl, λ g. refl)

pub asked_is : (action : Action) (command : Command) (payload : List ℕ) → Sized command → action ≡ action_of command → Meant action payload (meant_by (Some command) payload)
asked_is action command payload f e = subst (λ (a : Action). Meant a payload (meant_by (Some command) payload)) (sym e) (command_is command payload f)
