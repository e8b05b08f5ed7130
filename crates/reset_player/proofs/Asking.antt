-- What a command asks of the world is its event. Assumes nothing.
use mathlib.Core.Path.{◌≡◌, refl, sym, ap, ◌∙◌, subst}
use mathlib.Core.List.{List}
use Rattle.std.specs.Prelude.{Option, Some}
use Prim.Native.Nat.{ℕ, ◌≤◌, zero-le}
use lib.ListN.{take}
use Rattle.reset.specs.World as world
use Rattle.reset.specs.World.{Event, Group, Happened, happen}
use Rattle.reset_schedule.specs.Laws.{meant_by}
use Rattle.reset_schedule.specs.declared.Command.{Command}
use Rattle.reset_simulator.proofs.Playing.{submit_is, repeat_is, take_is, status_is, poll_is, copy_is, invite_is, make_is, member_is, sequencer_is}
use Rattle.reset_simulator.specs.Steps.{happened_at, handed_to}
use Rattle.reset_simulator.specs.Whole.{group_of, Whole, Plays}
use Rattle.reset_simulator.specs.declared.Happening.{Happening}
use Rattle.reset_simulator.specs.declared.World.{World}
use Rattle.schedule.specs.Line.{payload_room}
use Rattle.reset_player.specs.Steps.{action_of, Sized, Performed}
use Rattle.reset_player.specs.declared.Action.{Action}

-- there is an event, and it happens so
abbrev pub Is : (Group → Happened) → Option Event → Type 0
Is happened o = (event : Event) × (o ≡ Some event) × ((g : Group) → happened g ≡ happen g event)

unfoldable pub Meant : Action → List ℕ → Option Event → Type 0
Meant (Action.Act call i size) payload o = (size ≤ payload_room) × Is (happened_at call i (take size payload)) o
Meant (Action.Hand call k i) payload o = Is (handed_to call k i) o

command_is : (command : Command) (payload : List ℕ) → Sized command → Meant (action_of command) payload (meant_by (Some command) payload)
unfolding Meant action_of meant_by
command_is (Command.Submit i size) payload f = (f i size refl, (world.submit i (take size payload), refl, λ g. submit_is i g (take size payload)))
command_is (Command.Repeat i) payload f = (zero-le, (world.repeat i, refl, λ g. repeat_is i g (take 0 payload)))
command_is (Command.Take i) payload f = (zero-le, (world.take i, refl, λ g. take_is i g (take 0 payload)))
command_is (Command.Status i) payload f = (zero-le, (world.status i, refl, λ g. status_is i g (take 0 payload)))
command_is (Command.Poll i) payload f = (zero-le, (world.poll i, refl, λ g. poll_is i g (take 0 payload)))
command_is (Command.Copy i number) payload f = (zero-le, (world.copy i number, refl, λ g. copy_is i g (record { 0 = number }) (take 0 payload)))
command_is (Command.HandMember k i) payload f = (world.hand_member k i, refl, λ g. member_is i g k)
command_is (Command.HandSequencer k i) payload f = (world.hand_sequencer k i, refl, λ g. sequencer_is i g k)
command_is (Command.Invite i number) payload f = (zero-le, (world.invite i number, refl, λ g. invite_is i g number (take 0 payload)))
command_is (Command.Make i demand) payload f = (zero-le, (world.make i demand, refl, λ g. make_is i g demand (take 0 payload)))

pub asked_is : (action : Action) (command : Command) (payload : List ℕ) → Sized command → action ≡ action_of command → Meant action payload (meant_by (Some command) payload)
asked_is action command payload f e = subst (λ (a : Action). Meant a payload (meant_by (Some command) payload)) (sym e) (command_is command payload f)

-- what was performed is the same
pub as_performed : {x y : Option Event} (world : World) (w w' : Whole) (h : Happening) (before after : List ℕ) → x ≡ y → Performed x world w h w' before after → Performed y world w h w' before after
as_performed world w w' h before after e p = subst (λ (z : Option Event). Performed z world w h w' before after) e p

-- what happened is the event
pub performed_by : (o : Option Event) (happened : Group → Happened) {world : World} {w w' : Whole} {h : Happening} {before after : List ℕ} → Is happened o → Plays happened world w h w' before after → Performed o world w h w' before after
unfolding Performed
performed_by o happened {world} {w} {w'} {h} {before} {after} m p =
    as_performed world w w' h before after (sym m.1)
    (record {
      group = λ k. p.group k ∙ ap (λ (x : Happened). x.group) (m.2 (group_of w));
      answer = λ k. p.answer k ∙ ap (λ (x : Happened). x.answer) (m.2 (group_of w));
      stays = p.stays;
      lent = p.lent;
      size = p.size;
      same = p.same;
      most = p.most;
      terminals = p.terminals;
      packets = p.packets;
    })
