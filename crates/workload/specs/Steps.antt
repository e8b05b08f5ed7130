-- What the private functions promise on the way. No public promise speaks of it.
use Rattle.std.specs.Prelude.{[], ◌∷◌}
use Rattle.generator.specs.declared.Generator.{Generator}
use Rattle.model.specs.World as world
use Rattle.model.specs.World.{submit, repeat, take, status, poll, copy, hand_member, hand_sequencer}
use Rattle.workload.specs.Choice as choice
use Rattle.workload.specs.declared.Event.{Event}
use Rattle.workload.specs.declared.Event.TheVariants.{Submit, Repeat, Take, Status, Poll, Copy, HandMember, HandSequencer}

-- the event that a value of the code is
unfoldable pub event_in : Event → world.Event
event_in (Submit i byte) = submit i (byte ∷ [])
event_in (Repeat i) = repeat i
event_in (Take i) = take i
event_in (Status i) = status i
event_in Poll = poll
event_in (Copy number) = copy number
event_in (HandMember k i) = hand_member k i
event_in (HandSequencer k) = hand_sequencer k

-- and the same with the state behind its choices
abbrev pub chosen_in : Event → Generator → choice.Chosen
chosen_in event generator = record { event = event_in event; state = generator.state }
