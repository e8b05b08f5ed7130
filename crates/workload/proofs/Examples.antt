-- The first events of two seeds, computed. Assumes nothing.
use mathlib.Core.Path.{refl}
use Rattle.generator.specs.Generator.{stepped, output_of}
use Rattle.group.specs.Choice.{when◌then◌else◌}
use Rattle.workload.specs.Choice.{drawn, chosen, event_from, events_from}
use Rattle.workload.specs.Laws.{FirstEvents}

pub first_events : FirstEvents
unfolding events_from event_from chosen drawn stepped output_of when◌then◌else◌
first_events = record { smallest = refl; largest = refl }
