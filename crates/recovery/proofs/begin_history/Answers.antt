-- The places are empty, and then filled.
use mathlib.Core.Path.{ap, ◌∙◌}
use Prim.Native.Nat.{◌-◌}
use mathlib.Core.List.{List}
use Rattle.group.specs.Limits.{places_most}
use Rattle.message.specs.Message.{Message}
use Rattle.store.specs.Places.{messages_in}
use Rattle.store.proofs.Places.{messages_none}
use Rattle.recovery.specs.Steps.{filled_of}
use Rattle.recovery.proofs.begin_history.Goals as goal

pub returns : goal.returns
returns c = let a = c.args in c.fill.ensures ∙ ap (λ (l : List Message). filled_of l (messages_in a.past.now a.past_originators.now a.past_lengths.now a.past_payloads.now) (messages_in a.held.now a.held_originators.now a.held_lengths.now a.held_payloads.now) a.taken.0 a.floor.0 (a.last.0 - a.floor.0)) (messages_none places_most)
