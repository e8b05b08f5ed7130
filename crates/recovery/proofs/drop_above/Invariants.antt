-- The loop's invariant: of the first `k` numbers above the last taken those above the number are dropped.
use mathlib.Core.Path.{◌≡◌}
use Rattle.store.specs.Places.{messages_in}
use Rattle.recovery.specs.Begin.{dropped_of}
use Rattle.recovery.specs.Steps.{Held}
use Rattle.recovery.proofs.drop_above.Given as goal

abbrev pub invariant-loop-k : goal.invariant-loop-k
invariant-loop-k l = Held l.held l.held_originators l.held_lengths l.held_payloads × (messages_in l.held l.held_originators l.held_lengths l.held_payloads ≡ dropped_of (messages_in l.initial.held l.initial.held_originators l.initial.held_lengths l.initial.held_payloads) l.number.0 l.taken.0 l.k)
