-- The loop's invariant: the history has the numbers above floor up to `number`.
use mathlib.Core.Path.{◌≡◌}
use Prim.Native.Nat.{◌-◌, ◌≤◌}
use Rattle.store.specs.Places.{messages_in}
use Rattle.history.specs.View.{Places}
use Rattle.recovery.specs.Steps.{filled_of}
use Rattle.recovery.proofs.fill.Given as goal

abbrev pub invariant-loop-number : goal.invariant-loop-number
invariant-loop-number l = Places l.kept l.originators l.lengths l.payloads × (l.number - l.fn.floor.0 ≤ l.fn.last.0 - l.fn.floor.0) × (messages_in l.kept l.originators l.lengths l.payloads ≡ filled_of (messages_in l.initial.kept l.initial.originators l.initial.lengths l.initial.payloads) (messages_in l.past l.past_originators l.past_lengths l.past_payloads) (messages_in l.held l.held_originators l.held_lengths l.held_payloads) l.taken.0 l.fn.floor.0 (l.number - l.fn.floor.0))
