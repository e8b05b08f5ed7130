-- The loop's invariant: the history is cleared of the numbers from the old floor up to `number`.
use mathlib.Core.Path.{◌≡◌}
use Prim.Native.Nat.{◌-◌, ◌≤◌}
use Rattle.store.specs.Places.{messages_in}
use Rattle.history.specs.Note.{cleared_of}
use Rattle.history.specs.View.{Places}
use Rattle.history.proofs.clear.Given as goal

abbrev pub invariant-loop-number : goal.invariant-loop-number
invariant-loop-number l = Places l.kept l.originators l.lengths l.payloads × (l.number - l.fn.was.0 ≤ l.fn.floor.0 - l.fn.was.0) × (messages_in l.kept l.originators l.lengths l.payloads ≡ cleared_of (messages_in l.initial.kept l.initial.originators l.initial.lengths l.initial.payloads) l.fn.was.0 (l.number - l.fn.was.0))
