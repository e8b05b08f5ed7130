-- The loop's invariant: the member is marked for the numbers up to `number`.
use mathlib.Core.Path.{◌≡◌}
use Prim.Native.Nat.{◌-◌, ◌≤◌}
use lib.ListN.{length}
use Rattle.group.specs.Limits.{places_most}
use Rattle.history.specs.Marks.{marked_of}
use Rattle.history.proofs.mark.Given as goal

abbrev pub invariant-loop-number : goal.invariant-loop-number
invariant-loop-number l = (length l.marks ≡ places_most) × (l.number - l.fn.from.0 ≤ l.fn.to.0 - l.fn.from.0) × (l.marks ≡ marked_of l.initial.marks l.fn.member l.fn.from.0 (l.number - l.fn.from.0))
