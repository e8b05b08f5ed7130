-- The loop's invariant: the numbers passed are laid.
use mathlib.Core.List.{map}
use Prim.Native.Nat.{◌+◌, ◌*◌, ◌≤◌}
use lib.ListN.{take}
use Rattle.text.specs.Written.{decimal_of, spaced}
use Rattle.text.specs.LaidAt.{LaidAt}
use Rattle.report.proofs.put_each.Given as goal

abbrev pub invariant-loop-number : goal.invariant-loop-number
invariant-loop-number l = (l.next ≤ l.at + 11 * l.number-index) × LaidAt l.at (spaced (map decimal_of (take l.number-index l.numbers))) l.initial.out l.out l.next
