-- The loop's invariant: the digits of what is left, then those written, are those of the number, and have room.
use mathlib.Core.Path.{◌≡◌}
use mathlib.Core.List.{◌++◌}
use Prim.Native.Nat.{◌≤◌}
use lib.ListN.{length, drop}
use Rattle.text.specs.Written.{decimal_digits, count_digits}
use Rattle.text.proofs.spell.Given as goal

abbrev pub invariant-loop-rest : goal.invariant-loop-rest
invariant-loop-rest l = (l.start ≤ count_digits) × (length l.digits ≡ count_digits) × (length (decimal_digits l.rest l.rest) ≤ l.start) × (decimal_digits l.rest l.rest ++ drop l.start l.digits ≡ decimal_digits l.n l.n)

abbrev pub decreases-loop-rest : goal.decreases-loop-rest
decreases-loop-rest l = l.rest
