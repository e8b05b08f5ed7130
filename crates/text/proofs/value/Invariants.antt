-- The loop's invariant: the value so far is within the largest, and the rest of the digits bring it to the whole value.
use mathlib.Core.Path.{◌≡◌}
use Prim.Native.Nat.{◌≤◌}
use lib.ListN.{drop}
use Rattle.group.specs.Limits.{largest_number}
use Rattle.text.specs.Field.{value_from}
use Rattle.text.proofs.value.Given as goal

abbrev pub invariant-loop-c : goal.invariant-loop-c
invariant-loop-c l = (l.value ≤ largest_number) × (value_from 0 l.field ≡ value_from l.value (drop l.c-index l.field))
