-- The loop's invariant: what was added up and the sum of the rest are the sum, which no number of 64 bits is too small for.
use mathlib.Core.Path.{◌≡◌}
use Prim.Native.Nat.{◌+◌, ◌*◌, ◌≤◌}
use lib.ListN.{length, drop}
use Rattle.group.specs.Limits.{members_most, largest_number}
use Rattle.history.specs.Repeat.{repeats_sum}
use Rattle.history.specs.View.{repeats_only}
use Rattle.history.proofs.repeats.Given as goal

abbrev pub invariant-loop-count : goal.invariant-loop-count
invariant-loop-count l = (length l.repeats ≡ members_most) × (l.sum ≤ l.count-index * largest_number) × (l.sum + repeats_sum (drop l.count-index (repeats_only l.repeats)) ≡ repeats_sum (repeats_only l.repeats))
