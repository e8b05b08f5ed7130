-- The loop's invariant: the smaller of `low` and the smallest of the rest is floor.
use mathlib.Core.Path.{◌≡◌}
use Prim.Native.Nat.{◌≤◌}
use lib.ListN.{length, drop}
use Rattle.group.specs.Fold.{least_of}
use Rattle.group.specs.Limits.{members_most}
use Rattle.group.specs.Members.{is_in}
use Rattle.history.specs.State.{Acknowledgement, floor_of}
use Rattle.history.specs.View.{taken_only}
use Rattle.history.proofs.smallest.Given as goal

abbrev pub invariant-loop-i : goal.invariant-loop-i
invariant-loop-i l = (l.i ≤ members_most) × (length l.taken ≡ members_most) × (least_of (is_in l.survivors) (λ (a : Acknowledgement). a.taken.0) l.i l.low (drop l.i (taken_only l.taken)) ≡ floor_of l.survivors (taken_only l.taken))
