-- The loop's invariant: the acknowledgements of the first `i` members start.
use mathlib.Core.Path.{◌≡◌}
use lib.ListN.{length}
use Rattle.group.specs.Limits.{members_most}
use Rattle.recovery.specs.Steps.{starts_of}
use Rattle.recovery.proofs.begin_taken.Given as goal

abbrev pub invariant-loop-i : goal.invariant-loop-i
invariant-loop-i l = (length l.taken ≡ members_most) × (l.taken ≡ starts_of l.initial.taken l.survivors l.floor.0 l.i)
