-- The loop's invariant: what was found is that of the members from `i` on.
use mathlib.Core.Path.{◌≡◌}
use lib.ListN.{drop}
use Rattle.recovery.specs.Begin.{highest_of}
use Rattle.recovery.proofs.highest_reply.Given as goal

abbrev pub invariant-loop-i : goal.invariant-loop-i
invariant-loop-i l = l.most ≡ highest_of l.repliers l.i (drop l.i l.replies)
