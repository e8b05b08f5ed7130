-- The loop's invariant: what was found is that of the members from `i` on.
use mathlib.Core.Path.{◌≡◌}
use lib.ListN.{drop}
use Rattle.recovery.specs.Begin.{holders_of}
use Rattle.recovery.proofs.holders.Given as goal

abbrev pub invariant-loop-i : goal.invariant-loop-i
invariant-loop-i l = l.found ≡ holders_of l.repliers l.highest.0 l.i (drop l.i l.replies)
