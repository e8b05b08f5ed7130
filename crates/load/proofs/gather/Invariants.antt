-- Each turn lays one line behind the others, while there is room for it.
use mathlib.Core.Path.{◌≡◌}
use Prim.Native.Nat.{◌≤◌}
use lib.ListN.{length}
use Rattle.load.specs.Steps.{Lays}
use Rattle.load.proofs.gather.Given as goal

abbrev pub invariant-loop-left : goal.invariant-loop-left
invariant-loop-left l =
    (length l.out ≡ length l.initial.out) × (l.size ≤ length l.out) × (l.left ≤ l.events) × (l.left ≡ l.events → l.size ≡ 0) × Lays l.initial.load l.events l.initial.out l.out l.load l.left l.size

abbrev pub decreases-loop-left : goal.decreases-loop-left
decreases-loop-left l = l.left
