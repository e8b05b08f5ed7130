-- The loop's invariant: what is looked for is the lowest missing above the numbers passed.
use mathlib.Core.Path.{◌≡◌}
use Prim.Native.Nat.{◌-◌}
use Rattle.window.specs.Steps.{lowest_uncounted}
use Rattle.window.proofs.lowest_missing.Given as goal

abbrev pub invariant-loop-number : goal.invariant-loop-number
invariant-loop-number l = lowest_uncounted l.counts l.fn.taken.0 (l.fn.last.0 - l.fn.taken.0) ≡ lowest_uncounted l.counts l.number (l.fn.last.0 - l.number)
