-- The loop's invariant: the search from the last number finds what the search from `below` finds.
use mathlib.Core.Path.{◌≡◌}
use Prim.Native.Nat.{◌-◌}
use lib.ListN.{length}
use Rattle.group.specs.Limits.{places_most}
use Rattle.history.specs.Marks.{enough_of}
use Rattle.history.proofs.enough.Given as goal

abbrev pub invariant-loop-below : goal.invariant-loop-below
invariant-loop-below l = (length l.marks ≡ places_most) × (enough_of l.marks l.needed l.fn.from.0 (l.fn.to.0 - l.fn.from.0) ≡ enough_of l.marks l.needed l.fn.from.0 (l.below - l.fn.from.0))
