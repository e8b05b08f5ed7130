-- The loop's invariant: the marks are sound exactly if those of the numbers after the first `i` are.
use mathlib.Core.Path.{◌≡◌}
use Prim.Native.Nat.{◌+◌, ◌-◌}
use lib.ListN.{length}
use Rattle.group.specs.Fold.{all_above}
use Rattle.group.specs.Limits.{places_most}
use Rattle.history.specs.Marks.{mark_sound}
use Rattle.history.proofs.marks_sound.Given as goal

abbrev pub invariant-loop-i : goal.invariant-loop-i
invariant-loop-i l = (length l.marks ≡ places_most) × (all_above (mark_sound l.expected l.marks l.accepted.0 l.top.0) l.floor.0 places_most ≡ all_above (mark_sound l.expected l.marks l.accepted.0 l.top.0) (l.floor.0 + l.i) (places_most - l.i))
