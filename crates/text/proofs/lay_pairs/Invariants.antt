-- The loop's invariant: the bytes laid, then those of the rest, are those of the whole, and the rest keeps its value.
use mathlib.Core.Path.{◌≡◌}
use mathlib.Core.List.{◌++◌}
use Prim.Native.Nat.{◌*◌}
use lib.ListN.{take, drop}
use Rattle.text.specs.Field.{pairs_of}
use Rattle.text.proofs.lay_pairs.Given as goal

abbrev pub invariant-loop-i : goal.invariant-loop-i
invariant-loop-i l = (take l.i l.payload ++ pairs_of (drop (2 * l.i) l.field) ≡ pairs_of l.field) × (drop l.i l.payload ≡ drop l.i l.initial.payload)
