-- The loop's invariant: the search from top finds what the search from `below` finds.
use mathlib.Core.Path.{◌≡◌}
use Prim.Native.Nat.{◌-◌}
use lib.ListN.{length}
use Rattle.group.specs.Limits.{places_most}
use Rattle.history.specs.Repeat.{find_of}
use Rattle.history.specs.View.{listed}
use Rattle.history.proofs.find.Given as goal

abbrev pub invariant-loop-below : goal.invariant-loop-below
invariant-loop-below l = (length l.kept ≡ places_most) × (length l.originators ≡ places_most) × (find_of (listed l.kept l.originators) l.sender l.count l.fn.floor.0 (l.fn.top.0 - l.fn.floor.0) ≡ find_of (listed l.kept l.originators) l.sender l.count l.fn.floor.0 (l.below - l.fn.floor.0))
