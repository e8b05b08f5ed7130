-- The loop's invariant: the sum so far and those of the rest of each half are what they were for the halves.
use mathlib.Core.Path.{◌≡◌}
use Prim.Native.Nat.{◌+◌, ◌*◌, ◌≤◌}
use lib.ListN.{take, drop}
use Rattle.journal.specs.Limits.{records_end}
use Rattle.journal.specs.Block.{sum_from}
use Rattle.journal.proofs.Block.sum.Given as goal

abbrev pub invariant-loop-i : goal.invariant-loop-i
invariant-loop-i l =
    (l.weight ≡ l.i + 1) × (l.total ≤ 194310 * l.i) × (l.total + (sum_from l.i (drop l.i (take records_end l.self)) + sum_from (l.i + 254) (drop (l.i + 254) (take records_end l.self))) ≡ sum_from 0 (take records_end l.self) + sum_from 254 (drop 254 (take records_end l.self)))
