-- A mask of 16 bits has at most 16 zeros below its lowest.
use native.Mathlib.Omega.{arith}
use lib.Count.{trailing_le}
use Rattle.recovery.proofs.lowest_holder.Goals as goal

pub overflow_cast-result : goal.overflow_cast-result
overflow_cast-result c = let z = trailing_le 16 c.holders-found.result in record { fits = omega arith }
