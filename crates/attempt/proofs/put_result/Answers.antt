-- The survivors are two bytes, and the sender and the elected are among them.
use native.Mathlib.Omega.{arith}
use lib.ListN.{length}
use Rattle.attempt.proofs.Making.{result_laid}
use Rattle.attempt.proofs.put_result.Goals as goal

pub returns : goal.returns
returns c = let a = c.args in let p = c.requires in result_laid a.head a.elected a.number (length a.out.now) c.u16_bytes-survivors.ensures (let g = c.well_formed.0 in omega (arith, g)) p.0 p.1 p.2 c.put.ensures
