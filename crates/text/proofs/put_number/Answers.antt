-- A space, and the number behind it, which has so many digits at the most.
use native.Mathlib.Omega.{arith}
use Rattle.text.proofs.Pieces.{laid_field}
use Rattle.text.proofs.Decimal.{decimal_most}
use Rattle.text.specs.Written.{decimal_of, number_digits}
use borrow.Author.Rules.{rules}
use Rattle.text.proofs.put_number.Goals as goal

pub put_decimal-requires : goal.put_decimal-requires
put_decimal-requires c = let m = decimal_most number_digits c.args.n (omega arith) (omega arith) in search rules

pub returns : goal.returns
returns c =
    let m = decimal_most number_digits c.args.n (omega arith) (omega arith) in
    record { laid = laid_field (decimal_of c.args.n) c.put-next.ensures c.put_decimal.ensures; short = omega arith }
