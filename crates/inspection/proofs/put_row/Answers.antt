-- The terminal's number, the others, and the line feed, one behind the other.
use mathlib.Core.List.{map}
use native.Mathlib.Omega.{arith}
use Rattle.text.proofs.Decimal.{decimal_most}
use Rattle.text.specs.Written.{decimal_of, number_digits}
use Rattle.inspection.proofs.Rows.{laid_row}
use borrow.Author.Rules.{rules}
use Rattle.inspection.proofs.put_row.Goals as goal

pub put_decimal-next-requires : goal.put_decimal-next-requires
put_decimal-next-requires c = let m = decimal_most number_digits c.args.i (omega arith) (omega arith) in search rules

pub put_each-next-requires : goal.put_each-next-requires
put_each-next-requires c = let m = decimal_most number_digits c.args.i (omega arith) (omega arith) in search rules

pub put-requires : goal.put-requires
put-requires c = let m = decimal_most number_digits c.args.i (omega arith) (omega arith) in search rules

pub returns : goal.returns
returns c = let a = c.args in let m = decimal_most number_digits c.args.i (omega arith) (omega arith) in record { laid = laid_row (decimal_of a.i) (map decimal_of a.numbers.now) c.put_decimal-next.ensures c.put_each-next.ensures.laid c.put.ensures; short = search rules }
