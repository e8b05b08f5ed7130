-- The numbers of terminal and place, the holder, the bytes, and the line feed, one behind the other.
use mathlib.Core.List.{[], ◌∷◌}
use native.Mathlib.Omega.{arith}
use lib.ListN.{take}
use Rattle.text.proofs.Decimal.{decimal_most}
use Rattle.text.proofs.Pieces.{laid_fields}
use Rattle.text.specs.Written.{decimal_of, payload_text, number_digits}
use Rattle.inspection.specs.Lists.{holder_text}
use Rattle.inspection.proofs.Rows.{laid_row}
use borrow.Author.Rules.{rules}
use Rattle.inspection.proofs.put_job.Goals as goal

pub put_decimal-next-requires : goal.put_decimal-next-requires
put_decimal-next-requires c = let m = decimal_most number_digits c.args.i (omega arith) (omega arith) in search rules

pub put_number-next-requires : goal.put_number-next-requires
put_number-next-requires c = let m = decimal_most number_digits c.args.i (omega arith) (omega arith) in search rules

pub put_holder-next-requires : goal.put_holder-next-requires
put_holder-next-requires c = let m = decimal_most number_digits c.args.i (omega arith) (omega arith) in search rules

pub put_bytes-next-requires : goal.put_bytes-next-requires
put_bytes-next-requires c = let m = decimal_most number_digits c.args.i (omega arith) (omega arith) in search rules

pub put-requires : goal.put-requires
put-requires c = let m = decimal_most number_digits c.args.i (omega arith) (omega arith) in search rules

pub returns : goal.returns
returns c =
    let a = c.args in
    let p = decimal_of a.place in
    let h = holder_text a.job.state a.job.member in
    let b = payload_text (take a.job.length a.job.bytes) in
    let f = laid_fields (p ∷ []) (h ∷ []) c.put_number-next.ensures.laid c.put_holder-next.ensures.laid in
    let g = laid_fields (p ∷ h ∷ []) (b ∷ []) f c.put_bytes-next.ensures.laid in
    laid_row (decimal_of a.i) (p ∷ h ∷ b ∷ []) c.put_decimal-next.ensures g c.put.ensures
