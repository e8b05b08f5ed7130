-- Where the room is there: the number, the text and the line feed, one behind the other.
use mathlib.Core.List.{[], ◌∷◌}
use native.Mathlib.Omega.{arith}
use Rattle.text.proofs.Decimal.{decimal_most}
use Rattle.text.specs.Written.{decimal_of, count_digits, line}
use Rattle.report.specs.Print.{line_room}
use Rattle.text.proofs.Pieces.{laid_line}
use Rattle.report.proofs.Pieces.{written, unwritten}
use borrow.Author.Rules.{rules}
use Rattle.report.proofs.write_note.Goals as goal

pub returns-then-out-lt-LINE_ROOM : goal.returns-then-out-lt-LINE_ROOM
returns-then-out-lt-LINE_ROOM c = let a = c.args in let both = unwritten line_room (line (decimal_of a.number ∷ a.text.now ∷ [])) a.out.now (search rules) in record { size = both.0; lent = both.1 }

pub put_decimal-next-requires : goal.put_decimal-next-requires
put_decimal-next-requires c = let m = decimal_most count_digits c.args.number (omega arith) (omega arith) in omega arith

pub put_word-next-requires : goal.put_word-next-requires
put_word-next-requires c = let m = decimal_most count_digits c.args.number (omega arith) (omega arith) in omega arith

pub put-requires : goal.put-requires
put-requires c = let m = decimal_most count_digits c.args.number (omega arith) (omega arith) in omega arith

pub returns : goal.returns
returns c =
    let a = c.args in
    let both = written line_room (line (decimal_of a.number ∷ a.text.now ∷ [])) a.out.now c.put.result _ (search rules)
    (laid_line (decimal_of a.number) (a.text.now ∷ []) c.put_decimal-next.ensures c.put_word-next.ensures.laid c.put.ensures) in
    record { size = both.0; lent = both.1 }
