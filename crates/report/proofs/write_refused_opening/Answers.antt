-- Where the room is there: the text, the number and the line feed, one behind the other.
use mathlib.Core.List.{[], ◌∷◌}
use Rattle.group.specs.Refusal.{number_of}
use Rattle.text.specs.Written.{decimal_of}
use Rattle.report.specs.Print.{wording_fields, line_room, refused_opening}
use Rattle.text.specs.Text.{text_of}
use Rattle.text.proofs.Pieces.{laid_line}
use Rattle.report.proofs.Pieces.{written, unwritten}
use borrow.Author.Rules.{rules}
use Rattle.report.proofs.write_refused_opening.Goals as goal

pub returns-then-out-lt-LINE_ROOM : goal.returns-then-out-lt-LINE_ROOM
returns-then-out-lt-LINE_ROOM c = let both = unwritten line_room (refused_opening c.args.refusal) c.args.out.now (search rules) in record { size = both.0; lent = both.1 }

pub returns : goal.returns
unfolding wording_fields
returns c =
    let a = c.args in
    let e = c.number-number.ensures in
    let both = written line_room (refused_opening a.refusal) a.out.now c.put.result _ (search rules)
    (laid_line (text_of "refused") (decimal_of (number_of a.refusal) ∷ []) c.put_text-next.ensures (rw e at c.put_number-next.ensures.laid) c.put.ensures) in
    record { size = both.0; lent = both.1 }
