-- Where the room is there: the text and the line feed.
use mathlib.Core.List.{[], ◌∷◌}
use Rattle.text.specs.Text.{text_of, line_feed}
use Rattle.text.proofs.Pieces.{laid_then}
use Rattle.report.proofs.Pieces.{written, unwritten}
use Rattle.text.specs.Written.{spaced}
use Rattle.report.specs.Print.{line_room, bad_opening}
use borrow.Author.Rules.{rules}
use Rattle.report.proofs.write_bad_opening.Goals as goal

pub returns-then-out-lt-LINE_ROOM : goal.returns-then-out-lt-LINE_ROOM
returns-then-out-lt-LINE_ROOM c = let both = unwritten line_room bad_opening c.args.out.now (search rules) in record { size = both.0; lent = both.1 }

pub returns : goal.returns
unfolding spaced
returns c = let both = written line_room bad_opening c.args.out.now c.put.result _ (search rules)
    (laid_then (text_of "bad line") (line_feed ∷ []) c.put_text-next.ensures c.put.ensures) in record { size = both.0; lent = both.1 }
