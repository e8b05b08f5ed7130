-- Where the room is there: the number, the answer and the line feed, one behind the other.
use mathlib.Core.Path.{sym, ◌∙◌}
use native.Mathlib.Omega.{arith}
use lib.ListN.{length}
use Rattle.text.proofs.Decimal.{decimal_most}
use Rattle.text.specs.Written.{decimal_of, count_digits}
use Rattle.model.specs.World.{answer_of}
use Rattle.report.specs.Print.{event_room, answer_fields, line_of}
use Rattle.text.proofs.Pieces.{laid_line}
use Rattle.report.proofs.Pieces.{written, unwritten}
use borrow.Author.Tests.{leb-true, leb-false}
use Rattle.report.proofs.write_event.Goals as goal

pub put_decimal-next-requires : goal.put_decimal-next-requires
put_decimal-next-requires c =
    let m = decimal_most count_digits c.args.number (omega arith) (omega arith) in
    let h = leb-true (event_room c.args.payload.now) (length c.args.out.now) (sym c.fits.ensures ∙ c.if-fits.true) in
    omega arith

pub put_reply-next-requires : goal.put_reply-next-requires
put_reply-next-requires c =
    let m = decimal_most count_digits c.args.number (omega arith) (omega arith) in
    let h = leb-true (event_room c.args.payload.now) (length c.args.out.now) (sym c.fits.ensures ∙ c.if-fits.true) in
    omega arith

pub put-requires : goal.put-requires
put-requires c =
    let m = decimal_most count_digits c.args.number (omega arith) (omega arith) in
    let h = leb-true (event_room c.args.payload.now) (length c.args.out.now) (sym c.fits.ensures ∙ c.if-fits.true) in
    omega arith

pub returns-then-fits : goal.returns-then-fits
returns-then-fits c =
    let a = c.args in
    let w = answer_of a.reply a.payload.now in
    let h = leb-true (event_room c.args.payload.now) (length c.args.out.now) (sym c.fits.ensures ∙ c.if-fits.true) in
    let both = written (event_room a.payload.now) (line_of a.number w a.index) a.out.now c.put.result _ h
    (laid_line (decimal_of a.number) (answer_fields w a.index) c.put_decimal-next.ensures c.put_reply-next.ensures.laid c.put.ensures) in
    record { size = both.0; lent = both.1 }

pub returns-else-fits : goal.returns-else-fits
returns-else-fits c =
    let a = c.args in
    let both = unwritten (event_room a.payload.now) (line_of a.number (answer_of a.reply a.payload.now) a.index) a.out.now (leb-false _ _ (sym c.fits.ensures ∙ c.if-fits.false)) in
    record { size = both.0; lent = both.1 }
