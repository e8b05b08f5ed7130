-- Where the room is there: top and floor, what each member took, and the line feed, one behind the other.
use mathlib.Core.Path.{sym, ◌∙◌}
use mathlib.Core.List.{[], ◌∷◌, map}
use native.Mathlib.Omega.{arith}
use lib.ListN.{length}
use Rattle.text.specs.Written.{decimal_of}
use Rattle.report.specs.Print.{last_room, last_line}
use Rattle.text.specs.Text.{text_of}
use Rattle.report.proofs.Pieces.{laid_longer, written, unwritten}
use borrow.Author.Tests.{leb-true, leb-false}
use Rattle.report.proofs.write_last.Goals as goal

pub put_tops-next-requires : goal.put_tops-next-requires
put_tops-next-requires c =
    let h = leb-true (last_room c.args.taken.now) (length c.args.out.now) (sym c.fits.ensures ∙ c.if-fits.true) in
    omega arith

pub put_each-next-requires : goal.put_each-next-requires
put_each-next-requires c =
    let h = leb-true (last_room c.args.taken.now) (length c.args.out.now) (sym c.fits.ensures ∙ c.if-fits.true) in
    omega arith

pub put-requires : goal.put-requires
put-requires c =
    let h = leb-true (last_room c.args.taken.now) (length c.args.out.now) (sym c.fits.ensures ∙ c.if-fits.true) in
    omega arith

pub returns-then-fits : goal.returns-then-fits
returns-then-fits c =
    let a = c.args in
    let h = leb-true (last_room c.args.taken.now) (length c.args.out.now) (sym c.fits.ensures ∙ c.if-fits.true) in
    let both = written (last_room a.taken.now) (last_line a.top.0 a.floor.0 a.taken.now) a.out.now c.put.result _ h
    (laid_longer (text_of "top") (decimal_of a.top.0 ∷ text_of "floor" ∷ decimal_of a.floor.0 ∷ text_of "taken" ∷ []) (map decimal_of a.taken.now) c.put_tops-next.ensures.laid c.put_each-next.ensures.laid c.put.ensures) in
    record { size = both.0; lent = both.1 }

pub returns-else-fits : goal.returns-else-fits
returns-else-fits c =
    let a = c.args in
    let both = unwritten (last_room a.taken.now) (last_line a.top.0 a.floor.0 a.taken.now) a.out.now (leb-false _ _ (sym c.fits.ensures ∙ c.if-fits.false)) in
    record { size = both.0; lent = both.1 }
