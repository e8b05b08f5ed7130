-- The test is the definition's.
use mathlib.Core.Path.{sym, ◌∙◌}
use Rattle.text.proofs.Pieces.{laid_none}
use Rattle.text.specs.Written.{spaced}
use Rattle.reset_report.proofs.Pieces.{listed, unlisted}
use borrow.Author.Rules.{rules}
use Rattle.reset_report.proofs.put_listed.Goals as goal

pub returns-then-is_in : goal.returns-then-is_in
returns-then-is_in c =
    let a = c.args in
    record { laid = rw (listed a.mask a.i (sym c.is_in.ensures ∙ c.if-is_in.true)) c.put_number.ensures.laid; short = search rules }

pub returns-else-is_in : goal.returns-else-is_in
unfolding spaced
returns-else-is_in c =
    let a = c.args in
    record { laid = rw (unlisted a.mask a.i (sym c.is_in.ensures ∙ c.if-is_in.false)) (laid_none a.at a.out.now (search rules)); short = search rules }
