-- The second number, and then what the writer gives back, settle what is told and what is left.
use mathlib.Core.Path.{refl}
use Rattle.embedding.specs.Journals.{writer_in}
use Rattle.embedding.proofs.Writing.{writes_none, writes_step, writes_refused}
use borrow.Author.Rules.{rules}
use Rattle.embedding.proofs.warghytes_journal_write.Goals as goal

pub returns-then-writer-gt1 : goal.returns-then-writer-gt1
returns-then-writer-gt1 c = rw c.refused.ensures (writes_none _ _ _ c.if-writer-gt1.true)

pub returns-in-Ok : goal.returns-in-Ok
unfolding writer_in
returns-in-Ok c =
    let e = c.write-written.ensures in
    writes_step c.args.writer.now c.args.hand.now _ c.writer_in-state.ensures.is c.if-writer-gt1.false _ _ c.in-Ok.ensures.answer
    c.writer_tells.ensures c.numbers_of.ensures e.hand e.lent

pub returns-in-Err : goal.returns-in-Err
unfolding writer_in
returns-in-Err c =
    let e = c.write-written.ensures in
    writes_refused c.args.writer.now c.args.hand.now _ c.writer_in-state.ensures.is c.if-writer-gt1.false _ (search rules) _ c.in-Err.ensures.answer
    c.refused-in-Err.ensures refl e.hand e.lent
