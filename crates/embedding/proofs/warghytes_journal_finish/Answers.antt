-- The second number, and then what the writer gives back, settle what is told and what is left.
use mathlib.Core.Path.{refl}
use Rattle.embedding.specs.Journals.{writer_in}
use Rattle.embedding.proofs.Writing.{finish_hand, writes_none, finish_step, finish_refused}
use borrow.Author.Rules.{rules}
use Rattle.embedding.proofs.warghytes_journal_finish.Goals as goal

pub returns-then-writer-gt1 : goal.returns-then-writer-gt1
returns-then-writer-gt1 c = rw c.refused.ensures (writes_none _ _ _ c.if-writer-gt1.true)

pub returns-in-Ok : goal.returns-in-Ok
unfolding writer_in
returns-in-Ok c =
    finish_step c.args.writer.now c.args.hand.now _ c.writer_in-state.ensures.is c.if-writer-gt1.false _ c.in-Ok.ensures.answer
    c.writer_tells.ensures c.numbers_of.ensures (finish_hand _ _) c.finish.ensures.lent

pub returns-in-Err : goal.returns-in-Err
unfolding writer_in
returns-in-Err c =
    finish_refused c.args.writer.now c.args.hand.now _ c.writer_in-state.ensures.is c.if-writer-gt1.false _ (search rules) c.in-Err.ensures.answer
    c.refused-in-Err.ensures refl (finish_hand _ _) c.finish.ensures.lent
