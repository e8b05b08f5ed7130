-- The record is laid in the block in hand (`kept_fits`), or in the next one after that block was handed out (`kept_over`).
use Rattle.journal.specs.Write.{message_with}
use Rattle.journal.specs.Block.{record_of}
use Rattle.journal.proofs.Keeping.{kept_fits, kept_over}
use borrow.Author.Rules.{rules}
use Rattle.journal.proofs.Writer.keep.Goals as goal

pub returns-then-self-payload-le-SUM : goal.returns-then-self-payload-le-SUM
unfolding record_of
returns-then-self-payload-le-SUM c =
    let a = c.args in
    kept_fits a.self (message_with a.number a.originator a.count a.payload.now) _ c.if-self-payload-le-SUM.true c.put_record-end.ensures c.grown-writer.ensures

pub grown-writer-requires-2 : goal.grown-writer-requires-2
grown-writer-requires-2 c = let e = c.after.ensures in rw e (search rules)

pub returns : goal.returns
unfolding record_of
returns c =
    let a = c.args in
    let p = c.requires in
    kept_over a.self (message_with a.number a.originator a.count a.payload.now) _ c.if-self-payload-le-SUM.false (search rules) (search rules) p.records_le_records_end.1 p.records_le_records_end.2
    c.hand_out.ensures c.put_record-end-2.ensures (rw c.after.ensures at c.grown-writer-2.ensures)
