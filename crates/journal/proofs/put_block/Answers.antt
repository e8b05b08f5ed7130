-- The frame, and behind it the sum of what it laid (`block_laid`).
use Rattle.journal.proofs.Laying.{frame_ends, block_laid}
use borrow.Author.Rules.{rules}
use Rattle.journal.proofs.put_block.Goals as goal

pub put_text-requires : goal.put_text-requires
put_text-requires c =
    let a = c.args in
    let e = frame_ends a.mark (search rules) a.first a.records a.body.now c.put_frame-end.ensures (search rules) (search rules) in
    search rules

pub returns : goal.returns
returns c =
    let a = c.args in
    block_laid a.mark (search rules) a.first a.records a.body.now c.put_frame-end.ensures (search rules) (search rules) c.sum-total.ensures
    (rw c.u32_bytes-summed.ensures at c.put_text.ensures)
