-- Each piece is laid behind the one before it (`frame_laid`).
use Rattle.journal.proofs.Laying.{frame_laid}
use Rattle.journal.proofs.put_frame.Goals as goal

pub returns : goal.returns
returns c =
    let a = c.args in
    frame_laid a.mark c.well_formed.0.1.0.1 a.first a.records a.body.now c.put_text-marked.ensures (rw c.u32_bytes-numbered.ensures at c.put_text-next.ensures)
    (rw c.u16_bytes-counted.ensures at c.put_text-start.ensures) c.put_text-end.ensures c.put_zeros.ensures
