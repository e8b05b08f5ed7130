-- The number, and the record behind it.
use Rattle.plan.proofs.Stepping.{numbered_laid}
use Rattle.plan.proofs.put_numbered.Goals as goal

pub returns : goal.returns
returns c =
    let a = c.args in
    numbered_laid a.journal.now a.spot c.requires.0 _ _ c.u32_bytes.ensures c.u32_at-count.ensures c.put_text-next.ensures c.put_record.ensures
