-- The part of the block in hand that is used is the body of the block.
use mathlib.Core.Path.{sym, ap, ◌∙◌}
use Rattle.journal.specs.Limits.{records_at}
use Rattle.journal.specs.Block.{framed, block_of}
use Rattle.journal.proofs.Lists.{drop_take}
use Rattle.journal.proofs.Writer.hand_out.Goals as goal

pub returns : goal.returns
unfolding block_of framed
returns c =
    let a = c.args in
    let w = a.self in
    c.put_block.ensures ∙ ap (block_of w.first.0 w.records) (sym (drop_take records_at w.used a.hand.now))
