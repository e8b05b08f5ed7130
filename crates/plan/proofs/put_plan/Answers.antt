-- The loop's invariant: the rows passed are laid at the front.
use Rattle.std.proofs.Common.{◌∙◌, zero-add, take, rules}
use Rattle.text.proofs.Pieces.{laid_none, laid_then}
use Rattle.plan.specs.Table.{row_at, plan_at, starts_of}
use Rattle.plan.proofs.Printing.{stands_at, table_on, table_room_lem, table_all}
use Rattle.plan.proofs.put_plan.Goals as goal

pub loop-row-init : goal.loop-row-init
unfolding plan_at
loop-row-init c = laid_none 0 c.args.out.now (search rules)

pub put_row-at-requires : goal.put_row-at-requires
put_row-at-requires c =
    let l = c.loop-row in
    let (all, room) = c.requires in
    let r = table_room_lem c.args.journal.now c.args.rows.now l.row-index c.loop-row-test.true all in
    let e = l.invariant.ends in
    (stands_at _ _ _ c.loop-row-test.true all, search rules)

pub loop-row-preserved : goal.loop-row-preserved
loop-row-preserved c =
    let l = c.loop-row in
    let j = c.args.journal.now in
    let rows = c.args.rows.now in
    rw (table_on j rows l.row-index c.loop-row-test.true c.requires.0) (laid_then (plan_at j (take l.row-index (starts_of rows))) (row_at j _) l.invariant c.put_row-at.ensures)

pub returns : goal.returns
returns c =
    let l = c.loop-row in
    let e = table_all c.args.journal.now c.args.rows.now l.row-index (search rules) in
    l.invariant.lays ∙ rw (e, zero-add)
