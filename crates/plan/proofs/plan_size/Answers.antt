-- The loop's invariant: the size so far is that of the rows passed.
use Rattle.std.proofs.Common.{refl, ap, ◌∙◌, length, arith, rules}
use Rattle.plan.specs.Table.{plan_at}
use Rattle.plan.proofs.Printing.{stands_at, table_size, table_all}
use Rattle.plan.proofs.plan_size.Goals as goal

pub loop-row-init : goal.loop-row-init
unfolding plan_at
loop-row-init c = (search rules, refl)

pub length_before-requires : goal.length_before-requires
length_before-requires c = stands_at _ _ _ (search rules) c.requires.1

pub loop-row-preserved : goal.loop-row-preserved
loop-row-preserved c =
    let l = c.loop-row in
    let n = table_size c.args.journal.now c.args.rows.now l.row-index c.loop-row-test.true c.requires.1 in
    let (same, small) = c.length_before.ensures in
    let i = l.invariant in
    (omega arith, omega arith)

pub returns : goal.returns
returns c =
    let l = c.loop-row in
    l.invariant.1 ∙ ap length (table_all c.args.journal.now c.args.rows.now l.row-index (search rules))
