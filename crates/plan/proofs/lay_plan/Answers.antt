-- The room is asked, and the plan is laid.
use Rattle.plan.proofs.Planning.{lays_short, lays_all}
use Rattle.plan.proofs.lay_plan.Goals as goal

pub returns-then-out-size : goal.returns-then-out-size
returns-then-out-size c =
    let e = c.plan_size-size.ensures in
    lays_short _ _ c.args.out.now (rw e at c.if-out-size.true)

pub returns : goal.returns
returns c =
    let e = c.plan_size-size.ensures in
    lays_all _ _ c.args.out.now _ _ (rw e at c.if-out-size.false) e c.put_plan.ensures
