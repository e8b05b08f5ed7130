-- Too many units, or the plan of the table is that of the journal.
use Rattle.std.proofs.Common.{◌≤◌, length}
use Rattle.std.proofs.lemmas.Result.{err_from_is_err_and}
use Rattle.plan.specs.Table.{units_most}
use Rattle.plan.proofs.Planning.{few_used, found_within, plan_many, plan_stands, plan_laid}
use Rattle.plan.proofs.plan_found.Goals as goal

pub gather-requires-clause-within : goal.gather-requires-clause-within
gather-requires-clause-within c = found_within c.args.journal.now _ _ c.requires

pub returns-in_err-gather : goal.returns-in_err-gather
returns-in_err-gather c =
    let p = err_from_is_err_and c.from_residual.result c.from_residual.ensures.1 in
    rw (p.1, p.2) (plan_many c.args.journal.now _ _ c.requires _ _ c.in_err-gather.ensures _ _)

pub lay_plan-requires : goal.lay_plan-requires
lay_plan-requires c =
    let few : length c.used.result.now ≤ units_most = rw c.used.ensures (few_used c.gather.new.self.rows c.gather.new.self.count c.gather.new.self.few) in
    (few, plan_stands c.args.journal.now _ _ c.requires _ _ (rw (← c.used.ensures) at c.in_ok-gather.ensures) few)

pub returns : goal.returns
returns c =
    let few : length c.used.result.now ≤ units_most = rw c.used.ensures (few_used c.gather.new.self.rows c.gather.new.self.count c.gather.new.self.few) in
    plan_laid c.args.journal.now _ _ c.requires _ _ (rw (← c.used.ensures) at c.in_ok-gather.ensures) few _ _ _ _ c.lay_plan.ensures
