-- The loop's invariant: the rows passed are laid at the front.
use Rattle.std.proofs.Common.{take}
use Rattle.text.specs.LaidAt.{LaidAt}
use Rattle.plan.specs.Table.{starts_of, plan_at}
use Rattle.plan.proofs.put_plan.Given as goal

abbrev pub invariant-loop-row : goal.invariant-loop-row
invariant-loop-row l = LaidAt 0 (plan_at l.journal (take l.row-index (starts_of l.rows))) l.initial.out l.out l.at
