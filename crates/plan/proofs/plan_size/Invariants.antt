-- The loop's invariant: the size so far is that of the rows passed.
use Rattle.std.proofs.Common.{◌≡◌, ◌*◌, ◌≤◌, length, take}
use Rattle.plan.specs.Table.{starts_of, plan_at}
use Rattle.plan.proofs.plan_size.Given as goal

abbrev pub invariant-loop-row : goal.invariant-loop-row
invariant-loop-row l =
    (l.size ≤ 65536 * l.row-index) × (l.size ≡ length (plan_at l.journal (take l.row-index (starts_of l.rows))))
