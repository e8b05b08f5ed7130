-- The loop's invariant: the row put in among the first k, and what stands behind the next, are the table with the row put in.
use Rattle.std.proofs.Common.{◌≡◌, ◌++◌, ◌+◌, ◌≤◌, take, drop}
use Rattle.plan.specs.Table.{inserted}
use Rattle.plan.proofs.insert.Given as goal

abbrev pub invariant-loop-k : goal.invariant-loop-k
invariant-loop-k l =
    (l.at ≤ l.k) × (inserted l.at l.row (take l.k l.rows) ++ drop (l.k + 1) (take (l.count + 1) l.rows) ≡ inserted l.at l.row (take l.count l.initial.rows))
