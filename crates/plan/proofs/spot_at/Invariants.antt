-- The loop's invariant: the record sought is among those that are left of its block.
use Rattle.std.proofs.Common.{◌-◌}
use Rattle.plan.proofs.Stepping.{Seeking}
use Rattle.plan.proofs.spot_at.Given as goal

abbrev pub invariant-records : goal.invariant-records
invariant-records l = Seeking l.journal l.start l.cursor (512 - l.counter)
