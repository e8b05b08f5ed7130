-- The number grows up to the names of three digits.
use Rattle.std.proofs.Common.{◌-◌}
use Rattle.reset_schedules.proofs.main.Given as goal

abbrev pub decreases-loop-number : goal.decreases-loop-number
decreases-loop-number l = 1000 - l.number
