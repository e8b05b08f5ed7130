-- The loop's invariant: the records up to i are those of the list without the place, and the others are as they were.
use Rattle.std.proofs.Common.{◌≡◌}
use Rattle.message.proofs.Laying.{over}
use Rattle.jobs.specs.Feed.{without_place}
use Rattle.jobs.proofs.finish.Given as goal

abbrev pub invariant-loop-i : goal.invariant-loop-i
invariant-loop-i l = l.jobs ≡ over l.i (without_place l.place l.initial.jobs) l.initial.jobs
