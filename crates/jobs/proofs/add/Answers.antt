-- Question 20, then the job waits in the place that was found.
use Rattle.std.proofs.Common.{refl}
use Rattle.jobs.proofs.Steps.{add_room, add_full}
use Rattle.jobs.proofs.add.Goals as goal

pub returns-in_default : goal.returns-in_default
returns-in_default c = add_full c.args.jobs.now c.requires.list c.args.job.now (c.in_default.ensures.none refl)

pub returns : goal.returns
returns c = rw c.waiting.ensures (add_room c.args.jobs.now c.requires.list c.args.job.now c.in-Some.place c.in-Some.ensures.some)
