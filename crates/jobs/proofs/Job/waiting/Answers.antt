-- The job is copied over zeros.
use Rattle.std.proofs.Common.{refl}
use Rattle.jobs.specs.Job.{waiting_job}
use Rattle.jobs.proofs.Job.waiting.Goals as goal

pub returns : goal.returns
unfolding waiting_job
returns c = rw c.copy.ensures refl
