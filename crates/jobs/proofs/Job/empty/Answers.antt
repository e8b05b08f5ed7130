-- Field by field, by computation.
use mathlib.Core.Path.{refl}
use Rattle.jobs.specs.Job.{no_job}
use Rattle.jobs.proofs.Job.empty.Goals as goal

pub returns : goal.returns
unfolding no_job
returns c = refl
