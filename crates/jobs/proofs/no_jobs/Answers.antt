-- 64 times the unused record.
use Rattle.jobs.proofs.no_jobs.Goals as goal

pub returns : goal.returns
returns c = rw c.empty.ensures
