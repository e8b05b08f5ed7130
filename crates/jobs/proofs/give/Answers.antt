-- The job at the place that was found, given to the member.
use Rattle.std.proofs.Common.{refl}
use Rattle.jobs.specs.Job.{no_job, given_to}
use Rattle.jobs.proofs.Places.{read_any}
use Rattle.jobs.proofs.Steps.{give_found, give_none}
use Rattle.jobs.proofs.give.Goals as goal

pub returns-in_default : goal.returns-in_default
returns-in_default c = give_none c.args.jobs.now c.requires c.args.member (c.in_default.ensures.none refl)

pub returns : goal.returns
unfolding given_to
returns c =
    let jobs = c.args.jobs.now in
    let place = c.in-Some.place in
    rw (read_any jobs place _ no_job c.in-Some.ensures.some.1) (give_found jobs c.requires c.args.member place c.in-Some.ensures.some)
