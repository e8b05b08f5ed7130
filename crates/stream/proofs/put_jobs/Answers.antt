-- The loop's invariant: the sink took the lines of the places passed.
use mathlib.Core.Path.{◌≡◌, sym, ap, ◌∙◌}
use Prim.Native.Nat.{◌<◌}
use native.Mathlib.Omega.{arith}
use lib.ListN.{length}
use Rattle.descriptor.proofs.Laws.{takes_none, takes_both, takes_as}
use Rattle.group.specs.Limits.{jobs_most}
use Rattle.inspection.proofs.Lists.{jobs_on, no_jobs_yet}
use Rattle.inspection.specs.Lists.{job_line, job_lines}
use Rattle.jobs.specs.Job.{no_job}
use Rattle.player.proofs.Laws.{laid_front}
use Rattle.simulator.proofs.Lists.{get_d-inside}
use borrow.Author.Rules.{rules}
use Rattle.stream.proofs.put_jobs.Goals as goal

pub loop-place-init : goal.loop-place-init
loop-place-init g c = let a = c.args in (search rules, takes_as (sym (no_jobs_yet a.i a.jobs)) (takes_none a.sink))

pub loop-place-preserved : goal.loop-place-preserved
loop-place-preserved g c =
    let l = c.loop-place in
    let a = c.args in
    let n : length a.jobs ≡ jobs_most = search rules in
    let t = c.loop-place-test.true in
    let b : l.place < length a.jobs = omega arith in
    let f = c.write_job-size.ensures in
    let e = laid_front (job_line a.i l.place _) _ _ _ f.lent f.size ∙ ap (job_line a.i l.place) (get_d-inside a.jobs l.place _ no_job b) in
    (search rules, takes_as (sym (jobs_on a.i a.jobs l.place)) (takes_both l.invariant.1 (takes_as e c.put_text-sink.ensures)))

pub returns : goal.returns
returns g c =
    let l = c.loop-place in
    let a = c.args in
    let n : length a.jobs ≡ jobs_most = search rules in
    let t = c.loop-place-test.false in
    let e : l.place ≡ length a.jobs = omega arith in
    takes_as (ap (job_lines a.i a.jobs) e) l.invariant.1
