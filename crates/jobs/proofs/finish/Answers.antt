-- The records behind the place that was found move down, one at a time.
use Rattle.std.proofs.Common.{◌≡◌, ◌∙◌, ◌-◌, refl, length, rules, arith}
use Rattle.group.specs.Limits.{jobs_most}
use Rattle.jobs.proofs.Moving.{moved_first, moved_next, moved_last}
use Rattle.jobs.proofs.Steps.{closes, finish_none}
use Rattle.jobs.proofs.finish.Goals as goal

pub loop-i-init : goal.loop-i-init
loop-i-init c = moved_first c.in-Some.place c.args.jobs.now (search rules)

pub loop-i-preserved : goal.loop-i-preserved
loop-i-preserved c =
    let l = c.loop-i in
    let n : length c.args.jobs.now ≡ jobs_most = c.requires in
    moved_next c.in-Some.place c.args.jobs.now c.in-Some.ensures.some.1 l.i l.jobs _ l.auto.i (omega (arith, n, c.loop-i-test.true)) l.invariant

pub returns-after-loop-i : goal.returns-after-loop-i
returns-after-loop-i c =
    let l = c.loop-i in
    let n : length c.args.jobs.now ≡ jobs_most = c.requires in
    let found = c.in-Some.ensures.some in
    let last : l.i ≡ jobs_most - 1 = search (rules, arith) in
    rw last at (moved_last c.in-Some.place c.args.jobs.now found.1 l.i l.jobs _ l.auto.i (omega (arith, n, last)) l.invariant c.empty.ensures)
    ∙ closes c.args.jobs.now c.requires c.in-Some.place c.args.member found

pub returns-in_default : goal.returns-in_default
returns-in_default c = finish_none c.args.jobs.now c.requires c.args.member (c.in_default.ensures.none refl)
