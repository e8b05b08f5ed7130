-- The loop's invariant: the records are sound exactly if those from the next one on are.
use Rattle.std.proofs.Common.{refl, ◌∙◌, length, arith}
use Rattle.group.specs.Limits.{jobs_most}
use Rattle.group.proofs.Choice.{when_eq, choices, tests}
use Rattle.group.proofs.Fold.{all_on, all_off, all_done}
use Rattle.jobs.specs.Sound.{sound_of}
use borrow.Author.Rules.{rules}
use Rattle.jobs.proofs.sound.Goals as goal

pub returns-then-jobs-ne-JOBS : goal.returns-then-jobs-ne-JOBS
unfolding sound_of
returns-then-jobs-ne-JOBS c = search (choices, tests, rules) depth 9

pub loop-place-preserved : goal.loop-place-preserved
loop-place-preserved c = all_on _ _ c.loop-place.place c.loop-place.invariant _ c.record_sound.result (omega arith) c.record_sound.ensures c.if-not-record_sound.false

pub returns-then-not-record_sound : goal.returns-then-not-record_sound
unfolding sound_of
returns-then-not-record_sound c =
    all_off _ _ c.loop-place.place c.loop-place.invariant _ c.record_sound.result (omega arith) c.record_sound.ensures c.if-not-record_sound.true
    ∙ when_eq (length c.args.jobs.now) jobs_most _ _ _ c.if-jobs-ne-JOBS.false refl

pub returns : goal.returns
unfolding sound_of
returns c =
    all_done _ _ c.loop-place.place c.loop-place.invariant (omega arith)
    ∙ when_eq (length c.args.jobs.now) jobs_most _ _ _ c.if-jobs-ne-JOBS.false refl
