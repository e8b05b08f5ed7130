-- Each test is one of the definition's; the first unused place is the one that was handed in.
use Rattle.group.proofs.Choice.{choices}
use Rattle.std.proofs.Common.{◌∙◌, ◌<◌, length, arith}
use Rattle.jobs.specs.Job.{unused_state}
use Rattle.jobs.proofs.Places.{place_most, found_eq}
use Rattle.jobs.specs.Sound.{place_sound}
use borrow.Author.Rules.{rules}
use Rattle.jobs.proofs.place_sound.Goals as goal

pub returns-then-job-eq-UNUSED : goal.returns-then-job-eq-UNUSED
unfolding place_sound
returns-then-job-eq-UNUSED c = search (choices, rules) depth 9

pub returns-then-job-ne-GIVEN : goal.returns-then-job-ne-GIVEN
unfolding place_sound
returns-then-job-ne-GIVEN c = rw (← c.requires) (search (choices, rules) depth 9)

pub returns-else-job-ne-GIVEN : goal.returns-else-job-ne-GIVEN
unfolding place_sound
returns-else-job-ne-GIVEN c =
    let jobs = c.args.jobs.now in
    let most = place_most unused_state 0 jobs in
    let inside : c.args.place < length jobs = let l = c.if-place-used.true in omega (arith, most, l, c.requires) in
    let e = c.eq.ensures ∙ found_eq _ _ _ c.args.place c.find.ensures.some c.find.ensures.none inside in
    rw (← c.requires) (search (choices, rules) depth 9)

pub returns-else-place-used : goal.returns-else-place-used
unfolding place_sound
returns-else-place-used c = rw (← c.requires) (search (choices, rules) depth 9)
