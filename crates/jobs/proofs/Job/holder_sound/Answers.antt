-- Each test is one of the definition's.
use Rattle.group.proofs.Choice.{choices}
use Rattle.jobs.specs.Sound.{holder_sound}
use borrow.Author.Rules.{rules}
use Rattle.jobs.proofs.Job.holder_sound.Goals as goal

pub returns-then-self-eq0 : goal.returns-then-self-eq0
unfolding holder_sound
returns-then-self-eq0 c = search (choices, rules) depth 9

pub returns-else-self-eq0 : goal.returns-else-self-eq0
unfolding holder_sound
returns-else-self-eq0 c = search (choices, rules) depth 9

pub returns-in-1 : goal.returns-in-1
unfolding holder_sound
returns-in-1 c = search (choices, rules) depth 9

pub returns-in-2 : goal.returns-in-2
unfolding holder_sound
returns-in-2 c = search (choices, rules) depth 9

pub returns-in_default : goal.returns-in_default
unfolding holder_sound
returns-in_default c = search (choices, rules) depth 9
