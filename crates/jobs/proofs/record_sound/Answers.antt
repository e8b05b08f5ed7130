-- Both tests are the definition's.
use Rattle.group.proofs.Choice.{choices, tests}
use Rattle.jobs.specs.Sound.{record_sound}
use borrow.Author.Rules.{rules}
use Rattle.jobs.proofs.record_sound.Goals as goal

pub returns-then-sound : goal.returns-then-sound
unfolding record_sound
returns-then-sound c = search (choices, tests, rules) depth 9

pub returns-else-sound : goal.returns-else-sound
unfolding record_sound
returns-else-sound c = search (choices, tests, rules) depth 9
