-- Each test is one of the definition's.
use Rattle.group.proofs.Choice.{choices}
use Rattle.message.specs.Message.{zero_behind}
use Rattle.history.specs.Sound.{kept_sound}
use Rattle.history.proofs.View.{count_own}
use borrow.Author.Rules.{rules}
use Rattle.history.proofs.kept_sound.Goals as goal

pub returns-then-size-le-PAYLOAD : goal.returns-then-size-le-PAYLOAD
unfolding kept_sound zero_behind
returns-then-size-le-PAYLOAD c = rw (count_own c.args.counts.now c.args.originator) (search (choices, rules) depth 9)

pub returns-else-size-le-PAYLOAD : goal.returns-else-size-le-PAYLOAD
unfolding kept_sound
returns-else-size-le-PAYLOAD c = rw (count_own c.args.counts.now c.args.originator) (search (choices, rules) depth 9)
