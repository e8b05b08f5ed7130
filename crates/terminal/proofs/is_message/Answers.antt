-- Each test is one of the definition's.
use Rattle.group.proofs.Choice.{choices}
use borrow.Author.Rules.{rules}
use Rattle.terminal.proofs.is_message.Goals as goal

pub returns-then-h-eq-BROADCAST : goal.returns-then-h-eq-BROADCAST
returns-then-h-eq-BROADCAST c = search (choices, rules) depth 9

pub returns-else-h-eq-BROADCAST : goal.returns-else-h-eq-BROADCAST
returns-else-h-eq-BROADCAST c = search (choices, rules) depth 9
