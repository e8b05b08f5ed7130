-- Each test is one of the definition's.
use Rattle.group.proofs.Choice.{choices, tests}
use Rattle.terminal.specs.Left.{is_next}
use borrow.Author.Rules.{rules}
use Rattle.terminal.proofs.is_next.Goals as goal

pub returns-then-h-number : goal.returns-then-h-number
unfolding is_next
returns-then-h-number c = search (choices, tests, rules) depth 9

pub returns-else-h-number : goal.returns-else-h-number
unfolding is_next
returns-else-h-number c = search (choices, tests, rules) depth 9
