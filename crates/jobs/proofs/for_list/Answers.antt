-- Each test is one of the definition's.
use Rattle.group.proofs.Choice.{choices, tests}
use Rattle.jobs.specs.Feed.{for_list}
use borrow.Author.Rules.{rules}
use Rattle.jobs.proofs.for_list.Goals as goal

pub returns-then-is_add : goal.returns-then-is_add
unfolding for_list
returns-then-is_add c = search (choices, tests, rules) depth 9

pub returns-else-is_add : goal.returns-else-is_add
unfolding for_list
returns-else-is_add c = search (choices, tests, rules) depth 9

pub returns-else-payload-le-PAYLOAD : goal.returns-else-payload-le-PAYLOAD
unfolding for_list
returns-else-payload-le-PAYLOAD c = search (choices, tests, rules) depth 9
