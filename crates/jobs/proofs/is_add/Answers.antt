-- Each test is one of the definition's.
use Rattle.group.proofs.Choice.{choices}
use Rattle.jobs.specs.Feed.{is_add}
use borrow.Author.Rules.{rules}
use Rattle.jobs.proofs.is_add.Goals as goal

pub returns-then-payload-ge1 : goal.returns-then-payload-ge1
unfolding is_add
returns-then-payload-ge1 c = search (choices, rules) depth 9

pub returns-else-payload-ge1 : goal.returns-else-payload-ge1
unfolding is_add
returns-else-payload-ge1 c = search (choices, rules) depth 9
