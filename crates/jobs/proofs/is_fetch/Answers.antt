-- Each test is one of the definition's.
use Rattle.group.proofs.Choice.{choices}
use Rattle.jobs.specs.Feed.{is_fetch}
use borrow.Author.Rules.{rules}
use Rattle.jobs.proofs.is_fetch.Goals as goal

pub returns-then-payload-eq1 : goal.returns-then-payload-eq1
unfolding is_fetch
returns-then-payload-eq1 c = search (choices, rules) depth 9

pub returns-else-payload-eq1 : goal.returns-else-payload-eq1
unfolding is_fetch
returns-else-payload-eq1 c = search (choices, rules) depth 9
