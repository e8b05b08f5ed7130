-- Each test is one of the definition's.
use Rattle.group.proofs.Choice.{choices}
use Rattle.jobs.specs.Job.{is_of}
use borrow.Author.Rules.{rules}
use Rattle.jobs.proofs.Job.is.Goals as goal

pub returns-then-self-state : goal.returns-then-self-state
unfolding is_of
returns-then-self-state c = search (choices, rules) depth 9

pub returns-else-self-state : goal.returns-else-self-state
unfolding is_of
returns-else-self-state c = search (choices, rules) depth 9
