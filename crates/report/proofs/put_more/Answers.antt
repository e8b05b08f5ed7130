-- The test is the definition's.
use Rattle.group.specs.Choice.{when◌then◌else◌}
use Rattle.report.specs.Print.{more_text}
use borrow.Author.Rules.{rules}
use Rattle.report.proofs.put_more.Goals as goal

pub returns-then-more : goal.returns-then-more
unfolding more_text when◌then◌else◌
returns-then-more c = record { laid = rw c.if-more.true c.put_word.ensures.laid; short = search rules }

pub returns-else-more : goal.returns-else-more
unfolding more_text when◌then◌else◌
returns-else-more c = record { laid = rw c.if-more.false c.put_word-else-more.ensures.laid; short = search rules }
