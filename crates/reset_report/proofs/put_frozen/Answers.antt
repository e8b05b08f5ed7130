-- The test is the definition's.
use Rattle.group.specs.Choice.{when◌then◌else◌}
use Rattle.text.proofs.Pieces.{laid_none}
use Rattle.text.specs.Written.{spaced}
use Rattle.reset_report.specs.Print.{frozen_text}
use borrow.Author.Rules.{rules}
use Rattle.reset_report.proofs.put_frozen.Goals as goal

pub returns-then-frozen : goal.returns-then-frozen
unfolding frozen_text when◌then◌else◌
returns-then-frozen c = record { laid = rw c.if-frozen.true c.put_word.ensures.laid; short = search rules }

pub returns-else-frozen : goal.returns-else-frozen
unfolding frozen_text when◌then◌else◌ spaced
returns-else-frozen c =
    let a = c.args in
    record { laid = rw c.if-frozen.false (laid_none a.at a.out.now (search rules)); short = search rules }
