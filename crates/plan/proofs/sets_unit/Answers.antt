-- The definition's two tests, on the record's bytes in the journal.
use Rattle.plan.proofs.Gathering.{spot_short, spot_begins}
use Rattle.plan.proofs.sets_unit.Goals as goal

pub returns-then-spot-start-ge3 : goal.returns-then-spot-start-ge3
returns-then-spot-start-ge3 c = spot_begins c.args.journal.now c.args.spot c.requires c.if-spot-start-ge3.true

pub returns-else-spot-start-ge3 : goal.returns-else-spot-start-ge3
returns-else-spot-start-ge3 c = spot_short c.args.journal.now c.args.spot c.requires c.if-spot-start-ge3.false
