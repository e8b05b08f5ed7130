-- The first number is that of the record, if none was in hand.
use Rattle.group.specs.Choice.{when◌then◌else◌}
use borrow.Author.Tests.{eq-eqb, ne_eqb}
use Rattle.plan.specs.Pack.{grown_to}
use Rattle.plan.proofs.Packer.grow.Goals.{then-self-eq0, else-self-eq0}
use Rattle.plan.proofs.Packer.grow.Goals as goal

pub returns : goal.returns
unfolding grown_to when◌then◌else◌
returns c = elim c.if-self-eq0.branch [
  | then-self-eq0 w ↦ rw (w.self-is, eq-eqb _ 0 w.if-self-eq0.true, w.if-self-eq0.true)
  | else-self-eq0 w ↦ rw (w.self-is, ne_eqb _ 0 w.if-self-eq0.false)
]
