-- The block in hand is laid in its place of the output, if that has it.
use Rattle.std.proofs.Common.{rules}
use Rattle.plan.proofs.Filling.{closed_none, closed_laid}
use Rattle.plan.proofs.Packer.close.Goals as goal

pub returns-then-self-out : goal.returns-then-self-out
returns-then-self-out c = closed_laid c.args.self.now c.args.out.now c.requires.1 (search rules) _ c.if-self-out.true c.put_block.ensures

pub returns-else-self-out : goal.returns-else-self-out
returns-else-self-out c = closed_none c.args.self.now c.args.out.now c.if-self-out.false
