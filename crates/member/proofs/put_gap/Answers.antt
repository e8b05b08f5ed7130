-- The accepted of the row are acknowledged.
use Rattle.member.proofs.View.{gap_laid}
use Rattle.member.proofs.put_gap.Goals as goal

pub returns : goal.returns
returns c = gap_laid c.args.head _ _ _ _ c.earlier.ensures c.put_bare.ensures
