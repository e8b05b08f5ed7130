-- The accepted of the row are acknowledged.
use Rattle.member.proofs.View.{status_laid}
use Rattle.member.proofs.put_status.Goals as goal

pub returns : goal.returns
returns c = status_laid c.args.head _ _ c.earlier.ensures c.put_bare.ensures
