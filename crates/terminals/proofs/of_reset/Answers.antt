-- The kinds of a reset are the last.
use Rattle.terminals.proofs.Freezing.{reset_kind}
use Rattle.terminals.proofs.of_reset.Goals as goal

pub returns : goal.returns
returns c = reset_kind c.args.h c.requires
