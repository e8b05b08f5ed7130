-- The sizes are those that the lending tells.
use Rattle.terminals.proofs.held_sizes.Goals as goal

pub returns : goal.returns
returns c = c.requires
