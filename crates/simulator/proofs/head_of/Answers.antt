-- The numbers of a row are the head's.
use Rattle.simulator.proofs.head_of.Goals as goal

pub returns : goal.returns
returns c = cc
