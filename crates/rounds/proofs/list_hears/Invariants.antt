-- The rest of the list becomes shorter.
use Rattle.std.proofs.Common.{length}
use Rattle.rounds.proofs.list_hears.Given as goal

abbrev pub decreases-loop-head : goal.decreases-loop-head
decreases-loop-head l = length l.rest
