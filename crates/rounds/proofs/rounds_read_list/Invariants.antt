-- The rest of the list becomes shorter.
use Rattle.std.proofs.Common.{length}
use Rattle.rounds.proofs.rounds_read_list.Given as goal

abbrev pub decreases-loop-packet : goal.decreases-loop-packet
decreases-loop-packet l = length l.rest
