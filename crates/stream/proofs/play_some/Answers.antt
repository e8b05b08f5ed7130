-- What was read is played.
use Rattle.stream.proofs.play_some.Goals as goal

pub returns : goal.returns
returns g c = record { input = _; gives = c.read-read.ensures.gives; puts = c.play_part-step.ensures }
