-- A player that has read nothing.
use Rattle.reset_stream.proofs.recover.Goals as goal

pub returns : goal.returns
returns g c = c.play_whole.ensures c.fresh-start.ensures
