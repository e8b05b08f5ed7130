-- What the turns printed, with the end of the input behind it.
use Rattle.reset_stream.proofs.Laws.{recovered}
use Rattle.reset_stream.proofs.play_whole.Goals as goal

pub returns : goal.returns
returns g c = λ fresh. recovered (fresh _ _) c.play_all-turn.ensures c.finish-last.ensures
