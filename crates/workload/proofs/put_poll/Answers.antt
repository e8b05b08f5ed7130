-- A letter and the line feed.
use mathlib.Core.List.{[], ◌∷◌}
use Rattle.text.specs.Text.{text_of, line_feed}
use Rattle.text.specs.Written.{spaced}
use Rattle.text.proofs.Pieces.{laid_then}
use Rattle.workload.proofs.put_poll.Goals as goal

pub returns : goal.returns
unfolding spaced
returns c = laid_then (text_of "P") (line_feed ∷ []) c.put-next.ensures c.put.ensures
