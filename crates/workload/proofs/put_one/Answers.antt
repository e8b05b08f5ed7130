-- A letter, a number and the line feed, one behind the other.
use mathlib.Core.List.{[], ◌∷◌}
use Rattle.text.specs.Written.{decimal_of}
use Rattle.text.proofs.Pieces.{laid_line}
use Rattle.workload.proofs.put_one.Goals as goal

pub returns : goal.returns
returns c =
    let a = c.args in
    laid_line (a.letter ∷ []) (decimal_of a.x ∷ []) c.put-next.ensures c.put_number-next.ensures.laid c.put.ensures
