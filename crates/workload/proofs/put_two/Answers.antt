-- A letter, two numbers and the line feed, one behind the other.
use mathlib.Core.List.{[], ◌∷◌}
use Rattle.text.specs.Written.{decimal_of}
use Rattle.text.proofs.Pieces.{laid_fields, laid_line}
use Rattle.workload.proofs.put_two.Goals as goal

pub returns : goal.returns
returns c =
    let a = c.args in
    let fields = laid_fields (decimal_of a.x ∷ []) (decimal_of a.y ∷ []) c.put_number-next.ensures.laid c.put_number-next-2.ensures.laid in
    laid_line (a.letter ∷ []) (decimal_of a.x ∷ decimal_of a.y ∷ []) c.put-next.ensures fields c.put.ensures
