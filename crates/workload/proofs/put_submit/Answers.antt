-- A letter, a number, the digits of a byte and the line feed, one behind the other.
use mathlib.Core.List.{[], ◌∷◌}
use Rattle.text.specs.Text.{text_of}
use Rattle.text.specs.Written.{decimal_of, payload_text}
use Rattle.text.proofs.Pieces.{laid_fields, laid_line}
use Rattle.workload.proofs.put_submit.Goals as goal

pub returns : goal.returns
returns c =
    let a = c.args in
    let digits = payload_text (a.byte ∷ []) in
    let fields = laid_fields (decimal_of a.member ∷ []) (digits ∷ []) c.put_number-next.ensures.laid c.put_payload-next.ensures.laid in
    laid_line (text_of "S") (decimal_of a.member ∷ digits ∷ []) c.put-next.ensures fields c.put.ensures
