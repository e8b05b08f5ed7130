-- The first field, and the others one behind the other.
use mathlib.Core.List.{[], ◌∷◌}
use Rattle.text.proofs.Pieces.{laid_fields, laid_then}
use Rattle.text.specs.Written.{decimal_of, spaced}
use Rattle.text.specs.Text.{text_of}
use borrow.Author.Rules.{rules}
use Rattle.report.proofs.put_tops.Goals as goal

pub returns : goal.returns
returns c =
    let a = c.args in
    let t = decimal_of a.top in
    let f = decimal_of a.floor in
    let p = laid_fields (t ∷ []) (text_of "floor" ∷ []) c.put_number-next.ensures.laid c.put_word-next.ensures.laid in
    let q = laid_fields (t ∷ text_of "floor" ∷ []) (f ∷ []) p c.put_number-next-2.ensures.laid in
    let r = laid_fields (t ∷ text_of "floor" ∷ f ∷ []) (text_of "taken" ∷ []) q c.put_word.ensures.laid in
    record { laid = laid_then (text_of "top") (spaced (t ∷ text_of "floor" ∷ f ∷ text_of "taken" ∷ [])) c.put_text-next.ensures r; short = search rules }
