-- The name, and the others one behind the other.
use mathlib.Core.List.{[], ◌∷◌}
use Rattle.text.proofs.Pieces.{laid_fields, laid_then}
use Rattle.text.specs.Text.{text_of}
use Rattle.text.specs.Written.{decimal_of, spaced}
use borrow.Author.Rules.{rules}
use Rattle.reset_report.proofs.put_whose.Goals as goal

pub returns : goal.returns
returns c =
    let a = c.args in
    let t = decimal_of a.terminal in
    let g = decimal_of a.group in
    let p = laid_fields (t ∷ []) (text_of "group" ∷ g ∷ []) c.put_number-next.ensures.laid c.put_named.ensures.laid in
    record { laid = laid_then a.name.now (spaced (t ∷ text_of "group" ∷ g ∷ [])) c.put_text-next.ensures p; short = search rules }
