-- The word and the two numbers, one behind the other.
use mathlib.Core.List.{[], ◌∷◌}
use Rattle.text.proofs.Pieces.{laid_fields}
use Rattle.text.specs.Written.{decimal_of}
use Rattle.text.specs.Text.{text_of}
use borrow.Author.Rules.{rules}
use Rattle.report.proofs.put_wanted.Goals as goal

pub returns : goal.returns
returns c =
    let a = c.args in record { laid = laid_fields (text_of "wanted" ∷ decimal_of a.first ∷ []) (decimal_of a.last ∷ []) (laid_fields (text_of "wanted" ∷ []) (decimal_of a.first ∷ []) c.put_word-next.ensures.laid c.put_number-next.ensures.laid) c.put_number.ensures.laid; short = search rules }
