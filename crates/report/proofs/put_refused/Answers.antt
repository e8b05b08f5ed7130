-- The word, and the number of the refusal behind it.
use mathlib.Core.List.{[], ◌∷◌}
use Rattle.text.proofs.Pieces.{laid_fields}
use Rattle.text.specs.Written.{decimal_of}
use Rattle.text.specs.Text.{text_of}
use Rattle.report.specs.Print.{wording_fields}
use borrow.Author.Rules.{rules}
use Rattle.report.proofs.put_refused.Goals as goal

pub returns : goal.returns
unfolding wording_fields
returns c =
    let a = c.args in
    record { laid = rw (← c.number-number.ensures) (laid_fields (text_of "refused" ∷ []) (decimal_of c.number-number.result ∷ []) c.put_word-next.ensures.laid c.put_number.ensures.laid); short = search rules }
