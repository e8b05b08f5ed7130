-- The word, and the number behind it.
use mathlib.Core.List.{[], ◌∷◌}
use Rattle.text.proofs.Pieces.{laid_fields}
use Rattle.text.specs.Written.{decimal_of}
use borrow.Author.Rules.{rules}
use Rattle.reset_report.proofs.put_named.Goals as goal

pub returns : goal.returns
returns c =
    let a = c.args in
    record { laid = laid_fields (a.word.now ∷ []) (decimal_of a.number ∷ []) c.put_word-next.ensures.laid c.put_number.ensures.laid; short = search rules }
