-- The word, the number and the index, one behind the other.
use mathlib.Core.List.{[], ◌∷◌}
use Rattle.text.proofs.Pieces.{laid_fields}
use Rattle.text.specs.Written.{decimal_of}
use borrow.Author.Rules.{rules}
use Rattle.report.proofs.put_numbered.Goals as goal

pub returns : goal.returns
returns c =
    let a = c.args in record { laid = laid_fields (a.word.now ∷ decimal_of a.number ∷ []) (decimal_of a.index ∷ []) (laid_fields (a.word.now ∷ []) (decimal_of a.number ∷ []) c.put_word-next.ensures.laid c.put_number-next.ensures.laid) c.put_index.ensures.laid; short = search rules }
