-- The word, and the index behind it.
use mathlib.Core.List.{[], ◌∷◌}
use Rattle.text.proofs.Pieces.{laid_fields}
use Rattle.text.specs.Written.{decimal_of}
use borrow.Author.Rules.{rules}
use Rattle.report.proofs.put_indexed.Goals as goal

pub returns : goal.returns
returns c =
    let a = c.args in
    record { laid = laid_fields (a.word.now ∷ []) (decimal_of a.index ∷ []) c.put_word-next.ensures.laid c.put_index.ensures.laid; short = search rules }
