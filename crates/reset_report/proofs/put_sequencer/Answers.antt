-- The words and numbers, one behind the other.
use mathlib.Core.List.{[], ◌∷◌}
use Rattle.text.specs.Text.{text_of}
use Rattle.text.specs.Written.{decimal_of}
use Rattle.reset_report.proofs.Pieces.{laid_more}
use borrow.Author.Rules.{rules}
use Rattle.reset_report.proofs.put_sequencer.Goals as goal

pub returns : goal.returns
returns c =
    let a = c.args in
    let i = decimal_of a.terminal in
    let g = decimal_of a.group in
    let t = decimal_of a.top in
    let f = decimal_of a.floor in
    let p = laid_more (text_of "sequencer") (i ∷ text_of "group" ∷ g ∷ []) (text_of "top" ∷ t ∷ []) c.put_whose-next.ensures.laid c.put_named-next.ensures.laid in
    record { laid = laid_more (text_of "sequencer") (i ∷ text_of "group" ∷ g ∷ text_of "top" ∷ t ∷ []) (text_of "floor" ∷ f ∷ []) p c.put_named.ensures.laid; short = search rules }
