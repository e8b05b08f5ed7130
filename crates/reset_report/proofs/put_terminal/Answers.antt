-- The words and numbers, one behind the other.
use mathlib.Core.List.{[], ◌∷◌}
use Rattle.text.specs.Text.{text_of}
use Rattle.text.specs.Written.{decimal_of}
use Rattle.reset_report.proofs.Pieces.{laid_more}
use borrow.Author.Rules.{rules}
use Rattle.reset_report.proofs.put_terminal.Goals as goal

pub returns : goal.returns
returns c =
    let a = c.args in
    let i = decimal_of a.terminal in
    let g = decimal_of a.group in
    let t = decimal_of a.taken in
    let e = decimal_of a.elected in
    let p = laid_more (text_of "terminal") (i ∷ text_of "group" ∷ g ∷ []) (text_of "taken" ∷ t ∷ []) c.put_whose-next.ensures.laid c.put_named-next.ensures.laid in
    let q = laid_more (text_of "terminal") (i ∷ text_of "group" ∷ g ∷ text_of "taken" ∷ t ∷ []) (text_of "elected" ∷ e ∷ []) p c.put_named-next-2.ensures.laid in
    record { laid = laid_more (text_of "terminal") (i ∷ text_of "group" ∷ g ∷ text_of "taken" ∷ t ∷ text_of "elected" ∷ e ∷ []) (text_of "survivors" ∷ []) q c.put_word.ensures.laid; short = search rules }
