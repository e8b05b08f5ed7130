-- The three numbers, one behind the other.
use mathlib.Core.List.{[], ◌∷◌}
use Rattle.text.proofs.Pieces.{laid_fields}
use Rattle.text.specs.Written.{decimal_of}
use borrow.Author.Rules.{rules}
use Rattle.report.proofs.put_message.Goals as goal

pub returns : goal.returns
returns c =
    let a = c.args in record { laid = laid_fields (decimal_of a.number ∷ decimal_of a.originator ∷ []) (decimal_of a.count ∷ []) (laid_fields (decimal_of a.number ∷ []) (decimal_of a.originator ∷ []) c.put_number-next.ensures.laid c.put_number-next-2.ensures.laid) c.put_number.ensures.laid; short = search rules }
