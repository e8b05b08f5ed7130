-- The word, the message's numbers, its payload, and whether more is held, one behind the other.
use mathlib.Core.List.{[], ◌∷◌, ◌++◌}
use Rattle.text.proofs.Pieces.{laid_fields}
use Rattle.text.specs.Written.{decimal_of, payload_text}
use Rattle.report.specs.Print.{more_text}
use Rattle.text.specs.Text.{text_of}
use borrow.Author.Rules.{rules}
use Rattle.report.proofs.put_took.Goals as goal

pub returns : goal.returns
returns c =
    let a = c.args in
    let m = decimal_of a.number.0 ∷ decimal_of a.originator.0 ∷ decimal_of a.count ∷ [] in
    let p = payload_text a.payload.now ∷ [] in
    let f = laid_fields (text_of "took" ∷ []) m c.put_word-next.ensures.laid c.put_message-next.ensures.laid in
    let g = laid_fields (text_of "took" ∷ m) p f c.put_payload-next.ensures.laid in
    record { laid = laid_fields (text_of "took" ∷ (m ++ p)) (more_text a.more ∷ []) g c.put_more.ensures.laid; short = search rules }
