-- The fields of a request may be written; the accepted of the row are acknowledged.
use mathlib.Core.Path.{ap, ◌∙◌}
use Prim.Native.Nat.{ℕ}
use Rattle.packet.proofs.Permitted.{request_fields, laid_whole}
use Rattle.window.specs.Places.{smaller_of}
use Rattle.member.proofs.View.{requested}
use Rattle.member.proofs.put_request.Goals as goal

pub returns : goal.returns
returns c =
    let a = c.args in
    let p = c.requires in
    requested a.head a.held.now a.count a.payload.now _ (c.earlier.ensures ∙ ap (λ (k : ℕ). smaller_of k a.head.accepted.0) c.row_end-end.ensures)
    (laid_whole _ a.payload.now _ (request_fields a.head.group.number a.head.number _ a.count a.payload.now p.0) p.1 p.2 c.put.ensures)
