-- The packet's fields, laid with no payload.
use mathlib.Core.List.{[]}
use native.Mathlib.Omega.{arith}
use Rattle.packet.proofs.Permitted.{accept_fields, laid_whole}
use Rattle.sequencer.proofs.send_accept.Goals as goal

pub returns : goal.returns
returns c =
    let a = c.args in
    let p = c.requires in
    laid_whole _ [] _ (accept_fields a.group.number a.group.elected a.number p.0) (omega arith) p.1 c.put.ensures
