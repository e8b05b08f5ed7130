-- The poll packet's fields, laid with no payload.
use mathlib.Core.List.{[]}
use native.Mathlib.Omega.{arith}
use Rattle.packet.proofs.Permitted.{poll_fields, laid_whole}
use Rattle.sequencer.proofs.send_poll.Goals as goal

pub returns : goal.returns
returns c =
    let a = c.args in
    let p = c.requires in
    laid_whole _ [] _ (poll_fields a.group.number a.group.elected a.top a.floor p.0) (omega arith) p.1 c.put.ensures
