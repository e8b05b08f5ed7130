-- The packet's fields, laid with the message's payload.
use native.Mathlib.Omega.{arith}
use Rattle.sequencer.proofs.View.{may_send, announced_laid}
use Rattle.sequencer.proofs.send.Goals as goal

pub put_place-requires : goal.put_place-requires
put_place-requires c =
    let a = c.args in
    let p = c.requires in
    let s = p.3 in
    (omega (arith, s.payloads_size, p.0), (may_send a.group a.accepted a.floor a.number a.at a.kept.now a.originators.now a.lengths.now a.payloads.now (omega (arith, s.kept_size, p.0)) p.1).0)

pub returns : goal.returns
returns c =
    let a = c.args in
    let p = c.requires in
    let s = p.3 in
    announced_laid a.group a.accepted a.floor a.number a.at a.kept.now a.originators.now a.lengths.now a.payloads.now (omega (arith, s.kept_size, p.0)) _ p.1 p.2 (rw c.announced-packet.ensures at c.put_place.ensures)
