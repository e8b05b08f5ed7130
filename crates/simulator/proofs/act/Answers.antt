-- The call of a member that is there, and the packet that it wrote; nothing of one that is not.
use mathlib.Core.Path.{refl}
use Rattle.simulator.specs.Steps.{happened_at}
use Rattle.simulator.specs.Whole.{rows_of, terminals_of, packets_of}
use Rattle.simulator.proofs.Acting.{acts, acts_not, no_member_lem}
use Rattle.simulator.proofs.Rooms.{there_yes, there_no}
use borrow.Author.Rules.{rules}
use Rattle.simulator.proofs.act.Goals as goal

pub call_at-told-requires : goal.call_at-told-requires
call_at-told-requires c =
    let y = there_yes c.args.head c.args.i c.args.head.sequencer.group.n c.is_there.result c.is_there.ensures c.if-is_there.true in
    let r = y.0.members in
    let l = y.1 in
    search rules

pub store-count-requires : goal.store-count-requires
store-count-requires c =
    let y = there_yes c.args.head c.args.i c.args.head.sequencer.group.n c.is_there.result c.is_there.ensures c.if-is_there.true in
    let r = y.0.packets in
    search rules

pub returns-then-is_there : goal.returns-then-is_there
returns-then-is_there c =
    let a = c.args in
    let t = (terminals_of a.head.sequencer.group a.numbers.now (rows_of a.queued.now a.held.now a.queued_originators.now a.queued_lengths.now a.held_originators.now a.held_lengths.now a.queued_payloads.now a.held_payloads.now)) in
    let p = (packets_of a.sizes.now a.packets.now a.head.count) in
    let y = there_yes c.args.head c.args.i c.args.head.sequencer.group.n c.is_there.result c.is_there.ensures c.if-is_there.true in
    acts a.call a.i a.bytes.now a.head t _ p _ c.call_at-told.result a.out.now _ y.0 y.1 refl (search rules) c.call_at-told.ensures (rw c.kept_size-size.ensures at c.store-count.ensures) refl

pub returns : goal.returns
returns c =
    let a = c.args in
    let t = (terminals_of a.head.sequencer.group a.numbers.now (rows_of a.queued.now a.held.now a.queued_originators.now a.queued_lengths.now a.held_originators.now a.held_lengths.now a.queued_payloads.now a.held_payloads.now)) in
    let p = (packets_of a.sizes.now a.packets.now a.head.count) in
    acts_not (happened_at a.call a.i a.bytes.now) a.head t p a.out.now (λ room s. no_member_lem a.call a.i a.bytes.now t p s (there_no a.head a.i a.head.sequencer.group.n c.is_there.result c.is_there.ensures c.if-is_there.false room))
