-- The packet that is read is the group's, and its receiver's call is the event.
use mathlib.Core.Path.{sym, ap, ◌∙◌}
use Rattle.model.specs.World.{Group, hand_to_member}
use Rattle.sequencer.specs.State.{Sequencer}
use Rattle.simulator.specs.Steps.{happened_at, handed_to}
use Rattle.simulator.specs.Whole.{rows_of, terminals_of, members_in, packets_of, packet_at, packets_in}
use Rattle.simulator.specs.declared.MemberCall.TheVariants as call
use Rattle.simulator.proofs.Acting.{acts_not}
use Rattle.simulator.proofs.Lists.{lists_there, lists_absent}
use Rattle.simulator.proofs.Playing.{receive_is, acts_as}
use Rattle.simulator.proofs.Rooms.{there_yes, there_no}
use borrow.Author.Rules.{rules}
use Rattle.simulator.proofs.hand_member.Goals as goal

pub offset_bounds-packets-k : goal.offset_bounds-packets-k
offset_bounds-packets-k c =
    let y = there_yes c.args.head c.args.k c.args.head.count c.is_there.result c.is_there.ensures c.if-is_there.true in
    let r = y.0.packets in
    let l = y.1 in
    search rules

pub bounds-packets-k : goal.bounds-packets-k
bounds-packets-k c =
    let y = there_yes c.args.head c.args.k c.args.head.count c.is_there.result c.is_there.ensures c.if-is_there.true in
    let r = y.0.packets in
    let l = y.1 in
    search rules

pub offset_bounds-sizes-k : goal.offset_bounds-sizes-k
offset_bounds-sizes-k c =
    let y = there_yes c.args.head c.args.k c.args.head.count c.is_there.result c.is_there.ensures c.if-is_there.true in
    let r = y.0.packets in
    let l = y.1 in
    search rules

pub bounds-sizes-k : goal.bounds-sizes-k
bounds-sizes-k c =
    let y = there_yes c.args.head c.args.k c.args.head.count c.is_there.result c.is_there.ensures c.if-is_there.true in
    let r = y.0.packets in
    let l = y.1 in
    search rules

pub returns-then-is_there : goal.returns-then-is_there
unfolding handed_to packet_at
returns-then-is_there c =
    let a = c.args in
    let t = (terminals_of a.head.sequencer.group a.numbers.now (rows_of a.queued.now a.held.now a.queued_originators.now a.queued_lengths.now a.held_originators.now a.held_lengths.now a.queued_payloads.now a.held_payloads.now)) in
    let p = (packets_of a.sizes.now a.packets.now a.head.count) in
    let y = there_yes c.args.head c.args.k c.args.head.count c.is_there.result c.is_there.ensures c.if-is_there.true in
    acts_as (happened_at call.Receive a.i (packet_at p a.k)) (handed_to a.k a.i) a.head t _ p _ c.deliver.result a.out.now _
    (λ _ (s : Sequencer).
    let g : Group = record { sequencer = s; members = members_in t; packets = packets_in p } in
    receive_is a.i g (packet_at p a.k) ∙ ap (hand_to_member g a.i) (sym (lists_there (packet_at p) a.head.count a.k y.1)))
    c.deliver.ensures

pub returns : goal.returns
unfolding handed_to
returns c =
    let a = c.args in
    let t = (terminals_of a.head.sequencer.group a.numbers.now (rows_of a.queued.now a.held.now a.queued_originators.now a.queued_lengths.now a.held_originators.now a.held_lengths.now a.queued_payloads.now a.held_payloads.now)) in
    let p = (packets_of a.sizes.now a.packets.now a.head.count) in
    acts_not (handed_to a.k a.i) a.head t p a.out.now
    (λ room (s : Sequencer).
    ap (hand_to_member (record { sequencer = s; members = members_in t; packets = packets_in p }) a.i)
    (sym (lists_absent (packet_at p) a.head.count a.k (there_no a.head a.k a.head.count c.is_there.result c.is_there.ensures c.if-is_there.false room))))
