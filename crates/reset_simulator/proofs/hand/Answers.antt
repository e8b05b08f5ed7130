-- The packet that is read is the world's, and its receiver's call is the event.
use mathlib.Core.Path.{◌≡◌, sym, ap, ◌∙◌}
use mathlib.Core.List.{List}
use Prim.Native.Nat.{ℕ}
use lib.ListN.{length, take, get_or}
use lib.Seq.{length-take-le}
use native.Mathlib.Omega.{arith}
use Rattle.group.specs.Limits.{longest_packet}
use Rattle.reset_simulator.specs.Steps.{happened_at, handed_by, handed_to}
use Rattle.reset_simulator.specs.Whole.{rows_of, terminals_of, Whole, group_of}
use Rattle.simulator.specs.Whole.{packets_of, packet_at}
use Rattle.simulator.proofs.Acting.{packet_read, packet_fits}
use Rattle.simulator.proofs.Lists.{lists_there, lists_absent}
use Rattle.reset_simulator.proofs.Acting.{plays_not, plays_as}
use Rattle.reset_simulator.proofs.Rooms.{there_yes, there_no}
use borrow.Author.Rules.{rules}
use Rattle.reset_simulator.proofs.hand.Goals as goal

pub packet_at-packet-requires : goal.packet_at-packet-requires
packet_at-packet-requires c =
    let y = there_yes c.args.world c.args.k c.args.world.count c.is_there.result c.is_there.ensures c.if-is_there.true in
    let r = y.0.packets in
    let l = y.1 in
    let n = c.packet_at-arg-then-is_there-1.given in
    omega arith

pub size_at-size-requires : goal.size_at-size-requires
size_at-size-requires c =
    let y = there_yes c.args.world c.args.k c.args.world.count c.is_there.result c.is_there.ensures c.if-is_there.true in
    let r = y.0.packets in
    let l = y.1 in
    let n = c.size_at-arg-then-is_there-1.given in
    omega arith

pub slice_bounds-packet-end : goal.slice_bounds-packet-end
slice_bounds-packet-end c =
    let n : length c.packet_at-packet.result ≡ longest_packet = let k = c.packet_at-packet.type_inv in search rules in
    let s = packet_fits c.size_at-size.result _ c.size_at-size.ensures in
    omega arith

pub slice_bounds-act-end : goal.slice_bounds-act-end
slice_bounds-act-end c =
    let n : length c.packet_at-packet.result ≡ longest_packet = let k = c.packet_at-packet.type_inv in search rules in
    let s = packet_fits c.size_at-size.result _ c.size_at-size.ensures in
    sym (length-take-le c.size_at-size.result c.packet_at-packet.result (omega arith))

pub returns-then-is_there : goal.returns-then-is_there
unfolding handed_to handed_by packet_at
returns-then-is_there c =
    let a = c.args in
    let w : Whole = record { n = a.world.n; terminals = terminals_of a.small.now a.masks.now a.numbers.now (rows_of a.queued.now a.held.now a.queued_originators.now a.queued_lengths.now a.held_originators.now a.held_lengths.now a.queued_payloads.now a.held_payloads.now a.past.now a.past_originators.now a.past_lengths.now a.past_payloads.now a.highest.now a.replies.now a.taken.now a.counts.now a.repeats.now a.kept.now a.marks.now a.originators.now a.lengths.now a.payloads.now); packets = packets_of a.sizes.now a.packets.now a.world.count } in
    let y = there_yes c.args.world c.args.k c.args.world.count c.is_there.result c.is_there.ensures c.if-is_there.true in
    let n : length c.packet_at-packet.result ≡ longest_packet = let k = c.packet_at-packet.type_inv in search rules in
    let e : take c.size_at-size.result c.packet_at-packet.result ≡ packet_at w.packets a.k =
    packet_read c.size_at-size.result _ c.packet_at-packet.result n c.size_at-size.ensures ∙ ap (take (get_or a.sizes.now a.k 0)) c.packet_at-packet.ensures in
    plays_as (happened_at a.call a.i (take c.size_at-size.result c.packet_at-packet.result)) (handed_to a.call a.k a.i) a.world w _ c.act.result a.out.now _
    (λ _. ap (λ (bytes : List ℕ). happened_at a.call a.i bytes (group_of w)) e ∙ ap (handed_by a.call a.i (group_of w)) (sym (lists_there (packet_at w.packets) a.world.count a.k y.1)))
    c.act.ensures

pub returns : goal.returns
unfolding handed_to handed_by
returns c =
    let a = c.args in
    let w : Whole = record { n = a.world.n; terminals = terminals_of a.small.now a.masks.now a.numbers.now (rows_of a.queued.now a.held.now a.queued_originators.now a.queued_lengths.now a.held_originators.now a.held_lengths.now a.queued_payloads.now a.held_payloads.now a.past.now a.past_originators.now a.past_lengths.now a.past_payloads.now a.highest.now a.replies.now a.taken.now a.counts.now a.repeats.now a.kept.now a.marks.now a.originators.now a.lengths.now a.payloads.now); packets = packets_of a.sizes.now a.packets.now a.world.count } in
    plays_not (handed_to a.call a.k a.i) a.world w a.out.now
    (λ room. ap (handed_by a.call a.i (group_of w)) (sym (lists_absent (packet_at w.packets) a.world.count a.k (there_no a.world a.k a.world.count c.is_there.result c.is_there.ensures c.if-is_there.false room))))
