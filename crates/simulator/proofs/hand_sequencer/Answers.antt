-- The packet that is read is the group's, and the sequencer's call is the event.
use mathlib.Core.Path.{sym, ap}
use mathlib.Core.List.{List}
use Rattle.member.specs.State.{Member}
use Rattle.model.specs.World.{Group, hand_to_sequencer}
use Rattle.sequencer.specs.View as sequencerView
use Rattle.simulator.specs.Steps.{outcome_here, happened_here, handed_here}
use Rattle.simulator.specs.Whole.{packets_of, packet_at, packets_in}
use Rattle.simulator.specs.declared.SequencerCall.TheVariants as call
use Rattle.simulator.proofs.Acting.{sequences_not}
use Rattle.simulator.proofs.Lists.{lists_there, lists_absent}
use Rattle.simulator.proofs.Playing.{sequences_as}
use Rattle.simulator.proofs.Rooms.{there_yes, there_no}
use borrow.Author.Rules.{rules}
use Rattle.simulator.proofs.hand_sequencer.Goals as goal

pub offset_bounds-packets-k : goal.offset_bounds-packets-k
offset_bounds-packets-k c =
    let y = there_yes c.args.head c.args.k c.args.head.count c.is_there.result c.is_there.ensures c.if-is_there.true in
    let r = y.0.packets in
    let l = y.1 in
    search rules

pub bounds-packets-k : goal.bounds-packets-k
bounds-packets-k c =
    let y = there_yes c.args.head c.args.k c.args.head.count c.is_there.result c.is_there.ensures c.if-is_there.true in
    let r = y.0.packets in
    let l = y.1 in
    search rules

pub offset_bounds-sizes-k : goal.offset_bounds-sizes-k
offset_bounds-sizes-k c =
    let y = there_yes c.args.head c.args.k c.args.head.count c.is_there.result c.is_there.ensures c.if-is_there.true in
    let r = y.0.packets in
    let l = y.1 in
    search rules

pub bounds-sizes-k : goal.bounds-sizes-k
bounds-sizes-k c =
    let y = there_yes c.args.head c.args.k c.args.head.count c.is_there.result c.is_there.ensures c.if-is_there.true in
    let r = y.0.packets in
    let l = y.1 in
    search rules

pub returns-then-is_there : goal.returns-then-is_there
unfolding handed_here happened_here outcome_here packet_at
returns-then-is_there c =
    let a = c.args in
    let s = (sequencerView.whole a.head.sequencer a.taken.now a.counts.now a.repeats.now a.kept.now a.marks.now a.originators.now a.lengths.now a.payloads.now) in
    let p = (packets_of a.sizes.now a.packets.now a.head.count) in
    let y = there_yes c.args.head c.args.k c.args.head.count c.is_there.result c.is_there.ensures c.if-is_there.true in
    sequences_as (happened_here call.Receive (packet_at p a.k)) (handed_here a.k) a.head s _ p _ c.submit.result a.out.now _
    (λ _ (members : List Member).
    let g : Group = record { sequencer = sequencerView.view_of s; members = members; packets = packets_in p } in
    ap (hand_to_sequencer g) (sym (lists_there (packet_at p) a.head.count a.k y.1)))
    c.submit.ensures

pub returns : goal.returns
unfolding handed_here
returns c =
    let a = c.args in
    let s = (sequencerView.whole a.head.sequencer a.taken.now a.counts.now a.repeats.now a.kept.now a.marks.now a.originators.now a.lengths.now a.payloads.now) in
    let p = (packets_of a.sizes.now a.packets.now a.head.count) in
    sequences_not (handed_here a.k) a.head s p a.out.now
    (λ room (members : List Member).
    ap (hand_to_sequencer (record { sequencer = sequencerView.view_of s; members = members; packets = packets_in p }))
    (sym (lists_absent (packet_at p) a.head.count a.k (there_no a.head a.k a.head.count c.is_there.result c.is_there.ensures c.if-is_there.false room))))
