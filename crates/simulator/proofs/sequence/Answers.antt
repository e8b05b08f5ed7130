-- The call of the sequencer, and the packet that it wrote; nothing without room.
use mathlib.Core.Path.{refl}
use Rattle.sequencer.specs.View as sequencerView
use Rattle.simulator.specs.Steps.{happened_here}
use Rattle.simulator.specs.Whole.{packets_of}
use Rattle.simulator.proofs.Acting.{sequences, sequences_not}
use Rattle.simulator.proofs.Rooms.{room_yes, room_no}
use borrow.Author.Rules.{rules}
use Rattle.simulator.proofs.sequence.Goals as goal

pub store-count-requires : goal.store-count-requires
store-count-requires c =
    let y = room_yes c.args.head c.has_room.result c.has_room.ensures c.if-has_room.true in
    let r = y.packets in
    search rules

pub returns-then-has_room : goal.returns-then-has_room
returns-then-has_room c =
    let a = c.args in
    let s = (sequencerView.whole a.head.sequencer a.taken.now a.counts.now a.repeats.now a.kept.now a.marks.now a.originators.now a.lengths.now a.payloads.now) in
    let p = (packets_of a.sizes.now a.packets.now a.head.count) in
    let y = room_yes a.head c.has_room.result c.has_room.ensures c.if-has_room.true in
    sequences a.call a.bytes.now a.head s _ p _ c.call_sequencer-step.result.reply a.out.now _ y refl (search rules) c.call_sequencer-step.ensures c.store-count.ensures refl

pub returns : goal.returns
returns c =
    let a = c.args in
    let s = (sequencerView.whole a.head.sequencer a.taken.now a.counts.now a.repeats.now a.kept.now a.marks.now a.originators.now a.lengths.now a.payloads.now) in
    let p = (packets_of a.sizes.now a.packets.now a.head.count) in
    sequences_not (happened_here a.call a.bytes.now) a.head s p a.out.now (λ room. absurd (room_no a.head c.has_room.result c.has_room.ensures c.if-has_room.false room))
