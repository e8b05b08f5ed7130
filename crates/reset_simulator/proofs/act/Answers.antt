-- The call of a terminal that is there, and the packet that it wrote; nothing of one that is not.
use mathlib.Core.Path.{refl}
use native.Mathlib.Omega.{arith}
use Rattle.reset_simulator.specs.Steps.{happened_at}
use Rattle.reset_simulator.specs.Whole.{rows_of, terminals_of, Whole}
use Rattle.simulator.specs.Whole.{packets_of}
use Rattle.reset_simulator.proofs.Acting.{plays, plays_not, no_terminal_lem}
use Rattle.reset_simulator.proofs.Rooms.{there_yes, there_no}
use Rattle.reset_simulator.proofs.act.Goals as goal

pub call_at-called-requires : goal.call_at-called-requires
call_at-called-requires c =
    let y = there_yes c.args.world c.args.i c.args.world.n c.is_there.result c.is_there.ensures c.if-is_there.true in
    let r = y.0.terminals in
    let l = y.1 in
    omega arith

pub store-count-requires : goal.store-count-requires
store-count-requires c =
    let y = there_yes c.args.world c.args.i c.args.world.n c.is_there.result c.is_there.ensures c.if-is_there.true in
    (y.0.packets, c.store-arg-1.given.0.1, c.store-arg-then-is_there-1.given.0.1)

pub returns-then-is_there : goal.returns-then-is_there
returns-then-is_there c =
    let a = c.args in
    let t = terminals_of a.small.now a.masks.now a.numbers.now (rows_of a.queued.now a.held.now a.queued_originators.now a.queued_lengths.now a.held_originators.now a.held_lengths.now a.queued_payloads.now a.held_payloads.now a.past.now a.past_originators.now a.past_lengths.now a.past_payloads.now a.highest.now a.replies.now a.taken.now a.counts.now a.repeats.now a.kept.now a.marks.now a.originators.now a.lengths.now a.payloads.now) in
    let p = packets_of a.sizes.now a.packets.now a.world.count in
    let y = there_yes c.args.world c.args.i c.args.world.n c.is_there.result c.is_there.ensures c.if-is_there.true in
    plays a.call a.i a.bytes.now a.world t _ p _ c.call_at-called.result a.out.now _ y.0 y.1 c.call_at-arg-then-is_there-25-1.given.0.1 c.call_at-called.ensures (rw c.kept_size-size.ensures at c.store-count.ensures) refl

pub returns : goal.returns
returns c =
    let a = c.args in
    let w : Whole = record { n = a.world.n; terminals = terminals_of a.small.now a.masks.now a.numbers.now (rows_of a.queued.now a.held.now a.queued_originators.now a.queued_lengths.now a.held_originators.now a.held_lengths.now a.queued_payloads.now a.held_payloads.now a.past.now a.past_originators.now a.past_lengths.now a.past_payloads.now a.highest.now a.replies.now a.taken.now a.counts.now a.repeats.now a.kept.now a.marks.now a.originators.now a.lengths.now a.payloads.now); packets = packets_of a.sizes.now a.packets.now a.world.count } in
    plays_not (happened_at a.call a.i a.bytes.now) a.world w a.out.now (λ room. no_terminal_lem a.call a.i a.bytes.now w (there_no a.world a.i a.world.n c.is_there.result c.is_there.ensures c.if-is_there.false room))
