-- The rows that are stored are those of the head that the call left.
use mathlib.Core.List.{[]}
use lib.ListN.{get_or}
use native.Mathlib.Omega.{arith}
use Rattle.reset_simulator.specs.Whole.{rows_of}
use Rattle.terminal_rows.proofs.Flags.{flags_sound_lem}
use Rattle.reset_simulator.proofs.Acting.{calls_at, calls_not}
use Rattle.reset_simulator.proofs.call_at.Goals as goal

pub call_row-called-requires : goal.call_row-called-requires
call_row-called-requires c = let a = c.args in (c.requires, rw c.read_head-head.ensures (flags_sound_lem (get_or a.small.now a.i []) (get_or a.masks.now a.i []) (get_or a.numbers.now a.i [])), record { queued = c.call_row-arg-1.given.0.1; held = c.call_row-arg-then-admits-1.given.0.1; queued_originators = c.call_row-arg-then-admits-2-1.given.0.1; queued_lengths = c.call_row-arg-then-admits-3-1.given.0.1; held_originators = c.call_row-arg-then-admits-4-1.given.0.1; held_lengths = c.call_row-arg-then-admits-5-1.given.0.1; queued_payloads = c.call_row-arg-then-admits-6-1.given.0.1; held_payloads = c.call_row-arg-then-admits-7-1.given.0.1; past = c.call_row-arg-then-admits-8-1.given.0.1; past_originators = c.call_row-arg-then-admits-9-1.given.0.1; past_lengths = c.call_row-arg-then-admits-10-1.given.0.1; past_payloads = c.call_row-arg-then-admits-11-1.given.0.1; highest = c.call_row-arg-then-admits-12-1.given.0.1; replies = c.call_row-arg-then-admits-13-1.given.0.1; taken = c.call_row-arg-then-admits-14-1.given.0.1; counts = c.call_row-arg-then-admits-15-1.given.0.1; repeats = c.call_row-arg-then-admits-16-1.given.0.1; kept = c.call_row-arg-then-admits-17-1.given.0.1; marks = c.call_row-arg-then-admits-18-1.given.0.1; originators = c.call_row-arg-then-admits-19-1.given.0.1; lengths = c.call_row-arg-then-admits-20-1.given.0.1; payloads = c.call_row-arg-then-admits-21-1.given.0.1 })

pub write_head-requires : goal.write_head-requires
write_head-requires c =
    let l = c.requires in
    ((let k = c.write_head-arg-1.given.0.1 in omega arith), (let k = c.write_head-arg-then-admits-1.given.0.1 in omega arith), (let k = c.write_head-arg-then-admits-2-1.given.0.1 in omega arith))

pub shape_of-out-then-admits : goal.shape_of-out-then-admits
shape_of-out-then-admits c = c.out-1.given

pub returns-then-admits : goal.returns-then-admits
returns-then-admits c =
    let a = c.args in
    let rows = rows_of a.queued.now a.held.now a.queued_originators.now a.queued_lengths.now a.held_originators.now a.held_lengths.now a.queued_payloads.now a.held_payloads.now a.past.now a.past_originators.now a.past_lengths.now a.past_payloads.now a.highest.now a.replies.now a.taken.now a.counts.now a.repeats.now a.kept.now a.marks.now a.originators.now a.lengths.now a.payloads.now in
    let l = c.requires in
    let x = c.read_head-arg-2-1.given in
    let y = c.read_head-arg-4-1.given in
    let z = c.read_head-arg-6-1.given in
    calls_at a.call a.bytes.now a.i a.small.now a.masks.now a.numbers.now rows _ c.call_row-called.result a.out.now _ c.read_head-head.result c.admits.result _ _ _ (omega arith) (omega arith) (omega arith) c.read_head-head.ensures c.admits.ensures c.if-admits.true c.call_row-called.ensures c.write_head.ensures

pub returns : goal.returns
returns c =
    let a = c.args in
    calls_not a.call a.bytes.now a.i _ c.read_head-head.result a.out.now c.admits.result c.read_head-head.ensures c.admits.ensures c.if-admits.false
