-- A line of another form, an event without space, an event.
use mathlib.Core.Path.{refl, sym, ap, ◌∙◌}
use Rattle.std.specs.Prelude.{Some}
use Prim.Native.Nat.{◌≤◌}
use native.Mathlib.Omega.{arith}
use lib.ListN.{length}
use Rattle.report.specs.Print.{line_room, no_space, bad_line}
use Rattle.reset_schedule.proofs.Laws.{submit_fits}
use Rattle.reset_schedule.specs.Line.{event_of}
use Rattle.reset_simulator.specs.Whole.{whole_of, group_of}
use Rattle.simulator.proofs.Lists.{length_list}
use Rattle.simulator.specs.Whole.{packets_most, packet_at}
use Rattle.reset_player.proofs.Asking.{as_performed}
use Rattle.reset_player.proofs.Telling.{as_told, payload_length, tells_ended, performed_size, meant_is, some_event, told_other, told_full, told_event}
use borrow.Author.Rules.{rules}
use Rattle.reset_player.proofs.tell.Goals as goal

pub slice_bounds-perform-end : goal.slice_bounds-perform-end
slice_bounds-perform-end c = let n = payload_length _ _ (submit_fits _) refl c.read_event.ensures.lent in search rules

pub perform-happening-requires : goal.perform-happening-requires
perform-happening-requires c = (λ i size e. submit_fits _ i size (sym c.in-Some.ensures.command ∙ ap Some e), payload_length _ _ (submit_fits _) refl c.read_event.ensures.lent)

pub write_answer-written-requires : goal.write_answer-written-requires
write_answer-written-requires c = performed_size _ _ _ _ _ _ _ c.perform-happening.ensures

pub returns-then-index-lt-PACKETS : goal.returns-then-index-lt-PACKETS
returns-then-index-lt-PACKETS c =
    let a = c.args in
    let e = meant_is (event_of a.line.now) (Some c.in-Some.command) _ _ c.in-Some.ensures.command c.in-Some.ensures.lent in
    let w = (whole_of a.world a.small.now a.masks.now a.numbers.now a.queued.now a.held.now a.queued_originators.now a.queued_lengths.now a.held_originators.now a.held_lengths.now a.queued_payloads.now a.held_payloads.now a.past.now a.past_originators.now a.past_lengths.now a.past_payloads.now a.highest.now a.replies.now a.taken.now a.counts.now a.repeats.now a.kept.now a.marks.now a.originators.now a.lengths.now a.payloads.now a.sizes.now a.packets.now) in
    told_event w a.number (event_of a.line.now)
    (some_event (event_of a.line.now) c.in-Some.command c.in-Some.ensures.command) a.world c.requires (sym (length_list (packet_at w.packets) 0 a.world.count)) c.if-index-lt-PACKETS.true
    c.perform-happening.result _ _ _ (as_performed a.world w _ c.perform-happening.result _ _ e c.perform-happening.ensures)
    _ _ _
    (record { world = refl; next = c.next_number-next.ensures; phase = refl; written = c.write_answer-written.ensures.size; output = c.write_answer-written.ensures.lent })

pub returns : goal.returns
returns c =
    let a = c.args in
    let w = (whole_of a.world a.small.now a.masks.now a.numbers.now a.queued.now a.held.now a.queued_originators.now a.queued_lengths.now a.held_originators.now a.held_lengths.now a.queued_payloads.now a.held_payloads.now a.past.now a.past_originators.now a.past_lengths.now a.past_payloads.now a.highest.now a.replies.now a.taken.now a.counts.now a.repeats.now a.kept.now a.marks.now a.originators.now a.lengths.now a.payloads.now a.sizes.now a.packets.now) in
    let n = length_list (packet_at w.packets) 0 a.world.count in
    let full : packets_most ≤ length (group_of w).packets = let l = c.if-index-lt-PACKETS.false in omega arith in
    as_told
    (told_full w a.number (event_of a.line.now) (some_event (event_of a.line.now) c.in-Some.command c.in-Some.ensures.command) full)
    (tells_ended (no_space a.number) a.out.now _ _ w line_room (search rules) c.write_no_space-written.ensures.size c.write_no_space-written.ensures.lent c.requires refl)

pub returns-in_default : goal.returns-in_default
returns-in_default c =
    let a = c.args in
    let w = (whole_of a.world a.small.now a.masks.now a.numbers.now a.queued.now a.held.now a.queued_originators.now a.queued_lengths.now a.held_originators.now a.held_lengths.now a.queued_payloads.now a.held_payloads.now a.past.now a.past_originators.now a.past_lengths.now a.past_payloads.now a.highest.now a.replies.now a.taken.now a.counts.now a.repeats.now a.kept.now a.marks.now a.originators.now a.lengths.now a.payloads.now a.sizes.now a.packets.now) in
    as_told
    (told_other w a.number (event_of a.line.now) (sym c.in_default.ensures.command))
    (tells_ended (bad_line a.number) a.out.now _ _ w line_room (search rules) c.write_bad_line-written.ensures.size c.write_bad_line-written.ensures.lent c.requires refl)
