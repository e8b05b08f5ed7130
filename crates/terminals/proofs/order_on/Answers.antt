-- The flags are asked; a frozen sequencer refuses the packet, another takes its step.
use Rattle.terminals.proofs.Whole.{ordered_whole, ordered_frozen, ordered_no}
use Rattle.terminals.proofs.order_on.Goals as goal

pub returns-then-head-eq1 : goal.returns-then-head-eq1
returns-then-head-eq1 c = let a = c.args in λ queued held queued_originators queued_lengths held_originators held_lengths queued_payloads held_payloads past past_originators past_lengths past_payloads highest replies. ordered_frozen a.head a.taken.now a.counts.now a.repeats.now a.kept.now a.marks.now a.originators.now a.lengths.now a.payloads.now c.flags_sound.ensures queued held queued_originators queued_lengths held_originators held_lengths queued_payloads held_payloads past past_originators past_lengths past_payloads highest replies a.packet.now c.if-flags_sound.true c.if-head-eq1.true c.ask-v.ensures.answer c.frozen_reply-reply.ensures

pub returns-then-flags_sound : goal.returns-then-flags_sound
returns-then-flags_sound c = let a = c.args in λ queued held queued_originators queued_lengths held_originators held_lengths queued_payloads held_payloads past past_originators past_lengths past_payloads highest replies. ordered_whole a.head a.taken.now a.counts.now a.repeats.now a.kept.now a.marks.now a.originators.now a.lengths.now a.payloads.now c.flags_sound.ensures queued held queued_originators queued_lengths held_originators held_lengths queued_payloads held_payloads past past_originators past_lengths past_payloads highest replies a.packet.now c.if-flags_sound.true c.if-head-eq1.false c.with_sequencer.ensures c.receive_on-step.ensures

pub returns : goal.returns
returns c = let a = c.args in λ queued held queued_originators queued_lengths held_originators held_lengths queued_payloads held_payloads past past_originators past_lengths past_payloads highest replies. ordered_no a.head a.taken.now a.counts.now a.repeats.now a.kept.now a.marks.now a.originators.now a.lengths.now a.payloads.now c.flags_sound.ensures queued held queued_originators queued_lengths held_originators held_lengths queued_payloads held_payloads past past_originators past_lengths past_payloads highest replies a.packet.now c.if-flags_sound.false c.order_refused-reply.ensures
