-- The flags are asked, then the sequencer.
use Rattle.terminals.proofs.Whole.{polled_whole, polled_no}
use Rattle.terminals.proofs.poll_on.Goals as goal

pub returns-then-flags_sound : goal.returns-then-flags_sound
returns-then-flags_sound c = let a = c.args in λ queued held queued_originators queued_lengths held_originators held_lengths queued_payloads held_payloads past past_originators past_lengths past_payloads highest replies. polled_whole a.head a.taken.now a.counts.now a.repeats.now a.kept.now a.marks.now a.originators.now a.lengths.now a.payloads.now c.flags_sound.ensures queued held queued_originators queued_lengths held_originators held_lengths queued_payloads held_payloads past past_originators past_lengths past_payloads highest replies c.if-flags_sound.true c.poll_on.ensures

pub returns : goal.returns
returns c = let a = c.args in λ queued held queued_originators queued_lengths held_originators held_lengths queued_payloads held_payloads past past_originators past_lengths past_payloads highest replies. polled_no a.head a.taken.now a.counts.now a.repeats.now a.kept.now a.marks.now a.originators.now a.lengths.now a.payloads.now c.flags_sound.ensures queued held queued_originators queued_lengths held_originators held_lengths queued_payloads held_payloads past past_originators past_lengths past_payloads highest replies c.if-flags_sound.false c.order_refused.ensures
