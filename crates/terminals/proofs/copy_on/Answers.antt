-- The flags are asked, then the sequencer.
use Rattle.terminals.proofs.Whole.{copied_whole, copied_no}
use Rattle.terminals.proofs.copy_on.Goals as goal

pub returns-then-flags_sound : goal.returns-then-flags_sound
returns-then-flags_sound c = let a = c.args in λ queued held queued_originators queued_lengths held_originators held_lengths queued_payloads held_payloads past past_originators past_lengths past_payloads highest replies. copied_whole a.head a.taken.now a.counts.now a.repeats.now a.kept.now a.marks.now a.originators.now a.lengths.now a.payloads.now c.flags_sound.ensures queued held queued_originators queued_lengths held_originators held_lengths queued_payloads held_payloads past past_originators past_lengths past_payloads highest replies a.number c.if-flags_sound.true c.copy_on.ensures

pub returns : goal.returns
returns c = let a = c.args in λ queued held queued_originators queued_lengths held_originators held_lengths queued_payloads held_payloads past past_originators past_lengths past_payloads highest replies. copied_no a.head a.taken.now a.counts.now a.repeats.now a.kept.now a.marks.now a.originators.now a.lengths.now a.payloads.now c.flags_sound.ensures queued held queued_originators queued_lengths held_originators held_lengths queued_payloads held_payloads past past_originators past_lengths past_payloads highest replies a.number c.if-flags_sound.false c.order_refused.ensures
