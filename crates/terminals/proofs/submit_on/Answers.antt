-- The rest of the member's end is asked, then the member.
use Rattle.terminals.proofs.Whole.{submitted_whole, submitted_no}
use Rattle.terminals.proofs.submit_on.Goals as goal

pub returns-then-beside_sound : goal.returns-then-beside_sound
returns-then-beside_sound c = let a = c.args in λ taken counts repeats kept marks originators lengths payloads. submitted_whole a.head a.queued.now a.held.now a.queued_originators.now a.queued_lengths.now a.held_originators.now a.held_lengths.now a.queued_payloads.now a.held_payloads.now a.past.now a.past_originators.now a.past_lengths.now a.past_payloads.now a.highest.now a.replies.now c.beside_sound.ensures taken counts repeats kept marks originators lengths payloads a.payload.now c.if-beside_sound.true c.with_member.ensures c.submit_on-done.ensures

pub returns : goal.returns
returns c = let a = c.args in λ taken counts repeats kept marks originators lengths payloads. submitted_no a.head a.queued.now a.held.now a.queued_originators.now a.queued_lengths.now a.held_originators.now a.held_lengths.now a.queued_payloads.now a.held_payloads.now a.past.now a.past_originators.now a.past_lengths.now a.past_payloads.now a.highest.now a.replies.now c.beside_sound.ensures taken counts repeats kept marks originators lengths payloads a.payload.now c.if-beside_sound.false c.refused-reply.ensures
