-- The rest of the member's end, then the member.
use Rattle.terminals.proofs.Whole.{asked_whole, asked_no}
use Rattle.terminals.proofs.ask.Goals as goal

pub returns-then-beside_sound : goal.returns-then-beside_sound
returns-then-beside_sound c = let a = c.args in λ taken counts repeats kept marks originators lengths payloads. asked_whole a.head a.queued.now a.held.now a.queued_originators.now a.queued_lengths.now a.held_originators.now a.held_lengths.now a.queued_payloads.now a.held_payloads.now a.past.now a.past_originators.now a.past_lengths.now a.past_payloads.now a.highest.now a.replies.now c.beside_sound.ensures taken counts repeats kept marks originators lengths payloads a.room c.if-beside_sound.true c.ask.ensures

pub returns : goal.returns
returns c = let a = c.args in λ taken counts repeats kept marks originators lengths payloads. asked_no a.head a.queued.now a.held.now a.queued_originators.now a.queued_lengths.now a.held_originators.now a.held_lengths.now a.queued_payloads.now a.held_payloads.now a.past.now a.past_originators.now a.past_lengths.now a.past_payloads.now a.highest.now a.replies.now c.beside_sound.ensures taken counts repeats kept marks originators lengths payloads a.room c.if-beside_sound.false
