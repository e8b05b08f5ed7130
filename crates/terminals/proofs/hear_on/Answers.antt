-- The rest of the member's end is asked; with a reply open the packet is refused, else it is the member's and its floor is read.
use Rattle.terminals.proofs.Whole.{heard_whole, heard_closed, heard_no}
use Rattle.terminals.proofs.hear_on.Goals as goal

pub returns-then-head-eq1 : goal.returns-then-head-eq1
returns-then-head-eq1 c = let a = c.args in λ taken counts repeats kept marks originators lengths payloads. heard_closed a.head a.queued.now a.held.now a.queued_originators.now a.queued_lengths.now a.held_originators.now a.held_lengths.now a.queued_payloads.now a.held_payloads.now a.past.now a.past_originators.now a.past_lengths.now a.past_payloads.now a.highest.now a.replies.now c.beside_sound.ensures taken counts repeats kept marks originators lengths payloads a.packet.now c.requires c.if-beside_sound.true c.if-head-eq1.true c.ask-v.ensures c.closed_reply-reply.ensures

pub returns-then-beside_sound : goal.returns-then-beside_sound
returns-then-beside_sound c = let a = c.args in λ taken counts repeats kept marks originators lengths payloads. heard_whole a.head a.queued.now a.held.now a.queued_originators.now a.queued_lengths.now a.held_originators.now a.held_lengths.now a.queued_payloads.now a.held_payloads.now a.past.now a.past_originators.now a.past_lengths.now a.past_payloads.now a.highest.now a.replies.now c.beside_sound.ensures taken counts repeats kept marks originators lengths payloads a.packet.now c.requires c.if-beside_sound.true c.if-head-eq1.false c.with_heard.ensures c.read_after-read.ensures c.receive_on-done.ensures

pub returns : goal.returns
returns c = let a = c.args in λ taken counts repeats kept marks originators lengths payloads. heard_no a.head a.queued.now a.held.now a.queued_originators.now a.queued_lengths.now a.held_originators.now a.held_lengths.now a.queued_payloads.now a.held_payloads.now a.past.now a.past_originators.now a.past_lengths.now a.past_payloads.now a.highest.now a.replies.now c.beside_sound.ensures taken counts repeats kept marks originators lengths payloads a.packet.now c.if-beside_sound.false c.refused-reply.ensures
