-- The rest of the member's end is asked, then the member; what it hands out is kept.
use Rattle.terminals.proofs.Whole.{taken_fits, taken_whole, taken_no}
use borrow.Author.Rules.{rules}
use Rattle.terminals.proofs.take_on.Goals as goal

pub remember-requires : goal.remember-requires
remember-requires c = let a = c.args in let f = taken_fits a.head a.queued.now a.held.now a.queued_originators.now a.queued_lengths.now a.held_originators.now a.held_lengths.now a.queued_payloads.now a.held_payloads.now a.past.now a.past_originators.now a.past_lengths.now a.past_payloads.now a.highest.now a.replies.now c.held_sizes.ensures c.take_on-done.ensures in (record { kept_size = search rules; originators_size = search rules; lengths_size = search rules; payloads_size = search rules }, search rules, f.0, f.1)

pub returns-then-beside_sound : goal.returns-then-beside_sound
returns-then-beside_sound c = let a = c.args in λ taken counts repeats kept marks originators lengths payloads. taken_whole a.head a.queued.now a.held.now a.queued_originators.now a.queued_lengths.now a.held_originators.now a.held_lengths.now a.queued_payloads.now a.held_payloads.now a.past.now a.past_originators.now a.past_lengths.now a.past_payloads.now a.highest.now a.replies.now c.held_sizes.ensures c.beside_sound.ensures taken counts repeats kept marks originators lengths payloads c.if-beside_sound.true c.with_member-next.ensures c.take_on-done.ensures c.remember.ensures

pub returns : goal.returns
returns c = let a = c.args in λ taken counts repeats kept marks originators lengths payloads. taken_no a.head a.queued.now a.held.now a.queued_originators.now a.queued_lengths.now a.held_originators.now a.held_lengths.now a.queued_payloads.now a.held_payloads.now a.past.now a.past_originators.now a.past_lengths.now a.past_payloads.now a.highest.now a.replies.now c.beside_sound.ensures taken counts repeats kept marks originators lengths payloads c.if-beside_sound.false c.refused-reply.ensures
