-- Questions 1 and 2 of the member's end, then the reset's step with the part behind the header.
use mathlib.Core.Path.{refl, sym, ◌∙◌}
use native.Mathlib.Omega.{arith}
use lib.ListN.{length}
use Rattle.big_endian.specs.Laws.{Bytes}
use Rattle.packet.proofs.Verdicts.{readable}
use Rattle.sequencer.proofs.Deciding.{payload_lent}
use Rattle.recovery.specs.View.{whole}
use Rattle.attempt.proofs.Resetting.{reset_fits}
use Rattle.terminals.proofs.Receiving.{reset_high, reset_room, received_reset, received_no, not_reset}
use borrow.Author.Rules.{rules}
use Rattle.terminals.proofs.reset_on.Goals as goal

pub slice_bounds-reset_on-count : goal.slice_bounds-reset_on-count
slice_bounds-reset_on-count c = let h = (readable _ _ (sym c.read-r.ensures.answer ∙ c.in-Ok-r.is)).long in search rules

pub slice_bounds-reset_on-start : goal.slice_bounds-reset_on-start
slice_bounds-reset_on-start c = let h = (readable _ _ (sym c.read-r.ensures.answer ∙ c.in-Ok-r.is)).long in search rules

pub slice_bounds-reset_on-end : goal.slice_bounds-reset_on-end
slice_bounds-reset_on-end c = let h = (readable _ _ (sym c.read-r.ensures.answer ∙ c.in-Ok-r.is)).long in search rules

pub reset_on-requires : goal.reset_on-requires
unfolding Bytes
reset_on-requires c = let a = c.args in let s = whole a.head a.queued.now a.held.now a.queued_originators.now a.queued_lengths.now a.held_originators.now a.held_lengths.now a.queued_payloads.now a.held_payloads.now a.past.now a.past_originators.now a.past_lengths.now a.past_payloads.now a.highest.now a.replies.now a.taken.now a.counts.now a.repeats.now a.kept.now a.marks.now a.originators.now a.lengths.now a.payloads.now in let e = (sym c.read-r.ensures.answer ∙ c.in-Ok-r.is) in let f = reset_fits a.packet.now (λ i _. let z = c.shared_slice_known-1.given i in omega (arith, z)) _ e in (reset_high _ _ e c.requires, f.0, rw (payload_lent a.packet.now) f.1, reset_room s (length a.out.now) (c.ask-v.ensures a.taken.now a.counts.now a.repeats.now a.kept.now a.marks.now a.originators.now a.lengths.now a.payloads.now) c.in-Ok.is)

pub returns-in-Ok-r : goal.returns-in-Ok-r
returns-in-Ok-r c = let a = c.args in let s = whole a.head a.queued.now a.held.now a.queued_originators.now a.queued_lengths.now a.held_originators.now a.held_lengths.now a.queued_payloads.now a.held_payloads.now a.past.now a.past_originators.now a.past_lengths.now a.past_payloads.now a.highest.now a.replies.now a.taken.now a.counts.now a.repeats.now a.kept.now a.marks.now a.originators.now a.lengths.now a.payloads.now in let e = (sym c.read-r.ensures.answer ∙ c.in-Ok-r.is) in received_reset s a.packet.now (c.ask-v.ensures a.taken.now a.counts.now a.repeats.now a.kept.now a.marks.now a.originators.now a.lengths.now a.payloads.now) _ c.in-Ok.is e c.requires (payload_lent a.packet.now) c.reset_on.ensures

pub returns-in-Err-r : goal.returns-in-Err-r
returns-in-Err-r c = absurd (not_reset _ _ (sym c.read-r.ensures.answer ∙ c.in-Err-r.is) c.requires)

pub returns-in-Err : goal.returns-in-Err
returns-in-Err c = let a = c.args in let s = whole a.head a.queued.now a.held.now a.queued_originators.now a.queued_lengths.now a.held_originators.now a.held_lengths.now a.queued_payloads.now a.held_payloads.now a.past.now a.past_originators.now a.past_lengths.now a.past_payloads.now a.highest.now a.replies.now a.taken.now a.counts.now a.repeats.now a.kept.now a.marks.now a.originators.now a.lengths.now a.payloads.now in rw c.declined-in-Err.ensures (received_no s a.packet.now (c.ask-v.ensures a.taken.now a.counts.now a.repeats.now a.kept.now a.marks.now a.originators.now a.lengths.now a.payloads.now) c.in-Err.is refl)
