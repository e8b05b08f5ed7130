-- Questions 1 and 7 are asked, and then those of its kind.
use native.Mathlib.Omega.{arith}
use Rattle.recovery.specs.View.{whole}
use Rattle.attempt.proofs.Changing.{facts}
use Rattle.attempt.proofs.Resetting.{reset_unsound, reset_other, reset_answered, reset_result}
use borrow.Author.Rules.{rules}
use Rattle.attempt.proofs.reset_on.Goals as goal

pub result-requires : goal.result-requires
result-requires c = let a = c.args in let s = whole a.head a.queued.now a.held.now a.queued_originators.now a.queued_lengths.now a.held_originators.now a.held_lengths.now a.queued_payloads.now a.held_payloads.now a.past.now a.past_originators.now a.past_lengths.now a.past_payloads.now a.highest.now a.replies.now a.taken.now a.counts.now a.repeats.now a.kept.now a.marks.now a.originators.now a.lengths.now a.payloads.now in let k = (facts s c.terminal_sound.ensures c.if-terminal_sound.true) in let p = c.requires in (k.flags, k.small, p.1.1 c.if-h-gt-REPLY.true, p.2 c.if-h-gt-REPLY.true)

pub returns-then-h-gt-REPLY : goal.returns-then-h-gt-REPLY
returns-then-h-gt-REPLY c = let a = c.args in let s = whole a.head a.queued.now a.held.now a.queued_originators.now a.queued_lengths.now a.held_originators.now a.held_lengths.now a.queued_payloads.now a.held_payloads.now a.past.now a.past_originators.now a.past_lengths.now a.past_payloads.now a.highest.now a.replies.now a.taken.now a.counts.now a.repeats.now a.kept.now a.marks.now a.originators.now a.lengths.now a.payloads.now in reset_result s a.h a.payload.now (facts s c.terminal_sound.ensures c.if-terminal_sound.true) c.if-h-head.true c.if-h-gt-REPLY.true (c.result.ensures a.queued.now a.queued_originators.now a.queued_lengths.now a.queued_payloads.now a.out.now)

pub answer-requires : goal.answer-requires
answer-requires c = let a = c.args in let s = whole a.head a.queued.now a.held.now a.queued_originators.now a.queued_lengths.now a.held_originators.now a.held_lengths.now a.queued_payloads.now a.held_payloads.now a.past.now a.past_originators.now a.past_lengths.now a.past_payloads.now a.highest.now a.replies.now a.taken.now a.counts.now a.repeats.now a.kept.now a.marks.now a.originators.now a.lengths.now a.payloads.now in let k = (facts s c.terminal_sound.ensures c.if-terminal_sound.true) in let p = c.requires in let y = c.answer-arg-1 in let z = c.answer-arg-then-h-head-1 in (k.small, search rules, p.3)

pub shape_of-out-then-h-head : goal.shape_of-out-then-h-head
shape_of-out-then-h-head c = c.out-1.given

pub returns-then-h-head : goal.returns-then-h-head
returns-then-h-head c = let a = c.args in let s = whole a.head a.queued.now a.held.now a.queued_originators.now a.queued_lengths.now a.held_originators.now a.held_lengths.now a.queued_payloads.now a.held_payloads.now a.past.now a.past_originators.now a.past_lengths.now a.past_payloads.now a.highest.now a.replies.now a.taken.now a.counts.now a.repeats.now a.kept.now a.marks.now a.originators.now a.lengths.now a.payloads.now in reset_answered s a.h a.payload.now (facts s c.terminal_sound.ensures c.if-terminal_sound.true) c.if-h-head.true (let g = c.well_formed.0 in omega (arith, g)) c.requires.0 c.if-h-gt-REPLY.false c.answer.ensures

pub returns-then-terminal_sound : goal.returns-then-terminal_sound
returns-then-terminal_sound c = let a = c.args in let s = whole a.head a.queued.now a.held.now a.queued_originators.now a.queued_lengths.now a.held_originators.now a.held_lengths.now a.queued_payloads.now a.held_payloads.now a.past.now a.past_originators.now a.past_lengths.now a.past_payloads.now a.highest.now a.replies.now a.taken.now a.counts.now a.repeats.now a.kept.now a.marks.now a.originators.now a.lengths.now a.payloads.now in reset_other s a.h a.payload.now (facts s c.terminal_sound.ensures c.if-terminal_sound.true) c.if-h-head.false c.declined.ensures

pub returns : goal.returns
returns c = let a = c.args in let s = whole a.head a.queued.now a.held.now a.queued_originators.now a.queued_lengths.now a.held_originators.now a.held_lengths.now a.queued_payloads.now a.held_payloads.now a.past.now a.past_originators.now a.past_lengths.now a.past_payloads.now a.highest.now a.replies.now a.taken.now a.counts.now a.repeats.now a.kept.now a.marks.now a.originators.now a.lengths.now a.payloads.now in reset_unsound s a.h a.payload.now c.terminal_sound.ensures c.if-terminal_sound.false c.declined-2.ensures
