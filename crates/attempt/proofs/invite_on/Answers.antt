-- Questions 1 and 2 are asked, then the step is taken.
use native.Mathlib.Omega.{arith}
use Prim.Native.Nat.{◌≤◌}
use Rattle.group.specs.Limits.{longest_packet}
use lib.ListN.{length}
use Rattle.recovery.specs.View.{whole}
use Rattle.attempt.proofs.Changing.{facts}
use Rattle.attempt.proofs.Inviting.{invite_unsound, invite_short, invite_done}
use borrow.Author.Rules.{rules}
use Rattle.attempt.proofs.invite_on.Goals as goal

pub returns-then-out-lt-PACKET : goal.returns-then-out-lt-PACKET
returns-then-out-lt-PACKET c = let a = c.args in let s = whole a.head a.queued.now a.held.now a.queued_originators.now a.queued_lengths.now a.held_originators.now a.held_lengths.now a.queued_payloads.now a.held_payloads.now a.past.now a.past_originators.now a.past_lengths.now a.past_payloads.now a.highest.now a.replies.now a.taken.now a.counts.now a.repeats.now a.kept.now a.marks.now a.originators.now a.lengths.now a.payloads.now in invite_short s a.attempt (facts s c.terminal_sound.ensures c.if-terminal_sound.true) (search rules) c.declined.ensures

pub invite-requires : goal.invite-requires
invite-requires c = let a = c.args in let s = whole a.head a.queued.now a.held.now a.queued_originators.now a.queued_lengths.now a.held_originators.now a.held_lengths.now a.queued_payloads.now a.held_payloads.now a.past.now a.past_originators.now a.past_lengths.now a.past_payloads.now a.highest.now a.replies.now a.taken.now a.counts.now a.repeats.now a.kept.now a.marks.now a.originators.now a.lengths.now a.payloads.now in let k = (facts s c.terminal_sound.ensures c.if-terminal_sound.true) in let o = k.own in let m = k.small in (omega (arith, o, m), search rules, search rules)

pub returns-then-terminal_sound : goal.returns-then-terminal_sound
returns-then-terminal_sound c = let a = c.args in let s = whole a.head a.queued.now a.held.now a.queued_originators.now a.queued_lengths.now a.held_originators.now a.held_lengths.now a.queued_payloads.now a.held_payloads.now a.past.now a.past_originators.now a.past_lengths.now a.past_payloads.now a.highest.now a.replies.now a.taken.now a.counts.now a.repeats.now a.kept.now a.marks.now a.originators.now a.lengths.now a.payloads.now in let h : longest_packet ≤ length a.out.now = search rules in invite_done s a.attempt (facts s c.terminal_sound.ensures c.if-terminal_sound.true) (let g = c.well_formed.0 in omega (arith, g)) h c.invite.ensures

pub returns : goal.returns
returns c = let a = c.args in let s = whole a.head a.queued.now a.held.now a.queued_originators.now a.queued_lengths.now a.held_originators.now a.held_lengths.now a.queued_payloads.now a.held_payloads.now a.past.now a.past_originators.now a.past_lengths.now a.past_payloads.now a.highest.now a.replies.now a.taken.now a.counts.now a.repeats.now a.kept.now a.marks.now a.originators.now a.lengths.now a.payloads.now in invite_unsound s a.attempt c.terminal_sound.ensures c.if-terminal_sound.false c.declined-2.ensures
