-- Questions 1, 2, 27 and 26 are asked, and then the group is made.
use native.Mathlib.Omega.{arith}
use Rattle.recovery.specs.View.{whole}
use Rattle.attempt.proofs.Changing.{facts}
use Rattle.attempt.proofs.Making.{make_unsound, make_declined, make_asks, make_done}
use Rattle.attempt.proofs.make_on.Goals as goal

pub make-requires : goal.make-requires
make-requires c = let a = c.args in let s = whole a.head a.queued.now a.held.now a.queued_originators.now a.queued_lengths.now a.held_originators.now a.held_lengths.now a.queued_payloads.now a.held_payloads.now a.past.now a.past_originators.now a.past_lengths.now a.past_payloads.now a.highest.now a.replies.now a.taken.now a.counts.now a.repeats.now a.kept.now a.marks.now a.originators.now a.lengths.now a.payloads.now in let k = (facts s c.terminal_sound.ensures c.if-terminal_sound.true) in let o = k.own in let n = k.small in let m = make_asks s (facts s c.terminal_sound.ensures c.if-terminal_sound.true) a.demand a.out.now c.ask_making.ensures c.in-Ok.is in (k.flags, omega (arith, o, n), m.0, m.1)

pub shape_of-out-in-Ok : goal.shape_of-out-in-Ok
shape_of-out-in-Ok c = c.out-1.given

pub returns-in-Ok : goal.returns-in-Ok
returns-in-Ok c = let a = c.args in let s = whole a.head a.queued.now a.held.now a.queued_originators.now a.queued_lengths.now a.held_originators.now a.held_lengths.now a.queued_payloads.now a.held_payloads.now a.past.now a.past_originators.now a.past_lengths.now a.past_payloads.now a.highest.now a.replies.now a.taken.now a.counts.now a.repeats.now a.kept.now a.marks.now a.originators.now a.lengths.now a.payloads.now in make_done s (facts s c.terminal_sound.ensures c.if-terminal_sound.true) a.demand a.out.now c.ask_making.ensures c.in-Ok.is (c.make.ensures a.queued.now a.queued_originators.now a.queued_lengths.now a.queued_payloads.now)

pub returns-in-Err : goal.returns-in-Err
returns-in-Err c = let a = c.args in let s = whole a.head a.queued.now a.held.now a.queued_originators.now a.queued_lengths.now a.held_originators.now a.held_lengths.now a.queued_payloads.now a.held_payloads.now a.past.now a.past_originators.now a.past_lengths.now a.past_payloads.now a.highest.now a.replies.now a.taken.now a.counts.now a.repeats.now a.kept.now a.marks.now a.originators.now a.lengths.now a.payloads.now in make_declined s (facts s c.terminal_sound.ensures c.if-terminal_sound.true) a.demand a.out.now c.ask_making.ensures _ c.in-Err.is c.declined.ensures

pub returns : goal.returns
returns c = let a = c.args in let s = whole a.head a.queued.now a.held.now a.queued_originators.now a.queued_lengths.now a.held_originators.now a.held_lengths.now a.queued_payloads.now a.held_payloads.now a.past.now a.past_originators.now a.past_lengths.now a.past_payloads.now a.highest.now a.replies.now a.taken.now a.counts.now a.repeats.now a.kept.now a.marks.now a.originators.now a.lengths.now a.payloads.now in make_unsound s a.demand c.terminal_sound.ensures c.if-terminal_sound.false c.declined-2.ensures
