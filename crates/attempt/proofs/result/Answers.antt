-- Its questions are asked, and then it is entered.
use Rattle.recovery.specs.View.{whole}
use Rattle.attempt.proofs.Resulting.{result_declined, result_entered}
use Rattle.attempt.proofs.result.Goals as goal

pub returns-in-Ok : goal.returns-in-Ok
returns-in-Ok c = let a = c.args in λ queued queued_originators queued_lengths queued_payloads before. let s = whole a.head queued a.held.now queued_originators queued_lengths a.held_originators.now a.held_lengths.now queued_payloads a.held_payloads.now a.past.now a.past_originators.now a.past_lengths.now a.past_payloads.now a.highest.now a.replies.now a.taken.now a.counts.now a.repeats.now a.kept.now a.marks.now a.originators.now a.lengths.now a.payloads.now in result_entered s a.h.member a.h.a (record { 0 = a.h.b }) (record { 0 = a.h.c }) a.payload.now c.u16_at-survivors.ensures c.ask_result.ensures c.requires.0 c.in-Ok.is c.enter_on-next.ensures

pub returns-in-Err : goal.returns-in-Err
returns-in-Err c = let a = c.args in λ queued queued_originators queued_lengths queued_payloads before. let s = whole a.head queued a.held.now queued_originators queued_lengths a.held_originators.now a.held_lengths.now queued_payloads a.held_payloads.now a.past.now a.past_originators.now a.past_lengths.now a.past_payloads.now a.highest.now a.replies.now a.taken.now a.counts.now a.repeats.now a.kept.now a.marks.now a.originators.now a.lengths.now a.payloads.now in result_declined s a.h.member a.h.a (record { 0 = a.h.b }) (record { 0 = a.h.c }) a.payload.now c.u16_at-survivors.ensures c.ask_result.ensures c.requires.0 _ c.in-Err.is c.declined.ensures
