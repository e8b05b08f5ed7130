-- Questions 1 and 2, then the status with the row's end.
use mathlib.Core.Path.{sym, ◌∙◌}
use native.Mathlib.Omega.{arith}
use Rattle.store.specs.Places.{messages_in}
use Rattle.window.proofs.Places.{counted_in_lem}
use Rattle.member.specs.Calls.{status_of, status_packet}
use Rattle.member.specs.Steps.{member_of}
use Rattle.member.specs.View.{view_of}
use Rattle.member.specs.declared.Answer.{Answer}
use Rattle.member.proofs.Acknowledged.{end_counted}
use Rattle.member.proofs.Outcomes.{told, replied_as, quiet, sent, judged_yes, judged_no, asked}
use Rattle.member.proofs.View.{reported}
use Rattle.member_calls.proofs.status_on.Goals as goal

pub put_status-requires : goal.put_status-requires
put_status-requires c = (asked _ _ (sym c.ask.ensures ∙ c.in_default.is)).1

pub returns : goal.returns
unfolding view_of status_of
returns c =
    let a = c.args in
    let queue = messages_in a.queued.now a.queued_originators.now a.queued_lengths.now a.queued_payloads.now in
    let held = messages_in a.held.now a.held_originators.now a.held_lengths.now a.held_payloads.now in
    let m = member_of a.head queue held in
    let e = end_counted m a.held.now (counted_in_lem a.held.now a.held_originators.now a.held_lengths.now a.held_payloads.now) _ (let g = c.well_formed.0 in omega (arith, g)) c.row_end-end.ensures in
    told (replied_as (judged_yes _ _ _ (sym c.ask.ensures ∙ c.in_default.is)) (sent m Answer.Sent (status_packet m) _ _ _ (reported m _ e c.put_status.ensures)))

pub returns-in-Err : goal.returns-in-Err
unfolding view_of status_of
returns-in-Err c = told (replied_as (judged_no _ _ _ _ (sym c.ask.ensures ∙ c.in-Err.is)) (quiet _ _ _ c.args.out.now c.refused.ensures))
