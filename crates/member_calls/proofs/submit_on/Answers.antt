-- Questions 1, 2, 13, 14 and 16, then the step.
use Rattle.group.specs.Question.{all_yes}
use mathlib.Core.Path.{◌≡◌, sym, ◌∙◌}
use lib.ListN.{length}
use Rattle.store.specs.Places.{messages_in}
use Rattle.window.proofs.Places.{counted_in_lem}
use Rattle.member.specs.Calls.{submit_of, submit_verdict}
use Rattle.member.specs.Steps.{member_of}
use Rattle.member.specs.View.{view_of}
use Rattle.member.proofs.Outcomes.{changed, replied_as, quiet_done, judged_yes, judged_no, asked, asked_submission}
use Rattle.member.proofs.Submitting.{submission_alike}
use Rattle.member_calls.proofs.submit_on.Goals as goal

pub submitted-requires : goal.submitted-requires
submitted-requires c =
    let s = asked _ _ (sym c.ask.ensures ∙ c.in_default.is) in
    let w = asked_submission _ _ (sym c.ask_submission.ensures ∙ c.in_default-ask_submission.is) in
    (w.0, w.1, w.2, s.1)

pub returns : goal.returns
unfolding view_of
returns c =
    let a = c.args in
    let queue = messages_in a.queued.now a.queued_originators.now a.queued_lengths.now a.queued_payloads.now in
    let held = messages_in a.held.now a.held_originators.now a.held_lengths.now a.held_payloads.now in
    let m = member_of a.head queue held in
    let w : submit_verdict m (length a.payload.now) ≡ all_yes = submission_alike a.head queue held _ (sym c.ask_submission.ensures ∙ c.in_default-ask_submission.is) in
    changed (c.submitted.ensures held (counted_in_lem a.held.now a.held_originators.now a.held_lengths.now a.held_payloads.now) (sym c.ask.ensures ∙ c.in_default.is) w)

pub returns-in-Err-ask_submission : goal.returns-in-Err-ask_submission
unfolding view_of submit_of submit_verdict
returns-in-Err-ask_submission c =
    changed (replied_as (judged_no _ _ _ _ (sym c.ask_submission.ensures ∙ c.in-Err-ask_submission.is) ∙ judged_yes _ _ _ (sym c.ask.ensures ∙ c.in_default.is)) (quiet_done c.args.head _ _ _ _ c.args.out.now c.declined-in-Err-ask_submission.ensures))

pub returns-in-Err : goal.returns-in-Err
unfolding view_of submit_of
returns-in-Err c = changed (replied_as (judged_no _ _ _ _ (sym c.ask.ensures ∙ c.in-Err.is)) (quiet_done c.args.head _ _ _ _ c.args.out.now c.declined.ensures))
