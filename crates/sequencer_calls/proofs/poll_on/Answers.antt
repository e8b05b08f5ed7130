-- The verdict on state and output, then the poll packet.
use mathlib.Core.Path.{sym, ◌∙◌}
use native.Mathlib.Nat.{le_trans}
use Rattle.history.proofs.Asking.{judged_yes, judged_no}
use Rattle.sequencer.specs.Calls.{poll_packet, poll_of}
use Rattle.sequencer.specs.View.{whole, view_of}
use Rattle.sequencer.specs.declared.Answer.TheVariants.{Sent}
use Rattle.sequencer.proofs.Outcomes.{told_as_lem, told_laid, refusal_told}
use Rattle.sequencer.proofs.Owed.{call_asked}
use Rattle.sequencer.proofs.Soundness.{sound_of_lem}
use Rattle.sequencer_calls.proofs.poll_on.Goals as goal

pub send_poll-requires : goal.send_poll-requires
unfolding view_of
send_poll-requires c =
    let w = call_asked _ _ (sym c.ask.ensures.answer ∙ c.in-Ok.is) in
    let s = sound_of_lem _ w.0 in
    (le_trans s.floor_le s.accepted_le, w.1)

pub returns-in-Ok : goal.returns-in-Ok
unfolding poll_of poll_packet view_of
returns-in-Ok c =
    let a = c.args in
    let s = view_of (whole a.head a.taken.now a.counts.now a.repeats.now a.kept.now a.marks.now a.originators.now a.lengths.now a.payloads.now) in
    told_as_lem {o = record { sequencer = s; answer = Sent; bytes = poll_packet s }} (judged_yes _ _ _ (sym c.ask.ensures.answer ∙ c.in-Ok.is)) (told_laid (record { sequencer = s; answer = Sent; bytes = poll_packet s }) _ _ _ c.send_poll.ensures)

pub returns-in-Err : goal.returns-in-Err
unfolding poll_of
returns-in-Err c =
    let a = c.args in
    told_as_lem (judged_no _ _ _ _ (sym c.ask.ensures.answer ∙ c.in-Err.is)) (refusal_told _ _ a.out.now c.refused.ensures (view_of (whole a.head a.taken.now a.counts.now a.repeats.now a.kept.now a.marks.now a.originators.now a.lengths.now a.payloads.now)))
