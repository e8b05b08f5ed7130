-- The verdict on state and output; then question 17 and the packet.
use mathlib.Core.Path.{sym, ◌∙◌}
use Rattle.history.proofs.Asking.{judged_no}
use Rattle.sequencer.specs.Calls.{copy_of}
use Rattle.sequencer.specs.View.{whole, view_of}
use Rattle.sequencer.proofs.Outcomes.{told_as_lem, refusal_told}
use Rattle.sequencer_calls.proofs.copy_on.Goals as goal

pub returns-in-Err : goal.returns-in-Err
unfolding copy_of
returns-in-Err c =
    let a = c.args in
    told_as_lem (judged_no _ _ _ _ (sym c.ask.ensures.answer ∙ c.in-Err.is)) (refusal_told _ _ a.out.now c.refused.ensures (view_of (whole a.head a.taken.now a.counts.now a.repeats.now a.kept.now a.marks.now a.originators.now a.lengths.now a.payloads.now)))
