-- The questions of every call, then those of a packet.
use mathlib.Core.Path.{◌≡◌, sym, ◌∙◌}
use Rattle.std.specs.Prelude.{Err}
use Rattle.sequencer.proofs.Deciding.{refused_is, decided_is, judged_as}
use borrow.Author.Rules.{rules}
use Rattle.sequencer_calls.proofs.judge.Goals as goal

pub returns : goal.returns
returns c = let a = c.args in record { judged = decided_is a.head a.taken.now a.counts.now a.repeats.now a.kept.now a.marks.now a.originators.now a.lengths.now a.payloads.now c.ask.ensures.sizes a.packet.now a.room (sym c.ask.ensures.answer ∙ c.in_ok-ask.was) _ c.decide.ensures; sizes = c.ask.ensures.sizes }

pub returns-in_err-ask-clause-judged : goal.returns-in_err-ask-clause-judged
returns-in_err-ask-clause-judged c =
    let a = c.args in
    let e : Err c.in_err-ask.field-0.0 ≡ c.from_residual.result = search rules in
    judged_as _ _ _ _ _ e (refused_is a.head a.taken.now a.counts.now a.repeats.now a.kept.now a.marks.now a.originators.now a.lengths.now a.payloads.now c.ask.ensures.sizes a.packet.now a.room _ (sym c.ask.ensures.answer ∙ c.in_err-ask.was))
