-- What is laid settles what is told.
use mathlib.Core.Path.{ap, ◌∙◌}
use Rattle.plan.specs.Wording.{wording_of}
use Rattle.embedding.specs.Codes.{answer_of}
use Rattle.embedding.proofs.warghytes_plan.Goals as goal

pub returns : goal.returns
returns c =
    record { answer = c.plan_tells.ensures ∙ ap (λ a. answer_of (wording_of a)) c.plan-answer.ensures.answer; lent = c.plan-answer.ensures.lent }
