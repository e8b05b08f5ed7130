-- What is laid settles what is told.
use mathlib.Core.Path.{ap, ◌∙◌}
use Rattle.plan.specs.Wording.{wording_of}
use Rattle.embedding.specs.Codes.{answer_of}
use Rattle.embedding.proofs.warghytes_rewrite.Goals as goal

pub returns : goal.returns
returns c =
    record { answer = c.plan_tells.ensures ∙ ap (λ a. answer_of (wording_of a)) c.rewrite-answer.ensures.answer; lent = c.rewrite-answer.ensures.lent }
