-- A refusal leaves what was read; else it is the larger of both.
use mathlib.Core.Path.{ap, ◌∙◌}
use Rattle.group.proofs.Choice.{when_false}
use Rattle.window.specs.Places.{larger_of}
use Rattle.group.specs.Choice.{when◌then◌else◌}
use Rattle.recovery.specs.Calls.{is_refusal}
use Rattle.terminals.specs.Steps.{read_after}
use Rattle.terminals.proofs.Hearing.{not_refused}
use Rattle.terminals.proofs.read_after.Goals as goal

pub returns-in-Refused : goal.returns-in-Refused
unfolding read_after is_refusal when◌then◌else◌
returns-in-Refused c = rw c.in-Refused.is

pub returns : goal.returns
unfolding read_after
returns c = let a = c.args in let n = not_refused a.answer c.in_default.not-Refused in let l = c.later.ensures ∙ ap (larger_of a.read.0) c.floor_said.ensures in when_false (is_refusal a.answer) _ _ _ n (λ i. record { 0 = l i })
