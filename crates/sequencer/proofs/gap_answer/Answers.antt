-- The test is the definition's, and the larger number is that of the library.
use mathlib.Core.Path.{◌∙◌}
use Rattle.group.proofs.Choice.{choices}
use Rattle.sequencer.specs.Steps.{gap_answer}
use Rattle.history.proofs.Noting.{larger_max}
use borrow.Author.Rules.{rules}
use Rattle.sequencer.proofs.gap_answer.Goals as goal

pub returns : goal.returns
unfolding gap_answer
returns c = rw (c.max-from.ensures ∙ larger_max _ _) (search (choices, rules) depth 9)
