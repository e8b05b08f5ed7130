-- One of a reset is the terminal's, another the member's.
use mathlib.Core.Path.{sym, ◌∙◌}
use Rattle.terminals.proofs.receive_on.Goals as goal

pub reset_on-requires : goal.reset_on-requires
reset_on-requires c = sym c.is_of_reset.ensures ∙ c.if-is_of_reset.true

pub returns-then-is_of_reset : goal.returns-then-is_of_reset
returns-then-is_of_reset c = c.reset_on.ensures

pub hear_on-requires : goal.hear_on-requires
hear_on-requires c = sym c.is_of_reset.ensures ∙ c.if-is_of_reset.false

pub returns : goal.returns
returns c = let a = c.args in c.hear_on.ensures a.taken.now a.counts.now a.repeats.now a.kept.now a.marks.now a.originators.now a.lengths.now a.payloads.now
