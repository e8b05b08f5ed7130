-- Nothing is shifted out.
use mathlib.Core.Path.{sym, ◌∙◌}
use borrow.Author.Tests.{eq-eqb}
use Rattle.group.proofs.Members.{one_shifted}
use Rattle.group.proofs.Choice.{when_true, both_hold}
use Rattle.recovery.proofs.holder.Goals as goal

pub returns-then-number-highest : goal.returns-then-number-highest
returns-then-number-highest c = when_true _ _ _ _ (both_hold _ _ (sym c.is_in.ensures ∙ c.if-is_in.true) (eq-eqb _ _ c.if-number-highest.true)) (one_shifted c.args.i 16 c.requires)
