-- An entry of the table, or none.
use Rattle.inspection.proofs.Rows.{repeats_there, repeats_none}
use borrow.Author.Rules.{rules}
use Rattle.inspection.proofs.repeats_at.Goals as goal

pub returns-then-i-taken : goal.returns-then-i-taken
returns-then-i-taken c = let a = c.args in repeats_there a.taken.now a.repeats.now a.i (search rules)

pub returns-else-i-taken : goal.returns-else-i-taken
returns-else-i-taken c = let a = c.args in repeats_none a.taken.now a.repeats.now a.i (search rules)
