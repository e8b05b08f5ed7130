-- Each turn passes a row.
use Rattle.std.proofs.Common.{length}
use Rattle.journal_tool.proofs.print_rows.Given as goal

abbrev pub decreases-rows : goal.decreases-rows
decreases-rows l = length l.rows
