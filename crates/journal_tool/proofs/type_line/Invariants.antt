-- The line is no longer than the longest.
use Rattle.std.proofs.Common.{◌≤◌}
use Rattle.journal_tool.proofs.type_line.Given as goal

abbrev pub invariant-bytes : goal.invariant-bytes
invariant-bytes l = l.size ≤ 1000
