-- The cursor stays within the block.
use Rattle.std.proofs.Common.{◌+◌, ◌*◌, ◌≤◌, length}
use Rattle.journal.specs.Limits.{block_size}
use Rattle.journal_tool.proofs.print_records.Given as goal

abbrev pub invariant-records : goal.invariant-records
invariant-records l = l.cursor.base + l.cursor.blocks * block_size ≤ length l.block
