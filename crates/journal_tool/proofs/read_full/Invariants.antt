-- What was read lies in the bytes.
use Rattle.std.proofs.Common.{◌≤◌, length}
use Rattle.journal_tool.proofs.read_full.Given as goal

abbrev pub invariant-reads : goal.invariant-reads
invariant-reads l = l.done ≤ length l.bytes
