-- The loop's invariant: the rows passed are laid.
use mathlib.Core.Path.{◌≡◌}
use Prim.Native.Nat.{◌+◌, ◌*◌, ◌≤◌}
use lib.ListN.{length}
use Rattle.simulator.specs.Whole.{rows_of, terminals_of}
use Rattle.text.specs.LaidAt.{LaidAt}
use Rattle.inspection.specs.Table.{row_at, row_lines, row_room}
use Rattle.inspection.proofs.put_rows.Given as goal

abbrev pub invariant-loop-i : goal.invariant-loop-i
invariant-loop-i l =
    (l.i ≤ l.n) × (l.next ≤ l.at + row_room * l.i) × (length l.out ≡ length l.initial.out) × LaidAt l.at (row_lines (row_at (terminals_of l.group l.numbers (rows_of l.queued l.held l.queued_originators l.queued_lengths l.held_originators l.held_lengths l.queued_payloads l.held_payloads)) l.taken l.repeats) l.i) l.initial.out l.out l.next
