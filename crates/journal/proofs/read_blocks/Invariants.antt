-- The loop's invariant: what the journal gives is what was found and what the rest gives behind it.
use mathlib.Core.Path.{◌≡◌}
use Prim.Native.Nat.{◌*◌, ◌-◌, ◌/◌, ◌≤◌}
use lib.ListN.{length, drop}
use Rattle.journal.specs.Limits.{block_size}
use Rattle.journal.specs.Read.{found_from, found_in, counted}
use Rattle.journal.proofs.Walking.{onto}
use Rattle.journal.proofs.read_blocks.Given as goal

abbrev pub invariant-loop-i : goal.invariant-loop-i
invariant-loop-i l =
    (l.found.blocks ≡ l.i) × (l.found.messages ≤ 71 * l.i)
    × (counted (found_in l.journal) ≡ onto l.i l.found.messages (counted (found_from l.found.tail (drop (l.i * block_size) l.journal) (length l.journal / block_size - l.i))))
