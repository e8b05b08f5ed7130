-- The loop's invariant: the messages up to `number` count.
use mathlib.Core.Path.{◌≡◌}
use Prim.Native.Nat.{◌-◌, ◌≤◌}
use lib.ListN.{length}
use Rattle.group.specs.Limits.{members_most}
use Rattle.history.specs.View.{listed}
use Rattle.recovery.specs.State.{counted_row}
use Rattle.recovery.proofs.count_row.Given as goal

abbrev pub invariant-loop-number : goal.invariant-loop-number
invariant-loop-number l = (length l.counts ≡ members_most) × (l.number - l.fn.taken.0 ≤ l.fn.last.0 - l.fn.taken.0) × (l.counts ≡ counted_row l.initial.counts (listed l.held l.held_originators) l.fn.taken.0 (l.number - l.fn.taken.0))
