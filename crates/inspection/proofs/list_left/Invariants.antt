-- The loop's invariant: what the packets that are left make of the list so far, all make of the empty one.
use mathlib.Core.Path.{◌≡◌}
use Prim.Native.Nat.{◌-◌, ◌≤◌}
use Rattle.simulator.specs.Whole.{list_of, packets_of, packet_at}
use Rattle.terminal.specs.Left.{heard_all, fresh_left}
use Rattle.inspection.proofs.list_left.Given as goal

abbrev pub invariant-loop-k : goal.invariant-loop-k
invariant-loop-k l =
    (l.k ≤ l.count)
    × (heard_all l.taken.0 l.left (list_of (packet_at (packets_of l.sizes l.packets l.count)) l.k (l.count - l.k)) ≡ heard_all l.taken.0 fresh_left (list_of (packet_at (packets_of l.sizes l.packets l.count)) 0 l.count))
