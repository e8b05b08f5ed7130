-- The loop's invariant: the sink took the lists of the terminals passed.
use Prim.Native.Nat.{◌≤◌}
use Rattle.descriptor.specs.Descriptor.{Takes}
use Rattle.inspection.specs.Lists.{list_lines, list_on}
use Rattle.simulator.specs.Whole.{packets_of, packets_in}
use Rattle.stream.proofs.put_lists.Given as goal

abbrev pub invariant-loop-i : goal.invariant-loop-i
invariant-loop-i g l = (l.i ≤ l.n) × Takes g.W.Write.contents l.initial.sink (list_lines (list_on l.numbers (packets_in (packets_of l.sizes l.packets l.count))) l.i) l.sink
