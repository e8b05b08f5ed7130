-- The loop's invariant: the sink took the lines of the terminals passed.
use Prim.Native.Nat.{◌-◌, ◌≤◌}
use Rattle.reset_stream.specs.Steps.{HandsTerminals}
use Rattle.reset_stream.proofs.put_terminals.Given as goal

abbrev pub invariant-loop-i : goal.invariant-loop-i
invariant-loop-i g l = (l.i ≤ l.n) × HandsTerminals g.W.Write.contents l.small l.masks l.numbers l.i l.initial.sink l.sink
