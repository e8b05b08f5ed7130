-- The loop's invariant: the first i bytes lie over the part as it was, and what lies behind them keeps its value.
use mathlib.Core.Path.{◌≡◌}
use Rattle.message.proofs.Laying.{over}
use Rattle.message.proofs.copy.Given as goal

abbrev pub invariant-loop-i : goal.invariant-loop-i
invariant-loop-i l = l.part ≡ over l.i l.bytes l.initial.part
