-- The lines of the events that are left go behind those that the sink took.
use Rattle.load.proofs.Lines.{Hands}
use Rattle.load.proofs.put_events.Given as goal

abbrev pub invariant-loop-left : goal.invariant-loop-left
invariant-loop-left g l = Hands g.W.Write.contents l.initial.load l.events l.initial.sink l.load l.left l.sink

abbrev pub decreases-loop-left : goal.decreases-loop-left
decreases-loop-left g l = l.left
