-- The lines of the events that are left go behind those that the sink took.
use Rattle.load.proofs.Lines.{hands_none, hands_on, hands_all}
use borrow.Author.Rules.{rules}
use Rattle.load.proofs.put_events.Goals as goal

pub loop-left-init : goal.loop-left-init
loop-left-init g c = let a = c.args in hands_none a.load a.events a.sink

pub loop-left-preserved : goal.loop-left-preserved
loop-left-preserved g c = hands_on c.loop-left.invariant c.gather-part.ensures.lays c.write-sink.ensures

pub returns-after-loop-left : goal.returns-after-loop-left
returns-after-loop-left g c = hands_all c.loop-left.invariant (search rules)
