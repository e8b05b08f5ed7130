-- A sink that failed was handed nothing.
use Rattle.descriptor.proofs.Laws.{takes_nothing}
use Rattle.descriptor.proofs.Sink.write.Goals as goal

pub returns-then-self : goal.returns-then-self
returns-then-self g c = takes_nothing c.args.self c.args.text.now c.if-self.true
