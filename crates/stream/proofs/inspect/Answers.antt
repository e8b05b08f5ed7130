-- The program that is run.
use Rattle.stream.specs.Steps.{program_of}
use Rattle.stream.proofs.inspect.Goals as goal

pub returns : goal.returns
unfolding program_of
returns g c = c.run.ensures
