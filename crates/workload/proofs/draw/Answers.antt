-- A remainder of the output behind one step.
use native.Mathlib.Nat.{mod-lt}
use Rattle.workload.specs.Choice.{drawn}
use Rattle.workload.proofs.draw.Goals as goal

pub returns : goal.returns
unfolding drawn
returns c = record { value = rw (c.output.ensures, c.step.ensures); state = c.step.ensures; below = mod-lt _ c.requires }
