-- The sequencer and every member are opened alike.
use Rattle.simulator.proofs.Opening.{opens}
use Rattle.simulator.proofs.open.Goals as goal

pub returns : goal.returns
returns c = let a = c.args in opens a.n a.number a.resilience _ _ _ _ _ _ c.open_on-start.ensures c.open_members.ensures
