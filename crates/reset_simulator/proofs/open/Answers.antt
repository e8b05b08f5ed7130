-- Every terminal is opened alike.
use Rattle.reset_simulator.proofs.Opening.{opens}
use Rattle.reset_simulator.proofs.open.Goals as goal

pub returns : goal.returns
returns c = let a = c.args in opens a.n a.number a.resilience c.verdict_of-verdict.result c.opened_with-most.result _ _ _ c.verdict_of-verdict.ensures c.opened_with-most.ensures c.open_each.ensures.terminals
