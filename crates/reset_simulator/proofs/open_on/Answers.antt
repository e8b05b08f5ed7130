-- Both ends are opened, and all else is zero.
use Rattle.reset_simulator.proofs.Opening.{opened_on}
use Rattle.reset_simulator.proofs.open_on.Goals as goal

pub returns : goal.returns
returns c =
    let a = c.args in
    rw c.fresh_head.ensures (opened_on a.n a.number a.resilience a.i c.open_on-begun.result.head c.open_on-start.result.head c.served-most.result c.served-sequencing.result _ _ _ _ _ _ _ _ _ _ _ _ _ _ _ _ c.open_on-begun.ensures.state c.served-most.ensures c.open_on-start.ensures.state c.served-sequencing.ensures)
