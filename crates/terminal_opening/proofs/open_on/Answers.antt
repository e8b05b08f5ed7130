-- The member opens, then the sequencer, of nobody where it is not there.
use Rattle.terminal_opening.proofs.Opened.{opened}
use Rattle.terminal_opening.proofs.open_on.Goals as goal

pub returns : goal.returns
returns c =
    let a = c.args in
    opened a.n a.number a.group a.resilience c.open_on-begun.ensures c.sequencing-sequencing.ensures c.seats.ensures c.open_on-start.ensures.state c.fresh_head.ensures
