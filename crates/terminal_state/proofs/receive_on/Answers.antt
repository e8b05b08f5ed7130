-- What `terminals::receive_on` promises, of the arrays that it is not lent as they are.
use Rattle.terminal_state.proofs.receive_on.Goals as goal

pub returns : goal.returns
returns c = c.receive_on.ensures
