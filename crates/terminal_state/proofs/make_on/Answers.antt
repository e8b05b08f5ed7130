-- What `attempt::make_on` promises, of the arrays that it is not lent as they are.
use Rattle.terminal_state.proofs.make_on.Goals as goal

pub returns : goal.returns
returns c = c.make_on.ensures
