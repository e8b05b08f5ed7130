-- What `attempt::invite_on` promises, of the arrays that it is not lent as they are.
use Rattle.terminal_state.proofs.invite_on.Goals as goal

pub returns : goal.returns
returns c = c.invite_on.ensures
