-- What `terminals::poll_on` promises, of the arrays that it is not lent as they are.
use Rattle.terminal_state.proofs.poll_on.Goals as goal

pub returns : goal.returns
returns c = let a = c.args in c.poll_on.ensures a.queued.now a.held.now a.queued_originators.now a.queued_lengths.now a.held_originators.now a.held_lengths.now a.queued_payloads.now a.held_payloads.now a.past.now a.past_originators.now a.past_lengths.now a.past_payloads.now a.highest.now a.replies.now
