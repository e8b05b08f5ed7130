-- What `terminals::submit_on` promises, of the arrays that it is not lent as they are.
use Rattle.terminal_state.proofs.submit_on.Goals as goal

pub returns : goal.returns
returns c = let a = c.args in c.submit_on.ensures a.taken.now a.counts.now a.repeats.now a.kept.now a.marks.now a.originators.now a.lengths.now a.payloads.now
