-- The terminal's sequencer, and then its member.
use Rattle.election.proofs.Entering.{enters}
use Rattle.election.proofs.enter_on.Goals as goal

pub returns : goal.returns
returns c = let a = c.args in enters a.head a.held.now a.held_originators.now a.held_lengths.now a.held_payloads.now a.past.now a.past_originators.now a.past_lengths.now a.past_payloads.now a.highest.now a.replies.now a.taken.now a.counts.now a.repeats.now a.kept.now a.marks.now a.originators.now a.lengths.now a.payloads.now a.attempt a.elected a.number a.survivors c.made-group.ensures c.seat-seated.ensures c.enter_member.ensures
