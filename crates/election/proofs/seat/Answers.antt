-- The elected one's begins.
use Rattle.election.proofs.Entering.{seated_own, seated_other}
use borrow.Author.Rules.{rules}
use Rattle.election.proofs.seat.Goals as goal

pub returns-then-eq : goal.returns-then-eq
returns-then-eq c = let a = c.args in seated_own a.head a.held.now a.held_originators.now a.held_lengths.now a.held_payloads.now a.past.now a.past_originators.now a.past_lengths.now a.past_payloads.now a.highest.now a.taken.now a.counts.now a.repeats.now a.kept.now a.marks.now a.originators.now a.lengths.now a.payloads.now a.group a.number (search rules) c.seat_head.ensures c.begin-begun.ensures

pub returns : goal.returns
returns c = let a = c.args in seated_other a.head a.held.now a.held_originators.now a.held_lengths.now a.held_payloads.now a.past.now a.past_originators.now a.past_lengths.now a.past_payloads.now a.highest.now a.taken.now a.counts.now a.repeats.now a.kept.now a.marks.now a.originators.now a.lengths.now a.payloads.now a.group a.number (search rules)
