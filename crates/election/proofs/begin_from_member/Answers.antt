-- The highest counts go with those of the row, and the places are filled.
use Rattle.election.proofs.Electing.{from_parts}
use borrow.Author.Rules.{rules}
use Rattle.election.proofs.begin_from_member.Goals as goal

pub returns : goal.returns
returns c = let a = c.args in from_parts a.head a.held.now a.held_originators.now a.held_lengths.now a.held_payloads.now a.past.now a.past_originators.now a.past_lengths.now a.past_payloads.now a.highest.now c.kept_floor-floor.ensures c.row_end-reach.ensures (let k = c.count_row-arg-1 in search rules) c.count_row.ensures c.begin_history.ensures
