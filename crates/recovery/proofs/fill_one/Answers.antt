-- The message lies among the last taken, or it is held.
use Rattle.store.specs.Places.{messages_in}
use Rattle.recovery.proofs.Turning.{from_past, from_held}
use borrow.Author.Rules.{rules}
use Rattle.recovery.proofs.fill_one.Goals as goal

pub returns-then-le : goal.returns-then-le
returns-then-le c = let a = c.args in let p = c.requires in from_past a.past.now a.past_originators.now a.past_lengths.now a.past_payloads.now _ a.taken.0 a.number.0 (messages_in a.kept.now a.originators.now a.lengths.now a.payloads.now) _ c.place-at.ensures (search rules) p.1.kept_size c.copy_place.ensures

pub returns : goal.returns
returns c = let a = c.args in let p = c.requires in from_held _ a.held.now a.held_originators.now a.held_lengths.now a.held_payloads.now a.taken.0 a.number.0 (messages_in a.kept.now a.originators.now a.lengths.now a.payloads.now) _ _ c.place-from.ensures c.place-at.ensures (search rules) p.2.held_size c.copy_place-2.ensures
