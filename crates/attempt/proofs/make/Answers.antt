-- The elected replied, the result is laid, and the initiator enters.
use mathlib.Core.Path.{◌≡◌}
use mathlib.Core.List.{[]}
use lib.ListN.{length}
use Rattle.group.specs.Limits.{members_most}
use Rattle.recovery.specs.View.{whole}
use Rattle.attempt.proofs.Making.{elected_in, make_entered}
use borrow.Author.Rules.{rules}
use Rattle.attempt.proofs.make.Goals as goal

pub put_result-written-requires : goal.put_result-written-requires
put_result-written-requires c = let a = c.args in let p = c.requires in let s = whole a.head [] a.held.now [] [] a.held_originators.now a.held_lengths.now [] a.held_payloads.now a.past.now a.past_originators.now a.past_lengths.now a.past_payloads.now a.highest.now a.replies.now a.taken.now a.counts.now a.repeats.now a.kept.now a.marks.now a.originators.now a.lengths.now a.payloads.now in let long : length a.replies.now ≡ members_most = search rules in (p.2, elected_in s p.0 c.highest_reply-number.result c.lowest_holder-elected.result c.highest_reply-number.ensures c.lowest_holder-elected.ensures long p.1 p.2, p.3)

pub returns : goal.returns
returns c = let a = c.args in let p = c.requires in λ queued queued_originators queued_lengths queued_payloads. let s = whole a.head queued a.held.now queued_originators queued_lengths a.held_originators.now a.held_lengths.now queued_payloads a.held_payloads.now a.past.now a.past_originators.now a.past_lengths.now a.past_payloads.now a.highest.now a.replies.now a.taken.now a.counts.now a.repeats.now a.kept.now a.marks.now a.originators.now a.lengths.now a.payloads.now in make_entered s p.0 c.highest_reply-number.result c.lowest_holder-elected.result c.highest_reply-number.ensures c.lowest_holder-elected.ensures c.put_result-written.ensures c.enter_on-next.ensures
