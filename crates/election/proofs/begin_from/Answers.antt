-- Its group's sequencer's, or else its member's.
use mathlib.Core.Path.{sym, ◌∙◌}
use native.Mathlib.Omega.{arith}
use Rattle.recovery.specs.View.{whole}
use Rattle.election.proofs.Electing.{from_own, from_member}
use Rattle.election.proofs.begin_from.Goals as goal

pub returns-then-serves : goal.returns-then-serves
returns-then-serves c = let a = c.args in λ queued queued_originators queued_lengths queued_payloads replies taken repeats marks group number long. from_own (whole a.head queued a.held.now queued_originators queued_lengths a.held_originators.now a.held_lengths.now queued_payloads a.held_payloads.now a.past.now a.past_originators.now a.past_lengths.now a.past_payloads.now a.highest.now replies taken a.counts.now repeats a.kept.now marks a.originators.now a.lengths.now a.payloads.now) group number (sym c.serves.ensures ∙ c.if-serves.true)

pub returns : goal.returns
returns c = let a = c.args in λ queued queued_originators queued_lengths queued_payloads replies taken repeats marks group number long. from_member (whole a.head queued a.held.now queued_originators queued_lengths a.held_originators.now a.held_lengths.now queued_payloads a.held_payloads.now a.past.now a.past_originators.now a.past_lengths.now a.past_payloads.now a.highest.now replies taken a.counts.now repeats a.kept.now marks a.originators.now a.lengths.now a.payloads.now) group number (let g = c.well_formed.0 in omega (arith, g)) c.begin_from_member.ensures (sym c.serves.ensures ∙ c.if-serves.false) c.requires.0.held_size long
