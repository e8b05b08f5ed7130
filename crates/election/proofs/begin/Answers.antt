-- The acknowledgements start at the floor that it begins with.
use Rattle.recovery.specs.View.{whole, terminal_of}
use Rattle.election.proofs.Electing.{begun_as}
use Rattle.election.proofs.begin.Goals as goal

pub returns : goal.returns
returns c = let a = c.args in λ queued queued_originators queued_lengths queued_payloads replies. begun_as (terminal_of (whole a.head queued a.held.now queued_originators queued_lengths a.held_originators.now a.held_lengths.now queued_payloads a.held_payloads.now a.past.now a.past_originators.now a.past_lengths.now a.past_payloads.now a.highest.now replies a.taken.now a.counts.now a.repeats.now a.kept.now a.marks.now a.originators.now a.lengths.now a.payloads.now)) a.group a.number a.taken.now a.repeats.now _ _ _ _ _ c.requires.2 (c.begin_from-floor.ensures queued queued_originators queued_lengths queued_payloads replies a.taken.now a.repeats.now a.marks.now a.group a.number.0 c.requires.2) c.begin_taken.ensures
