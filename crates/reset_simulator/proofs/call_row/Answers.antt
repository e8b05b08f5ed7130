-- The arrays of one terminal are lent, and the others keep theirs.
use Rattle.reset_simulator.specs.Whole.{rows_of}
use Rattle.reset_simulator.proofs.Rows.{calls_row}
use borrow.Author.Rules.{rules}
use Rattle.reset_simulator.proofs.call_row.Goals as goal

pub offset_bounds-queued-i : goal.offset_bounds-queued-i
offset_bounds-queued-i c = let l = c.requires.0 in search rules

pub bounds-queued-i : goal.bounds-queued-i
bounds-queued-i c = let l = c.requires.0 in let n = c.requires.2.queued in search rules

pub offset_bounds-held-i : goal.offset_bounds-held-i
offset_bounds-held-i c = let l = c.requires.0 in search rules

pub bounds-held-i : goal.bounds-held-i
bounds-held-i c = let l = c.requires.0 in let n = c.requires.2.held in search rules

pub offset_bounds-queued_originators-i : goal.offset_bounds-queued_originators-i
offset_bounds-queued_originators-i c = let l = c.requires.0 in search rules

pub bounds-queued_originators-i : goal.bounds-queued_originators-i
bounds-queued_originators-i c = let l = c.requires.0 in let n = c.requires.2.queued_originators in search rules

pub offset_bounds-queued_lengths-i : goal.offset_bounds-queued_lengths-i
offset_bounds-queued_lengths-i c = let l = c.requires.0 in search rules

pub bounds-queued_lengths-i : goal.bounds-queued_lengths-i
bounds-queued_lengths-i c = let l = c.requires.0 in let n = c.requires.2.queued_lengths in search rules

pub offset_bounds-held_originators-i : goal.offset_bounds-held_originators-i
offset_bounds-held_originators-i c = let l = c.requires.0 in search rules

pub bounds-held_originators-i : goal.bounds-held_originators-i
bounds-held_originators-i c = let l = c.requires.0 in let n = c.requires.2.held_originators in search rules

pub offset_bounds-held_lengths-i : goal.offset_bounds-held_lengths-i
offset_bounds-held_lengths-i c = let l = c.requires.0 in search rules

pub bounds-held_lengths-i : goal.bounds-held_lengths-i
bounds-held_lengths-i c = let l = c.requires.0 in let n = c.requires.2.held_lengths in search rules

pub offset_bounds-queued_payloads-i : goal.offset_bounds-queued_payloads-i
offset_bounds-queued_payloads-i c = let l = c.requires.0 in search rules

pub bounds-queued_payloads-i : goal.bounds-queued_payloads-i
bounds-queued_payloads-i c = let l = c.requires.0 in let n = c.requires.2.queued_payloads in search rules

pub offset_bounds-held_payloads-i : goal.offset_bounds-held_payloads-i
offset_bounds-held_payloads-i c = let l = c.requires.0 in search rules

pub bounds-held_payloads-i : goal.bounds-held_payloads-i
bounds-held_payloads-i c = let l = c.requires.0 in let n = c.requires.2.held_payloads in search rules

pub offset_bounds-past-i : goal.offset_bounds-past-i
offset_bounds-past-i c = let l = c.requires.0 in search rules

pub bounds-past-i : goal.bounds-past-i
bounds-past-i c = let l = c.requires.0 in let n = c.requires.2.past in search rules

pub offset_bounds-past_originators-i : goal.offset_bounds-past_originators-i
offset_bounds-past_originators-i c = let l = c.requires.0 in search rules

pub bounds-past_originators-i : goal.bounds-past_originators-i
bounds-past_originators-i c = let l = c.requires.0 in let n = c.requires.2.past_originators in search rules

pub offset_bounds-past_lengths-i : goal.offset_bounds-past_lengths-i
offset_bounds-past_lengths-i c = let l = c.requires.0 in search rules

pub bounds-past_lengths-i : goal.bounds-past_lengths-i
bounds-past_lengths-i c = let l = c.requires.0 in let n = c.requires.2.past_lengths in search rules

pub offset_bounds-past_payloads-i : goal.offset_bounds-past_payloads-i
offset_bounds-past_payloads-i c = let l = c.requires.0 in search rules

pub bounds-past_payloads-i : goal.bounds-past_payloads-i
bounds-past_payloads-i c = let l = c.requires.0 in let n = c.requires.2.past_payloads in search rules

pub offset_bounds-highest-i : goal.offset_bounds-highest-i
offset_bounds-highest-i c = let l = c.requires.0 in search rules

pub bounds-highest-i : goal.bounds-highest-i
bounds-highest-i c = let l = c.requires.0 in let n = c.requires.2.highest in search rules

pub offset_bounds-replies-i : goal.offset_bounds-replies-i
offset_bounds-replies-i c = let l = c.requires.0 in search rules

pub bounds-replies-i : goal.bounds-replies-i
bounds-replies-i c = let l = c.requires.0 in let n = c.requires.2.replies in search rules

pub offset_bounds-taken-i : goal.offset_bounds-taken-i
offset_bounds-taken-i c = let l = c.requires.0 in search rules

pub bounds-taken-i : goal.bounds-taken-i
bounds-taken-i c = let l = c.requires.0 in let n = c.requires.2.taken in search rules

pub offset_bounds-counts-i : goal.offset_bounds-counts-i
offset_bounds-counts-i c = let l = c.requires.0 in search rules

pub bounds-counts-i : goal.bounds-counts-i
bounds-counts-i c = let l = c.requires.0 in let n = c.requires.2.counts in search rules

pub offset_bounds-repeats-i : goal.offset_bounds-repeats-i
offset_bounds-repeats-i c = let l = c.requires.0 in search rules

pub bounds-repeats-i : goal.bounds-repeats-i
bounds-repeats-i c = let l = c.requires.0 in let n = c.requires.2.repeats in search rules

pub offset_bounds-kept-i : goal.offset_bounds-kept-i
offset_bounds-kept-i c = let l = c.requires.0 in search rules

pub bounds-kept-i : goal.bounds-kept-i
bounds-kept-i c = let l = c.requires.0 in let n = c.requires.2.kept in search rules

pub offset_bounds-marks-i : goal.offset_bounds-marks-i
offset_bounds-marks-i c = let l = c.requires.0 in search rules

pub bounds-marks-i : goal.bounds-marks-i
bounds-marks-i c = let l = c.requires.0 in let n = c.requires.2.marks in search rules

pub offset_bounds-originators-i : goal.offset_bounds-originators-i
offset_bounds-originators-i c = let l = c.requires.0 in search rules

pub bounds-originators-i : goal.bounds-originators-i
bounds-originators-i c = let l = c.requires.0 in let n = c.requires.2.originators in search rules

pub offset_bounds-lengths-i : goal.offset_bounds-lengths-i
offset_bounds-lengths-i c = let l = c.requires.0 in search rules

pub bounds-lengths-i : goal.bounds-lengths-i
bounds-lengths-i c = let l = c.requires.0 in let n = c.requires.2.lengths in search rules

pub offset_bounds-payloads-i : goal.offset_bounds-payloads-i
offset_bounds-payloads-i c = let l = c.requires.0 in search rules

pub bounds-payloads-i : goal.bounds-payloads-i
bounds-payloads-i c = let l = c.requires.0 in let n = c.requires.2.payloads in search rules

pub call_on-requires : goal.call_on-requires
call_on-requires c = c.requires.1

pub returns : goal.returns
returns c =
    let a = c.args in
    let rows = rows_of a.queued.now a.held.now a.queued_originators.now a.queued_lengths.now a.held_originators.now a.held_lengths.now a.queued_payloads.now a.held_payloads.now a.past.now a.past_originators.now a.past_lengths.now a.past_payloads.now a.highest.now a.replies.now a.taken.now a.counts.now a.repeats.now a.kept.now a.marks.now a.originators.now a.lengths.now a.payloads.now in
    calls_row a.i rows _ _ _ _ _ _ _ _ _ _ _ _ _ _ _ _ _ _ _ _ _ _ a.call a.bytes.now a.head c.call_on.result a.out.now _ c.requires.0 c.requires.2 c.call_on.ensures
