-- The numbers are the definition's.
use Rattle.simulator.specs.Whole.{rows_of}
use Rattle.inspection.proofs.Rows.{row_is}
use Rattle.inspection.proofs.row.Goals as goal

pub head_of-head-requires : goal.head_of-head-requires
head_of-head-requires c = c.requires.0

pub returns : goal.returns
returns c =
    let a = c.args in
    row_is a.group a.numbers.now (rows_of a.queued.now a.held.now a.queued_originators.now a.queued_lengths.now a.held_originators.now a.held_lengths.now a.queued_payloads.now a.held_payloads.now) a.taken.now a.repeats.now a.i c.head_of-head.result _ _ c.head_of-head.ensures c.row_end_on-end.ensures c.repeats_at-again.ensures
