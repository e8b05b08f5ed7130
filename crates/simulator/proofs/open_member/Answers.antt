-- The row of numbers that is stored is the head of the fresh member.
use native.Mathlib.Omega.{arith}
use Rattle.simulator.specs.Whole.{rows_of}
use Rattle.simulator.proofs.Opening.{begun_set}
use Rattle.simulator.proofs.open_member.Goals as goal

pub returns : goal.returns
returns c =
    let a = c.args in
    let rows = rows_of a.queued.now a.held.now a.queued_originators.now a.queued_lengths.now a.held_originators.now a.held_lengths.now a.queued_payloads.now a.held_payloads.now in
    let l = c.requires.0 in
    let n = c.requires.1 in
    begun_set a.n a.number a.resilience a.i a.group a.numbers.now rows _ _ _ _ _ _ _ _ c.open_on-begun.result.head (omega arith) l c.requires.2 c.open_on-begun.ensures.state
