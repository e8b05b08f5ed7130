-- The row of numbers that is stored is the head that the call left, since group and number stay.
use native.Mathlib.Omega.{arith}
use Rattle.simulator.specs.Whole.{rows_of}
use Rattle.simulator.proofs.Acting.{calls_at}
use borrow.Author.Rules.{rules}
use Rattle.simulator.proofs.call_at.Goals as goal

pub call_member-done-requires : goal.call_member-done-requires
call_member-done-requires c = (c.requires.0, c.requires.2)

pub offset_bounds-numbers-i-2 : goal.offset_bounds-numbers-i-2
offset_bounds-numbers-i-2 c = let l = c.requires.0 in search rules

pub bounds-numbers-i : goal.bounds-numbers-i
bounds-numbers-i c = let l = c.requires.0 in let n = c.requires.1 in search rules

pub returns : goal.returns
returns c =
    let a = c.args in
    let rows = rows_of a.queued.now a.held.now a.queued_originators.now a.queued_lengths.now a.held_originators.now a.held_lengths.now a.queued_payloads.now a.held_payloads.now in
    let l = c.requires.0 in
    let n = c.requires.1 in
    calls_at a.call a.bytes.now a.group a.i a.numbers.now rows _ c.call_member-done.result a.out.now _ (omega arith) (rw c.head_of-head.ensures at c.call_member-done.ensures)
