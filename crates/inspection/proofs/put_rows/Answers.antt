-- The loop's invariant: the rows passed are laid.
use mathlib.Core.Path.{◌≡◌}
use mathlib.Core.List.{◌∷◌, map}
use native.Mathlib.Omega.{arith}
use Rattle.simulator.specs.Whole.{rows_of, terminals_of}
use Rattle.text.proofs.Pieces.{laid_none, laid_then}
use Rattle.text.specs.Written.{decimal_of, line}
use Rattle.inspection.specs.Table.{row_at, row_lines}
use Rattle.inspection.proofs.Rows.{rows_on}
use borrow.Author.Rules.{rules}
use Rattle.inspection.proofs.put_rows.Goals as goal

pub loop-i-init : goal.loop-i-init
unfolding row_lines
loop-i-init c = (search rules, search rules, search rules, laid_none c.args.at c.args.out.now (search rules))

pub loop-i-preserved : goal.loop-i-preserved
loop-i-preserved c =
    let l = c.loop-i in
    let a = c.args in
    let row = row_at (terminals_of a.group a.numbers.now (rows_of a.queued.now a.held.now a.queued_originators.now a.queued_lengths.now a.held_originators.now a.held_lengths.now a.queued_payloads.now a.held_payloads.now)) a.taken.now a.repeats.now in (
      search rules,
      search rules,
      search rules,
      rw (rows_on row l.i) (laid_then (row_lines row l.i) (line (decimal_of l.i ∷ map decimal_of (row l.i))) l.invariant.3 (rw c.row-told.ensures at c.put_row-next.ensures.laid)),
    )

pub returns : goal.returns
returns c =
    let l = c.loop-i in
    let e : l.i ≡ c.args.n = (let t = c.loop-i-test.false in omega arith) in
    rw e at l.invariant.3
