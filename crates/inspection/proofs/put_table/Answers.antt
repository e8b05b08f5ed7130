-- The heading, and the rows behind it, which are those of every such group.
use mathlib.Core.Path.{ap, ◌∙◌}
use mathlib.Core.List.{List, ◌++◌}
use Prim.Native.Nat.{ℕ}
use lib.ListN.{length}
use Rattle.group.specs.Lent.{front}
use Rattle.simulator.specs.Whole.{rows_of, terminals_of}
use Rattle.text.proofs.Pieces.{laid_then}
use Rattle.text.specs.Written.{spaced, line}
use Rattle.inspection.specs.Table.{columns, row_at, row_lines}
use Rattle.inspection.proofs.Rows.{rows_of_lem, laid_whole}
use Rattle.inspection.proofs.put_table.Goals as goal

pub returns : goal.returns
unfolding spaced
returns c =
    let a = c.args in
    let t = (terminals_of a.group a.numbers.now (rows_of a.queued.now a.held.now a.queued_originators.now a.queued_lengths.now a.held_originators.now a.held_lengths.now a.queued_payloads.now a.held_payloads.now)) in
    let lent = a.out.now in
    let rest = row_lines (row_at t a.taken.now a.repeats.now) a.group.n in
    let l = laid_whole (line columns ++ rest) lent _ _ (laid_then (line columns) rest c.put_text-next.ensures c.put_rows.ensures) in
    λ g s.
    let e = ap (λ (l : List ℕ). line columns ++ l) (rows_of_lem t a.taken.now a.repeats.now g s) in
    record { size = l.0 ∙ ap length e; lent = l.1 ∙ ap (λ (bytes : List ℕ). front bytes lent) e }
