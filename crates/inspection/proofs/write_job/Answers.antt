-- An unused record has no line, and another the one that was laid.
use mathlib.Core.Path.{ap, ◌∙◌}
use mathlib.Core.List.{List}
use Prim.Native.Nat.{ℕ}
use lib.ListN.{length}
use Rattle.group.specs.Lent.{front}
use Rattle.inspection.specs.Lists.{used_line}
use Rattle.inspection.proofs.Lists.{unused_line, used_line_lem}
use Rattle.inspection.proofs.Rows.{laid_whole}
use Rattle.inspection.proofs.write_job.Goals as goal

pub returns-then-job-eq-UNUSED : goal.returns-then-job-eq-UNUSED
returns-then-job-eq-UNUSED c =
    let a = c.args in
    let e = unused_line a.i a.place a.job c.if-job-eq-UNUSED.true in
    record { size = ap length e; lent = ap (λ (bytes : List ℕ). front bytes a.out.now) e }

pub returns : goal.returns
returns c =
    let a = c.args in
    let lent = a.out.now in
    let e = used_line_lem a.i a.place a.job c.if-job-eq-UNUSED.false in
    let t = laid_whole (used_line a.i a.place a.job) lent _ _ c.put_job.ensures in
    record { size = t.0 ∙ ap length e; lent = t.1 ∙ ap (λ (bytes : List ℕ). front bytes lent) e }
