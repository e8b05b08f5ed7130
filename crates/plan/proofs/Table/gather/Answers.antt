-- The loop's invariant: the table holds the rows of the records passed.
use Rattle.std.proofs.Common.{sym, ◌∙◌, rules}
use Rattle.std.proofs.lemmas.Result.{err_from_is_err_and}
use Rattle.plan.proofs.Gathering.{progress_start, progress_stands, progress_on, progress_many, progress_end, progress_done}
use Rattle.plan.proofs.Table.gather.Goals as goal

pub records-init : goal.records-init
records-init c =
    let a = c.args in
    progress_start _ _ _ _ _ _ (search rules) c.of-cursor.ensures c.requires.within c.requires.fresh

pub note_spot-requires : goal.note_spot-requires
note_spot-requires c = progress_stands _ _ _ _ _ c.records.invariant _ _ (sym c.next.ensures ∙ c.in-Some.is)

pub returns-in_err-note_spot : goal.returns-in_err-note_spot
returns-in_err-note_spot c =
    let p = err_from_is_err_and c.from_residual.result c.from_residual.ensures.1 in
    rw (p.1, p.2) (progress_many _ _ _ _ _ c.records.invariant _ _ _ _ (search rules) (sym c.next.ensures ∙ c.in-Some.is) c.in_err-note_spot.ensures)

pub records-preserved : goal.records-preserved
records-preserved c = progress_on _ _ _ _ _ c.records.invariant _ _ _ _ _ (search rules) (sym c.next.ensures ∙ c.in-Some.is) c.in_ok-note_spot.ensures

pub returns-in_default : goal.returns-in_default
returns-in_default c = progress_end _ _ _ _ _ c.records.invariant (sym c.next.ensures ∙ c.in_default.is) _

pub returns-after-records : goal.returns-after-records
returns-after-records c = progress_done _ _ _ _ _ c.records.invariant (search rules) _
