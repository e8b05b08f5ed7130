-- The first line is of another form, or a group, which may be refused.
use mathlib.Core.Path.{refl, ap, ◌∙◌}
use Rattle.report.specs.Print.{bad_opening, line_room}
use Rattle.reset_output.specs.Recover.{open_told}
use Rattle.reset_player.proofs.Telling.{as_told, tells_closed}
use Rattle.reset_player.proofs.Opening.{told_many, told_degree, opened_refused, opened_group_lem}
use borrow.Author.Rules.{rules}
use Rattle.reset_player.proofs.open.Goals as goal

pub returns-then-opening : goal.returns-then-opening
returns-then-opening c =
    let o = c.in-Some.ensures in
    as_told (ap open_told o) (as_told (told_many _ _ _ c.if-opening.true) (c.refuse.ensures _))

pub returns-in-None : goal.returns-in-None
unfolding open_told
returns-in-None c =
    let o = c.in-None.ensures in
    as_told (ap open_told o) (tells_closed bad_opening c.args.out.now _ _ _ line_room (search rules) c.write_bad_opening-written.ensures.size c.write_bad_opening-written.ensures.lent refl)

pub returns-in-Ok : goal.returns-in-Ok
returns-in-Ok c =
    let o = c.in-Some.ensures in
    let d = told_degree c.in-Some.opening.n c.in-Some.opening.number c.in-Some.opening.resilience c.degree-degree.result (let l = c.if-opening.false in search rules) c.degree-degree.ensures in
    as_told (d ∙ ap open_told o) (opened_group_lem _ _ _ _ _ _ _ _ c.open-opened.ensures c.in-Ok.is refl refl refl refl)

pub returns-in-Err : goal.returns-in-Err
returns-in-Err c =
    let o = c.in-Some.ensures in
    let d = told_degree c.in-Some.opening.n c.in-Some.opening.number c.in-Some.opening.resilience c.degree-degree.result (let l = c.if-opening.false in search rules) c.degree-degree.ensures in
    as_told (d ∙ ap open_told o) (as_told (opened_refused _ _ _ _ _ _ _ c.open-opened.ensures c.in-Err.is) (c.refuse-in-Err.ensures _))
