-- The loop's invariant: the record sought is among those that are left of its block.
use Rattle.std.proofs.Common.{refl, sym, ◌∙◌, rules}
use Rattle.plan.proofs.Stepping.{seeking_start, seeking_stands, seeking_found, seeking_on, seeking_end, seeking_none}
use Rattle.plan.proofs.spot_at.Goals as goal

pub records-init : goal.records-init
records-init c = seeking_start c.args.journal.now c.args.start _ _ refl c.at-cursor.ensures c.requires

pub overflow_add-spot : goal.overflow_add-spot
overflow_add-spot c =
    let s = seeking_stands _ _ _ _ c.records.invariant _ _ (sym c.next.ensures ∙ c.in-Some.is) in
    let e = s.ends in
    let k = s.within in
    search rules

pub returns-then-spot-start : goal.returns-then-spot-start
returns-then-spot-start c = seeking_found _ _ _ _ c.records.invariant _ _ (search rules) (sym c.next.ensures ∙ c.in-Some.is) c.if-spot-start.true

pub records-preserved : goal.records-preserved
records-preserved c = seeking_on _ _ _ _ c.records.invariant _ _ _ (search rules) (sym c.next.ensures ∙ c.in-Some.is) c.if-spot-start.false

pub returns-in_default : goal.returns-in_default
returns-in_default c = seeking_end _ _ _ _ c.records.invariant (sym c.next.ensures ∙ c.in_default.is)

pub returns-after-records : goal.returns-after-records
returns-after-records c = seeking_none _ _ _ _ c.records.invariant (search rules)
