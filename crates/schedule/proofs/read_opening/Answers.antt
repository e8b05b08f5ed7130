-- A line over the limit is of another form, and so is one of fewer than three fields.
use mathlib.Core.Path.{sym, ◌∙◌}
use Prim.Native.Nat.{◌+◌}
use Rattle.schedule.specs.Parts.{parts_at}
use Rattle.schedule.specs.Steps.{four_at}
use Rattle.schedule.specs.Line.{opening_form}
use Rattle.schedule.proofs.Forms.{opening_by, opening_few, four_opening, more_opening, to_end}
use Rattle.schedule.specs.declared.Parts.TheVariants.{Three, More}
use Rattle.text.proofs.Split.{fields_one, fields_more}
use borrow.Author.Rules.{rules}
use Rattle.schedule.proofs.read_opening.Goals as goal

pub returns-in-One : goal.returns-in-One
returns-in-One c = opening_few c.args.line.now c.fields.result c.if-line-gt-LINE_MOST.false c.fields.ensures.parts c.in-One.is

pub returns-in-Three : goal.returns-in-Three
unfolding parts_at opening_form
returns-in-Three c =
    let l = c.args.line.now in
    let b = c.in-Three.b in
    let e = opening_by l (Three c.in-Three.a b) c.if-line-gt-LINE_MOST.false c.in-Three.ensures.parts in
    rw (e, ← to_end l (b + 1)) c.read_group.ensures

pub returns-in-None : goal.returns-in-None
unfolding four_at opening_form
returns-in-None c =
    let l = c.args.line.now in
    let m = c.in-More in
    let e = opening_by l (More m.a m.b m.c) c.if-line-gt-LINE_MOST.false m.ensures.parts in
    let f = four_opening l m.a m.b m.c (fields_one l (m.c + 1) (sym c.in-None.ensures)) in
    rw (e, f, ← to_end l (m.c + 1), ← c.number-resilience.ensures) c.read_group-in-None.ensures

pub returns-in-Some : goal.returns-in-Some
returns-in-Some c =
    let l = c.args.line.now in
    let m = c.in-More in
    let e = opening_by l (More m.a m.b m.c) c.if-line-gt-LINE_MOST.false m.ensures.parts in
    sym (e ∙ more_opening l m.a m.b m.c c.in-Some.field-0 (fields_more l (m.c + 1) c.in-Some.field-0 (search rules) (sym c.in-Some.ensures)))
