-- A record that sets no unit leaves the table; another is noted.
use Rattle.std.proofs.Common.{rules, sym, ◌∙◌}
use Rattle.plan.proofs.Gathering.{spot_long, spot_unit, spot_unnoted, spot_noted}
use Rattle.plan.proofs.Table.note_spot.Goals as goal

pub u16_at-unit-requires : goal.u16_at-unit-requires
u16_at-unit-requires c =
    let long = spot_long c.args.journal.now c.args.spot c.requires (sym c.sets_unit.ensures ∙ c.if-sets_unit.true) in
    search rules

pub returns-then-sets_unit : goal.returns-then-sets_unit
returns-then-sets_unit c =
    let a = c.args in
    let setting = sym c.sets_unit.ensures ∙ c.if-sets_unit.true in
    let long = spot_long a.journal.now a.spot c.requires setting in
    spot_noted a.journal.now a.spot c.requires _ _ _ _ setting (spot_unit a.journal.now a.spot c.requires long ∙ sym c.u16_at-unit.ensures) c.note.ensures

pub returns : goal.returns
returns c = spot_unnoted c.args.journal.now c.args.spot c.requires _ (sym c.sets_unit.ensures ∙ c.if-sets_unit.false)
