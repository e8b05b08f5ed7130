-- What a command asks is its event.
use mathlib.Core.Path.{sym, ◌∙◌}
use lib.Seq.{length-take-le}
use Rattle.reset_player.proofs.Asking.{Meant, asked_is, performed_by}
use Rattle.reset_player.proofs.perform.Goals as goal

pub slice_bounds-act-end : goal.slice_bounds-act-end
unfolding Meant
slice_bounds-act-end c =
    let a = c.args in
    let m = asked_is _ a.command a.payload.now c.requires.0 (sym c.in-Act.is ∙ c.action_of-asked.ensures) in
    sym (length-take-le _ a.payload.now (rw c.requires.1 m.0))

pub returns-in-Act : goal.returns-in-Act
unfolding Meant
returns-in-Act c =
    let a = c.args in
    let m = asked_is _ a.command a.payload.now c.requires.0 (sym c.in-Act.is ∙ c.action_of-asked.ensures) in
    performed_by _ _ m.1 c.act.ensures

pub returns-in-Hand : goal.returns-in-Hand
unfolding Meant
returns-in-Hand c =
    let a = c.args in
    let m = asked_is _ a.command a.payload.now c.requires.0 (sym c.in-Hand.is ∙ c.action_of-asked.ensures) in
    performed_by _ _ m c.hand.ensures
