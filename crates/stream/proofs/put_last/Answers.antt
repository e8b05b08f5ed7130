-- The text of the program that is quiet, or of the other.
use mathlib.Core.Path.{sym, ap, ◌∙◌}
use mathlib.Core.Bool.{Bool}
use Rattle.descriptor.proofs.Laws.{takes_both, takes_as}
use Rattle.inspection.specs.Table.{table_left}
use Rattle.player.proofs.Laws.{laid_front}
use Rattle.player.specs.Play.{last_of}
use Rattle.player.specs.Player.{stage_in, phase_of}
use Rattle.stream.specs.Steps.{program_of}
use Rattle.stream.proofs.put_last.Goals as goal

pub returns-then-quiet : goal.returns-then-quiet
unfolding program_of
returns-then-quiet g c =
    let p = c.args.player in
    λ g u v.
    let stage = stage_in (phase_of p.head p.phase) g p.number in
    let f = c.write_left-size.ensures g u in
    let t = takes_as (laid_front (table_left stage) _ _ _ f.lent f.size) c.put_text-next.ensures in
    takes_as (ap (λ (b : Bool). (program_of b).last stage) (sym c.if-quiet.true)) (takes_both t (c.put_left.ensures g v))

pub returns : goal.returns
unfolding program_of
returns g c =
    let p = c.args.player in
    λ g u v.
    let stage = stage_in (phase_of p.head p.phase) g p.number in
    let f = c.last-size.ensures g v.shown in
    takes_as (laid_front (last_of stage) _ _ _ f.lent f.size ∙ ap (λ (b : Bool). (program_of b).last stage) (sym c.if-quiet.false)) c.put_text.ensures
