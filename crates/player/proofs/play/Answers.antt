-- What a line tells in each phase.
use mathlib.Core.Path.{refl, sym, ap, ◌∙◌}
use Rattle.simulator.specs.Whole.{group_of, whole_of}
use Rattle.player.specs.Play as play
use Rattle.player.specs.Play.{line_told}
use Rattle.player.specs.Player.{stage_in, phase_of}
use Rattle.player.specs.declared.Phase.{Phase}
use Rattle.player.specs.declared.Phase.TheVariants.{Running, Ended}
use Rattle.player.proofs.Telling.{as_told, phase_is, phase_was, phase_closed, running≢, ended≢, tells_nothing}
use Rattle.player.proofs.play.Goals as goal

pub tell-requires : goal.tell-requires
unfolding phase_of
tell-requires c = (phase_was c.args.head c.args.phase Running (sym c.phase_of-stands.ensures ∙ c.in-Running.is) running≢).0

pub returns-in-Opening : goal.returns-in-Opening
unfolding line_told stage_in phase_of
returns-in-Opening c =
    let a = c.args in
    let w = (whole_of a.head a.taken.now a.counts.now a.repeats.now a.kept.now a.marks.now a.originators.now a.lengths.now a.payloads.now a.numbers.now a.queued.now a.held.now a.queued_originators.now a.queued_lengths.now a.held_originators.now a.held_lengths.now a.queued_payloads.now a.held_payloads.now a.sizes.now a.packets.now) in
    let text : Phase → play.Told = λ x. line_told (stage_in x (group_of w) a.number) a.line.now in
    as_told (ap text (sym c.in-Opening.is ∙ c.phase_of-stands.ensures)) c.open.ensures

pub returns-in-Running : goal.returns-in-Running
unfolding line_told stage_in phase_of
returns-in-Running c =
    let a = c.args in
    let w = (whole_of a.head a.taken.now a.counts.now a.repeats.now a.kept.now a.marks.now a.originators.now a.lengths.now a.payloads.now a.numbers.now a.queued.now a.held.now a.queued_originators.now a.queued_lengths.now a.held_originators.now a.held_lengths.now a.queued_payloads.now a.held_payloads.now a.sizes.now a.packets.now) in
    let text : Phase → play.Told = λ x. line_told (stage_in x (group_of w) a.number) a.line.now in
    as_told (ap text (sym c.in-Running.is ∙ c.phase_of-stands.ensures)) c.tell.ensures

pub returns-in-Ended : goal.returns-in-Ended
unfolding line_told stage_in phase_of
returns-in-Ended c =
    let a = c.args in
    let w = (whole_of a.head a.taken.now a.counts.now a.repeats.now a.kept.now a.marks.now a.originators.now a.lengths.now a.payloads.now a.numbers.now a.queued.now a.held.now a.queued_originators.now a.queued_lengths.now a.held_originators.now a.held_lengths.now a.queued_payloads.now a.held_payloads.now a.sizes.now a.packets.now) in
    let text : Phase → play.Told = λ x. line_told (stage_in x (group_of w) a.number) a.line.now in
    let g = c.in-Ended.is in
    let e = sym g ∙ c.phase_of-stands.ensures in
    let f = (phase_was a.head a.phase Ended (sym e) ended≢).0 in
    as_told (ap text e) (tells_nothing _ w _ _ (ap (λ (x : Phase). stage_in x (group_of w) a.number) (phase_is a.head _ f ∙ g)) refl)

pub returns-in-Closed : goal.returns-in-Closed
unfolding line_told stage_in phase_of
returns-in-Closed c =
    let a = c.args in
    let w = (whole_of a.head a.taken.now a.counts.now a.repeats.now a.kept.now a.marks.now a.originators.now a.lengths.now a.payloads.now a.numbers.now a.queued.now a.held.now a.queued_originators.now a.queued_lengths.now a.held_originators.now a.held_lengths.now a.queued_payloads.now a.held_payloads.now a.sizes.now a.packets.now) in
    let text : Phase → play.Told = λ x. line_told (stage_in x (group_of w) a.number) a.line.now in
    let g = c.in-Closed.is in
    let e = sym g ∙ c.phase_of-stands.ensures in
    as_told (ap text e) (tells_nothing _ w _ _ (ap (λ (x : Phase). stage_in (phase_of a.head x) (group_of w) a.number) g ∙ phase_closed a.head _ _) refl)
