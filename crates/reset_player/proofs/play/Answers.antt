-- What a line tells in each phase.
use mathlib.Core.Path.{refl, sym, ap, ◌∙◌}
use Rattle.player.proofs.Telling.{running≢, ended≢}
use Rattle.player.specs.declared.Phase.{Phase}
use Rattle.player.specs.declared.Phase.TheVariants.{Running, Ended}
use Rattle.reset_simulator.specs.Whole.{group_of, whole_of}
use Rattle.reset_player.specs.Player.{stage_in, phase_of}
use Rattle.reset_output.specs.Recover as recover
use Rattle.reset_output.specs.Recover.{line_told}
use Rattle.reset_player.proofs.Telling.{as_told, phase_is, phase_was, phase_closed, tells_nothing}
use Rattle.reset_player.proofs.play.Goals as goal

pub tell-requires : goal.tell-requires
unfolding phase_of
tell-requires c = (phase_was c.args.world c.args.phase Running (sym c.phase_of-stands.ensures ∙ c.in-Running.is) running≢).0

pub returns-in-Opening : goal.returns-in-Opening
unfolding line_told stage_in phase_of
returns-in-Opening c =
    let a = c.args in
    let w = (whole_of a.world a.small.now a.masks.now a.numbers.now a.queued.now a.held.now a.queued_originators.now a.queued_lengths.now a.held_originators.now a.held_lengths.now a.queued_payloads.now a.held_payloads.now a.past.now a.past_originators.now a.past_lengths.now a.past_payloads.now a.highest.now a.replies.now a.taken.now a.counts.now a.repeats.now a.kept.now a.marks.now a.originators.now a.lengths.now a.payloads.now a.sizes.now a.packets.now) in
    let text : Phase → recover.Told = λ x. line_told (stage_in x (group_of w) a.number) a.line.now in
    as_told (ap text (sym c.in-Opening.is ∙ c.phase_of-stands.ensures)) c.open.ensures

pub returns-in-Running : goal.returns-in-Running
unfolding line_told stage_in phase_of
returns-in-Running c =
    let a = c.args in
    let w = (whole_of a.world a.small.now a.masks.now a.numbers.now a.queued.now a.held.now a.queued_originators.now a.queued_lengths.now a.held_originators.now a.held_lengths.now a.queued_payloads.now a.held_payloads.now a.past.now a.past_originators.now a.past_lengths.now a.past_payloads.now a.highest.now a.replies.now a.taken.now a.counts.now a.repeats.now a.kept.now a.marks.now a.originators.now a.lengths.now a.payloads.now a.sizes.now a.packets.now) in
    let text : Phase → recover.Told = λ x. line_told (stage_in x (group_of w) a.number) a.line.now in
    as_told (ap text (sym c.in-Running.is ∙ c.phase_of-stands.ensures)) c.tell.ensures

pub returns-in-Ended : goal.returns-in-Ended
unfolding line_told stage_in phase_of
returns-in-Ended c =
    let a = c.args in
    let w = (whole_of a.world a.small.now a.masks.now a.numbers.now a.queued.now a.held.now a.queued_originators.now a.queued_lengths.now a.held_originators.now a.held_lengths.now a.queued_payloads.now a.held_payloads.now a.past.now a.past_originators.now a.past_lengths.now a.past_payloads.now a.highest.now a.replies.now a.taken.now a.counts.now a.repeats.now a.kept.now a.marks.now a.originators.now a.lengths.now a.payloads.now a.sizes.now a.packets.now) in
    let text : Phase → recover.Told = λ x. line_told (stage_in x (group_of w) a.number) a.line.now in
    let g = c.in-Ended.is in
    let e = sym g ∙ c.phase_of-stands.ensures in
    let f = (phase_was a.world a.phase Ended (sym e) ended≢).0 in
    as_told (ap text e) (tells_nothing _ w _ _ (ap (λ (x : Phase). stage_in x (group_of w) a.number) (phase_is a.world _ f ∙ g)) refl)

pub returns-in-Closed : goal.returns-in-Closed
unfolding line_told stage_in phase_of
returns-in-Closed c =
    let a = c.args in
    let w = (whole_of a.world a.small.now a.masks.now a.numbers.now a.queued.now a.held.now a.queued_originators.now a.queued_lengths.now a.held_originators.now a.held_lengths.now a.queued_payloads.now a.held_payloads.now a.past.now a.past_originators.now a.past_lengths.now a.past_payloads.now a.highest.now a.replies.now a.taken.now a.counts.now a.repeats.now a.kept.now a.marks.now a.originators.now a.lengths.now a.payloads.now a.sizes.now a.packets.now) in
    let text : Phase → recover.Told = λ x. line_told (stage_in x (group_of w) a.number) a.line.now in
    let g = c.in-Closed.is in
    let e = sym g ∙ c.phase_of-stands.ensures in
    as_told (ap text e) (tells_nothing _ w _ _ (ap (λ (x : Phase). stage_in (phase_of a.world x) (group_of w) a.number) g ∙ phase_closed a.world _ _) refl)
