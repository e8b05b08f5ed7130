-- Each call is that of its part.
use mathlib.Core.Path.{sym, ap, ◌∙◌}
use Rattle.terminal_rows.specs.Steps.{of_part}
use Rattle.reset_simulator.proofs.Calling.{call_as}
use Rattle.reset_simulator.proofs.call_on.Goals as goal

pub member_on-requires : goal.member_on-requires
member_on-requires c = c.requires

pub whole_on-requires : goal.whole_on-requires
whole_on-requires c = c.requires

pub sequencer_on-requires : goal.sequencer_on-requires
sequencer_on-requires c = c.requires

pub shape_of-out-in-Member : goal.shape_of-out-in-Member
shape_of-out-in-Member c = c.out-1.given

pub returns-in-Member : goal.returns-in-Member
unfolding of_part
returns-in-Member c =
    let a = c.args in
    call_as _ a.call _ _ _ _ _ _ _ (sym (ap of_part c.in-Member.is) ∙ c.part_of-part.ensures) (c.member_on.ensures a.taken.now a.counts.now a.repeats.now a.kept.now a.marks.now a.originators.now a.lengths.now a.payloads.now)

pub shape_of-out-in-Whole : goal.shape_of-out-in-Whole
shape_of-out-in-Whole c = c.out-in-Whole-1.given

pub returns-in-Whole : goal.returns-in-Whole
unfolding of_part
returns-in-Whole c =
    let a = c.args in
    call_as _ a.call _ _ _ _ _ _ _ (sym (ap of_part c.in-Whole.is) ∙ c.part_of-part.ensures) c.whole_on.ensures

pub shape_of-out-in-Sequencer : goal.shape_of-out-in-Sequencer
shape_of-out-in-Sequencer c = c.out-in-Sequencer-1.given

pub returns-in-Sequencer : goal.returns-in-Sequencer
unfolding of_part
returns-in-Sequencer c =
    let a = c.args in
    call_as _ a.call _ _ _ _ _ _ _ (sym (ap of_part c.in-Sequencer.is) ∙ c.part_of-part.ensures) (c.sequencer_on.ensures a.queued.now a.held.now a.queued_originators.now a.queued_lengths.now a.held_originators.now a.held_lengths.now a.queued_payloads.now a.held_payloads.now a.past.now a.past_originators.now a.past_lengths.now a.past_payloads.now a.highest.now a.replies.now)
