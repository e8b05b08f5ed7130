-- What a command asks is its event.
use mathlib.Core.Path.{refl, sym, ◌∙◌}
use lib.Seq.{length-take-le}
use Rattle.sequencer.specs.View as sequencerView
use Rattle.simulator.proofs.Playing.{plays_member, plays_sequencer}
use Rattle.simulator.specs.Whole.{rows_of, packets_of}
use Rattle.player.specs.Steps.{Performed}
use Rattle.player.proofs.Asking.{Meant, asked_is}
use Rattle.player.proofs.Telling.{as_performed}
use Rattle.player.proofs.perform.Goals as goal

pub slice_bounds-act-end : goal.slice_bounds-act-end
unfolding Meant
slice_bounds-act-end c = let a = c.args in let m = asked_is _ a.command a.payload.now c.requires.0 (sym c.in-Member.is ∙ c.action_of.ensures) in sym (length-take-le _ a.payload.now (rw c.requires.1 m.0))

pub returns-in-Member : goal.returns-in-Member
unfolding Meant Performed
returns-in-Member c =
    let a = c.args in
    let m = asked_is _ a.command a.payload.now c.requires.0 (sym c.in-Member.is ∙ c.action_of.ensures) in
    as_performed a.head _ _ _ _ _ (sym m.1.1) (plays_member m.1.0 _ m.1.2 a.head c.act.result (packets_of a.sizes.now a.packets.now a.head.count) _ a.out.now _ (λ h. sequencerView.whole h a.taken.now a.counts.now a.repeats.now a.kept.now a.marks.now a.originators.now a.lengths.now a.payloads.now) a.numbers.now _ (rows_of a.queued.now a.held.now a.queued_originators.now a.queued_lengths.now a.held_originators.now a.held_lengths.now a.queued_payloads.now a.held_payloads.now) _ refl c.act.ensures)

pub returns-in-Sequencer : goal.returns-in-Sequencer
unfolding Meant Performed
returns-in-Sequencer c =
    let a = c.args in
    let m = asked_is _ a.command a.payload.now c.requires.0 (sym c.in-Sequencer.is ∙ c.action_of.ensures) in
    as_performed a.head _ _ _ _ _ (sym m.1) (plays_sequencer m.0 _ m.2 a.head c.sequence.result (packets_of a.sizes.now a.packets.now a.head.count) _ a.out.now _ _ _ a.numbers.now (rows_of a.queued.now a.held.now a.queued_originators.now a.queued_lengths.now a.held_originators.now a.held_lengths.now a.queued_payloads.now a.held_payloads.now) refl c.sequence.ensures)

pub returns-in-HandMember : goal.returns-in-HandMember
unfolding Meant Performed
returns-in-HandMember c =
    let a = c.args in
    let m = asked_is _ a.command a.payload.now c.requires.0 (sym c.in-HandMember.is ∙ c.action_of.ensures) in
    as_performed a.head _ _ _ _ _ (sym m.1) (plays_member m.0 _ m.2 a.head c.hand_member.result (packets_of a.sizes.now a.packets.now a.head.count) _ a.out.now _ (λ h. sequencerView.whole h a.taken.now a.counts.now a.repeats.now a.kept.now a.marks.now a.originators.now a.lengths.now a.payloads.now) a.numbers.now _ (rows_of a.queued.now a.held.now a.queued_originators.now a.queued_lengths.now a.held_originators.now a.held_lengths.now a.queued_payloads.now a.held_payloads.now) _ refl c.hand_member.ensures)

pub returns-in-HandSequencer : goal.returns-in-HandSequencer
unfolding Meant Performed
returns-in-HandSequencer c =
    let a = c.args in
    let m = asked_is _ a.command a.payload.now c.requires.0 (sym c.in-HandSequencer.is ∙ c.action_of.ensures) in
    as_performed a.head _ _ _ _ _ (sym m.1) (plays_sequencer m.0 _ m.2 a.head c.hand_sequencer.result (packets_of a.sizes.now a.packets.now a.head.count) _ a.out.now _ _ _ a.numbers.now (rows_of a.queued.now a.held.now a.queued_originators.now a.queued_lengths.now a.held_originators.now a.held_lengths.now a.queued_payloads.now a.held_payloads.now) refl c.hand_sequencer.ensures)
