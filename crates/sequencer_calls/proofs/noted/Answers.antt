-- A is noted, what the floor passes is cleared, and the change is laid in: by the law of `View` this is the step.
use mathlib.Core.Path.{◌∙◌}
use native.Mathlib.Omega.{arith}
use Rattle.sequencer.proofs.View.{sender_inside, found_left, found_sends, found_changed}
use Rattle.sequencer_calls.proofs.noted.Goals as goal

pub note-floor-requires : goal.note-floor-requires
note-floor-requires c =
    let a = c.args in
    let p = c.requires in
    sender_inside a.head a.taken.now a.counts.now a.repeats.now a.kept.now a.marks.now a.originators.now a.lengths.now a.payloads.now p.2 a.packet a.payload.now _ p.1 _ c.sender_of-from.ensures

pub bounds-counts-member : goal.bounds-counts-member
bounds-counts-member c =
    let a = c.args in
    let p = c.requires in
    let i = sender_inside a.head a.taken.now a.counts.now a.repeats.now a.kept.now a.marks.now a.originators.now a.lengths.now a.payloads.now p.2 a.packet a.payload.now _ p.1 _ c.sender_of-from.ensures in
    omega (arith, i, p.2.entries.counts_size)

pub bounds-repeats-member : goal.bounds-repeats-member
bounds-repeats-member c =
    let a = c.args in
    let p = c.requires in
    let i = sender_inside a.head a.taken.now a.counts.now a.repeats.now a.kept.now a.marks.now a.originators.now a.lengths.now a.payloads.now p.2 a.packet a.payload.now _ p.1 _ c.sender_of-from.ensures in
    omega (arith, i, p.2.entries.repeats_size)

pub packet_change-change-requires : goal.packet_change-change-requires
packet_change-change-requires c =
    let a = c.args in
    let p = c.requires in
    (found_left a.head a.taken.now a.counts.now a.repeats.now a.kept.now a.marks.now a.originators.now a.lengths.now a.payloads.now p.2 a.packet a.payload.now _ p.1 _ c.sender_of-from.ensures _ _ _ _ _ _ c.note-floor.ensures.noted c.note-floor.ensures.floor c.clear.ensures, c.kept-1.given ∙ p.2.places.kept_size, c.originators-1.given ∙ p.2.places.originators_size)

pub bounds-counts-member-2 : goal.bounds-counts-member-2
bounds-counts-member-2 c =
    let a = c.args in
    let p = c.requires in
    let i = sender_inside a.head a.taken.now a.counts.now a.repeats.now a.kept.now a.marks.now a.originators.now a.lengths.now a.payloads.now p.2 a.packet a.payload.now _ p.1 _ c.sender_of-from.ensures in
    omega (arith, i, p.2.entries.counts_size)

pub bounds-repeats-member-2 : goal.bounds-repeats-member-2
bounds-repeats-member-2 c =
    let a = c.args in
    let p = c.requires in
    let i = sender_inside a.head a.taken.now a.counts.now a.repeats.now a.kept.now a.marks.now a.originators.now a.lengths.now a.payloads.now p.2 a.packet a.payload.now _ p.1 _ c.sender_of-from.ensures in
    omega (arith, i, p.2.entries.repeats_size)

pub send_answer-written-requires : goal.send_answer-written-requires
send_answer-written-requires c =
    let a = c.args in
    let p = c.requires in
    let at = c.place-at.ensures in
    (omega (arith, at), found_sends a.head a.taken.now a.counts.now a.repeats.now a.kept.now a.marks.now a.originators.now a.lengths.now a.payloads.now p.2 a.packet a.payload.now _ p.1 _ c.sender_of-from.ensures _ _ _ _ _ _ c.note-floor.ensures.noted c.note-floor.ensures.floor c.clear.ensures _ c.packet_change-change.ensures _ _ _ _ c.lay.ensures _ c.place-at.ensures, p.1.sizes.output, record { kept_size = c.kept-2-1.given ∙ c.kept-1.given ∙ p.2.places.kept_size; originators_size = c.originators-2-1.given ∙ c.originators-1.given ∙ p.2.places.originators_size; lengths_size = c.lengths-2-1.given ∙ c.lengths-1.given ∙ p.2.places.lengths_size; payloads_size = c.payloads-2-1.given ∙ c.payloads-1.given ∙ p.2.places.payloads_size })

pub returns : goal.returns
returns c =
    let a = c.args in
    let p = c.requires in
    found_changed a.head a.taken.now a.counts.now a.repeats.now a.kept.now a.marks.now a.originators.now a.lengths.now a.payloads.now p.2 a.packet a.payload.now _ p.1 _ c.sender_of-from.ensures _ _ _ _ _ _ c.note-floor.ensures.noted c.note-floor.ensures.floor c.clear.ensures _ c.packet_change-change.ensures _ _ _ _ c.lay.ensures _ c.place-at.ensures p.0 _ _ _ c.send_answer-written.ensures
