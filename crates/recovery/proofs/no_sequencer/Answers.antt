-- Each test is one of the definition's; nothing is asked of a group without members but zeros.
use mathlib.Core.Path.{◌≡◌, ◌∙◌}
use Rattle.group.proofs.Choice.{choices}
use Rattle.recovery.proofs.Reading.{asks_zero, zero_as}
use borrow.Author.Rules.{rules}
use Rattle.recovery.proofs.no_sequencer.Goals as goal

pub returns-then-history_sound : goal.returns-then-history_sound
returns-then-history_sound c =
    let a = c.args in
    let p = c.requires in
    let z : c.marks_sound.result ≡ asks_zero a.head a.taken.now a.counts.now a.repeats.now a.kept.now a.marks.now a.originators.now a.lengths.now a.payloads.now = search (choices, rules) depth 12 in
    z ∙ zero_as a.head a.taken.now a.counts.now a.repeats.now a.kept.now a.marks.now a.originators.now a.lengths.now a.payloads.now p.places.kept_size p.marks_size

pub returns-else-history_sound : goal.returns-else-history_sound
returns-else-history_sound c =
    let a = c.args in
    let p = c.requires in
    let z : c.if-entries_sound.value ≡ asks_zero a.head a.taken.now a.counts.now a.repeats.now a.kept.now a.marks.now a.originators.now a.lengths.now a.payloads.now = search (choices, rules) depth 12 in
    z ∙ zero_as a.head a.taken.now a.counts.now a.repeats.now a.kept.now a.marks.now a.originators.now a.lengths.now a.payloads.now p.places.kept_size p.marks_size
