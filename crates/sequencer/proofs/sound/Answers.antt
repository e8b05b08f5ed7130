-- Each test is one of the definition's; the frame's says that there are at most as many members as entries.
use mathlib.Core.Bool.{true}
use mathlib.Core.Path.{◌≡◌, sym, ◌∙◌}
use lib.ListN.{length}
use Rattle.group.proofs.Choice.{choices}
use Rattle.group.specs.Limits.{members_most}
use Rattle.history.proofs.Sizes.{frame_members}
use Rattle.sequencer.specs.View.{whole, Fits}
use Rattle.sequencer.proofs.View.{sound_as}
use borrow.Author.Rules.{rules}
use Rattle.sequencer.proofs.sound.Goals as goal

pub places_sound-requires : goal.places_sound-requires
places_sound-requires c = let p = c.requires in let framed : c.frame_sound.result ≡ true = search rules in let n = frame_members _ _ _ _ _ (sym c.frame_sound.ensures ∙ framed) in (n.1, p.counts_long, p.marks_size, p.places)

pub returns-then-entries_sound-clause-answer : goal.returns-then-entries_sound-clause-answer
returns-then-entries_sound-clause-answer c =
    let a = c.args in
    let p = c.requires in
    let n : length a.taken.now ≡ members_most = search rules in
    let fits : Fits (whole a.head a.taken.now a.counts.now a.repeats.now a.kept.now a.marks.now a.originators.now a.lengths.now a.payloads.now) = record { entries = record { taken_size = n; counts_size = p.counts_long; repeats_size = p.repeats_long }; places = p.places; marks_size = p.marks_size } in
    search (choices, rules) depth 9 ∙ sound_as a.head a.taken.now a.counts.now a.repeats.now a.kept.now a.marks.now a.originators.now a.lengths.now a.payloads.now fits

pub returns-else-entries_sound-clause-answer : goal.returns-else-entries_sound-clause-answer
returns-else-entries_sound-clause-answer c =
    let a = c.args in
    let p = c.requires in
    let n : length a.taken.now ≡ members_most = search rules in
    let fits : Fits (whole a.head a.taken.now a.counts.now a.repeats.now a.kept.now a.marks.now a.originators.now a.lengths.now a.payloads.now) = record { entries = record { taken_size = n; counts_size = p.counts_long; repeats_size = p.repeats_long }; places = p.places; marks_size = p.marks_size } in
    search (choices, rules) depth 9 ∙ sound_as a.head a.taken.now a.counts.now a.repeats.now a.kept.now a.marks.now a.originators.now a.lengths.now a.payloads.now fits
