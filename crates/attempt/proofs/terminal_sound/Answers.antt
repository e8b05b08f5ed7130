-- Each part is one of the definition's, asked in the order of the code.
use mathlib.Core.Path.{◌∙◌}
use native.Mathlib.Omega.{arith}
use Rattle.recovery.specs.View.{whole}
use Rattle.attempt.proofs.Sounding.{sound_parts}
use borrow.Author.Rules.{rules}
use Rattle.group.proofs.Choice.{choices}
use Rattle.attempt.proofs.terminal_sound.Goals as goal

pub returns-then-sequencer_sound : goal.returns-then-sequencer_sound
returns-then-sequencer_sound c = let a = c.args in let s = whole a.head a.queued.now a.held.now a.queued_originators.now a.queued_lengths.now a.held_originators.now a.held_lengths.now a.queued_payloads.now a.held_payloads.now a.past.now a.past_originators.now a.past_lengths.now a.past_payloads.now a.highest.now a.replies.now a.taken.now a.counts.now a.repeats.now a.kept.now a.marks.now a.originators.now a.lengths.now a.payloads.now in search (choices, rules) depth 9 ∙ sound_parts s (let g = c.well_formed.0 in omega (arith, g))

pub returns-else-sequencer_sound : goal.returns-else-sequencer_sound
returns-else-sequencer_sound c = let a = c.args in let s = whole a.head a.queued.now a.held.now a.queued_originators.now a.queued_lengths.now a.held_originators.now a.held_lengths.now a.queued_payloads.now a.held_payloads.now a.past.now a.past_originators.now a.past_lengths.now a.past_payloads.now a.highest.now a.replies.now a.taken.now a.counts.now a.repeats.now a.kept.now a.marks.now a.originators.now a.lengths.now a.payloads.now in search (choices, rules) depth 9 ∙ sound_parts s (let g = c.well_formed.0 in omega (arith, g))
