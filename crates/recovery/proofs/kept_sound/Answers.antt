-- The last taken are asked as a history is.
use mathlib.Core.Path.{◌∙◌}
use Rattle.group.specs.Fold.{all_above}
use Rattle.group.specs.Limits.{places_most}
use Rattle.group.proofs.Choice.{when_true_of}
use Rattle.recovery.specs.Sound.{kept_sound}
use Rattle.recovery.specs.View.{kept_in}
use Rattle.recovery.proofs.Reading.{places_past}
use Rattle.recovery.proofs.kept_sound.Goals as goal

pub returns-then-highest_sound : goal.returns-then-highest_sound
unfolding kept_sound
returns-then-highest_sound c = let a = c.args in when_true_of _ c.highest_sound.result _ _ _ c.highest_sound.ensures c.if-highest_sound.true (c.history_sound.ensures ∙ (λ i. all_above (places_past a.head.member.group.n a.head.member.taken.0 (kept_in a.head a.past.now a.past_originators.now a.past_lengths.now a.past_payloads.now a.highest.now) i) (c.behind.ensures i) places_most))
