-- When a state of a member is sound: question 1, sentence by sentence.
use Rattle.std.specs.Prelude.{Bool}
use Rattle.group.specs.Choice.{◌and◌}
use Rattle.group.specs.Fold.{all_above}
use Rattle.group.specs.Limits.{held_most}
use Rattle.window.specs.Sound.{place_sound, waiting_sound, frame_sound}
use Rattle.member.specs.State.{Member}

-- its numbers, its waiting messages and its 8 places are sound
unfoldable pub sound_of : Member → Bool
sound_of m =
    frame_sound m.group m.number m.taken.0 m.accepted.0
    and waiting_sound m.number m.submitted m.waiting m.queue
    and all_above (place_sound m.group.n m.held) m.taken.0 held_most
