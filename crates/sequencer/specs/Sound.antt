-- When a state of the sequencer is sound: question 1, sentence by sentence.
use Rattle.std.specs.Prelude.{Bool}
use Rattle.group.specs.Choice.{◌and◌}
use Rattle.group.specs.Fold.{all, all_above}
use Rattle.group.specs.Limits.{places_most}
use Rattle.group.specs.Members.{expected_of}
use Rattle.history.specs.Marks.{mark_sound}
use Rattle.history.specs.Sound.{entry_sound, place_sound, frame_sound}
use Rattle.sequencer.specs.State.{Sequencer}

unfoldable pub sound_of : Sequencer → Bool
sound_of s =
    frame_sound s.group s.acknowledgements s.floor.0 s.accepted.0 s.top.0
    and all (entry_sound s.group s.top.0) 0 s.acknowledgements
    and all_above (place_sound s.group.n s.acknowledgements s.history s.top.0) s.floor.0 places_most
    and all_above (mark_sound (expected_of s.group) s.marks s.accepted.0 s.top.0) s.floor.0 places_most
