-- When the table of acknowledgements and the history are sound: question 1, sentence by sentence.
use Rattle.std.specs.Prelude.{Bool, true, List, ℕ, ◌-◌}
use Rattle.group.specs.Choice.{when◌then◌else◌, ◌and◌, ◌<?◌, ◌≤?◌, ◌=?◌}
use Rattle.group.specs.Limits.{places_most, payload_most}
use Rattle.group.specs.Members.{is_in, group_sound}
use Rattle.group.specs.declared.Group.{Group}
use Rattle.message.specs.Message.{Message, zero_behind, is_empty}
use Rattle.history.specs.State.{Acknowledgement, acknowledgement_of, message_at, floor_of}

-- every survivor's acknowledgement is at most top; a lost member's is zero, and so is its repeat count; every unused entry is zero
unfoldable pub entry_sound : Group → ℕ → ℕ → Acknowledgement → Bool
entry_sound group top i a =
    when is_in group.survivors i then a.taken.0 ≤? top else
    (a.taken.0 =? 0 and a.repeats =? 0 and (when i <? group.n then true else a.count =? 0))

-- the history's originators are below n, each kept count lies from 1 to its originator's last, lengths are at most 240, and
-- every unused byte is zero
unfoldable pub kept_sound : ℕ → List Acknowledgement → Message → Bool
kept_sound n table m =
    m.originator.0 <? n
    and 1 ≤? m.count
    and m.count ≤? (acknowledgement_of table m.originator).count
    and m.length ≤? payload_most
    and zero_behind m

-- the history is exactly floor + 1 to top: of the 32 numbers above floor, those up to top lie in their places, and the
-- places of the others are zero
unfoldable pub place_sound : ℕ → List Acknowledgement → List Message → ℕ → ℕ → Bool
place_sound n table history top number =
    when number ≤? top then kept_sound n table (message_at history number) else
    is_empty (message_at history number)

-- the group's description is sound, floor is the smallest of the survivors' acknowledgements and at most the last accepted number, that is
-- at most top, and top - floor is at most 32
unfoldable pub frame_sound : Group → List Acknowledgement → ℕ → ℕ → ℕ → Bool
frame_sound group table floor accepted top =
    group_sound group
    and floor_of group.survivors table =? floor
    and floor ≤? accepted
    and accepted ≤? top
    and top - floor ≤? places_most
