-- When the parts of a member's state are sound: question 1, sentence by sentence.
use Rattle.std.specs.Prelude.{Bool, List, ℕ, ◌-◌}
use Rattle.group.specs.Choice.{when◌then◌else◌, ◌and◌, ◌<?◌, ◌≤?◌, ◌=?◌}
use Rattle.group.specs.Fold.{all_above}
use Rattle.group.specs.Limits.{payload_most, waiting_most, largest_number}
use Rattle.group.specs.Members.{is_in, group_sound}
use Rattle.group.specs.declared.Group.{Group}
use Rattle.group.specs.declared.MemberNumber.{MemberNumber}
use Rattle.message.specs.Message.{Message, zero_behind, is_empty}
use Rattle.window.specs.Places.{message_at, is_held, queued_at}

-- held originators are below n with counts of at least 1, lengths at most 240, no held number is over the largest, and every
-- unused place and byte is zero
unfoldable pub place_sound : ℕ → List Message → ℕ → Bool
place_sound n held number =
    when is_held held number
    then (message_at held number).originator.0 <? n
    and (message_at held number).length ≤? payload_most
    and zero_behind (message_at held number)
    and number ≤? largest_number
    else is_empty (message_at held number)

-- of the five counts above those that were taken: one up to u waits, it is the member's own, its count is its place's, its length
-- at most 240, and every unused byte is zero; the place of one above u is all zero
unfoldable pub queue_sound : MemberNumber → List Message → ℕ → ℕ → Bool
queue_sound number queue submitted count =
    when count ≤? submitted
    then (queued_at queue count).originator.0 =? number.0
    and (queued_at queue count).count =? count
    and (queued_at queue count).length ≤? payload_most
    and zero_behind (queued_at queue count)
    else is_empty (queued_at queue count)

-- at most five messages wait, no more than were submitted: the last ones
unfoldable pub waiting_sound : MemberNumber → ℕ → ℕ → List Message → Bool
waiting_sound number submitted waiting queue =
    waiting ≤? waiting_most
    and waiting ≤? submitted
    and all_above (queue_sound number queue submitted) (submitted - waiting) waiting_most

-- the group's description is sound, the member is a survivor, and what it took is accepted
unfoldable pub frame_sound : Group → MemberNumber → ℕ → ℕ → Bool
frame_sound group number taken accepted =
    group_sound group
    and is_in group.survivors number.0
    and taken ≤? accepted
