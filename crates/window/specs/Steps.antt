-- What the steps inside the code promise, in terms of the meaning. No call's promise speaks of these.
use Rattle.std.specs.Prelude.{◌≡◌, Bool, List, ℕ, Option, None, Some, zero, suc, ◌+◌, ◌-◌, get_or}
use Rattle.group.specs.Choice.{when◌then◌else◌, ◌and◌, ◌<?◌, ◌≤?◌, ◌=?◌}
use Rattle.group.specs.Limits.{payload_most, largest_number}
use Rattle.group.specs.declared.MemberNumber.{MemberNumber}
use Rattle.group.specs.declared.SequenceNumber.{SequenceNumber}
use Rattle.message.specs.Message.{Message, zero_behind, is_empty, blank}
use Rattle.window.specs.Places.{place_of}

-- whether the place of a number is sound, of the message that lies in it
unfoldable pub message_sound : ℕ → Message → ℕ → Bool
message_sound n message number =
    when 0 <? message.count
    then message.originator.0 <? n
    and message.length ≤? payload_most
    and zero_behind message
    and number ≤? largest_number
    else is_empty message

-- whether the place of a count is sound, of the message that lies in it
unfoldable pub queued_sound : MemberNumber → ℕ → Message → ℕ → Bool
queued_sound number submitted message count =
    when count ≤? submitted
    then message.originator.0 =? number.0
    and message.count =? count
    and message.length ≤? payload_most
    and zero_behind message
    else is_empty message

-- those are the counts of the places
abbrev pub Counted : List ℕ → List Message → Type 0
Counted counts held = (i : ℕ) → get_or counts i 0 ≡ (get_or held i blank).count

-- the lowest missing of the k numbers above t, by the counts of the places; 0: none is
unfoldable pub lowest_uncounted : List ℕ → ℕ → ℕ → ℕ
lowest_uncounted counts t zero = 0
lowest_uncounted counts t (suc k) = when 0 <? get_or counts (place_of (t + 1)) 0 then lowest_uncounted counts (t + 1) k else t + 1

-- that number, where one is missing
unfoldable pub first_uncounted : List ℕ → ℕ → ℕ → Option SequenceNumber
first_uncounted counts t k = when lowest_uncounted counts t k =? 0 then None else Some (record { 0 = lowest_uncounted counts t k })

-- the end of the row above t, up to `last`, by the counts of the places: the number below the lowest missing, or `last`
unfoldable pub row_counted : List ℕ → ℕ → ℕ → ℕ
row_counted counts t last = when lowest_uncounted counts t (last - t) =? 0 then last else lowest_uncounted counts t (last - t) - 1
