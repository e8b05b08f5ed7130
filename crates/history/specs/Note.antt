-- What noting an acknowledgement does to the table and to the history: the member's entry becomes the larger of old and new,
-- and what the floor passes is cleared to zeros.
use Rattle.std.specs.Prelude.{List, ℕ, zero, suc, ◌+◌, set}
use Rattle.group.specs.Choice.{when◌then◌else◌, ◌<?◌}
use Rattle.group.specs.declared.MemberNumber.{MemberNumber}
use Rattle.group.specs.declared.SequenceNumber.{SequenceNumber}
use Rattle.message.specs.Message.{Message, empty_message}
use Rattle.history.specs.State.{Acknowledgement, acknowledgement_of, place_of}

-- the larger of two numbers
unfoldable pub larger_of : ℕ → ℕ → ℕ
larger_of a b = when a <? b then b else a

-- an entry that has taken up to the larger of old and new
abbrev pub with_taken : Acknowledgement → SequenceNumber → Acknowledgement
with_taken a taken = record { taken = record { 0 = larger_of a.taken.0 taken.0 }; count = a.count; repeats = a.repeats }

-- an entry with another count and repeat count
abbrev pub with_counts : Acknowledgement → ℕ → ℕ → Acknowledgement
with_counts a count repeats = record { taken = a.taken; count = count; repeats = repeats }

-- the table with the member's entry so noted
unfoldable pub table_noted : List Acknowledgement → MemberNumber → SequenceNumber → List Acknowledgement
table_noted table m taken = set table m.0 (with_taken (acknowledgement_of table m) taken)

-- the history with the k numbers above floor cleared
unfoldable pub cleared_of : List Message → ℕ → ℕ → List Message
cleared_of history floor zero = history
cleared_of history floor (suc k) = set (cleared_of history floor k) (place_of (floor + suc k)) empty_message
