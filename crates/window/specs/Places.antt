-- The 8 places of a member, for numbers t + 1 to t + 8, and the 5 places of its messages that wait.
use Rattle.std.specs.Prelude.{Bool, List, ℕ, zero, suc, ◌+◌, ◌%◌, get_or}
use Rattle.group.specs.Choice.{when◌then◌else◌, ◌<?◌}
use Rattle.group.specs.Limits.{held_most, waiting_most}
use Rattle.message.specs.Message.{Message, blank}

-- number s lies in place s modulo 8
abbrev pub place_of : ℕ → ℕ
place_of number = number % held_most

abbrev pub message_at : List Message → ℕ → Message
message_at held number = get_or held (place_of number) blank

-- a place is empty exactly if its count is 0
abbrev pub is_held : List Message → ℕ → Bool
is_held held number = 0 <? (message_at held number).count

-- the message with count c of those that wait lies in place c modulo 5
abbrev pub queue_place : ℕ → ℕ
queue_place count = count % waiting_most

abbrev pub queued_at : List Message → ℕ → Message
queued_at queue count = get_or queue (queue_place count) blank

-- "missing" means above t and not held: the lowest missing of the k numbers above t; 0: none is
unfoldable pub lowest_missing : List Message → ℕ → ℕ → ℕ
lowest_missing held t zero = 0
lowest_missing held t (suc k) = when is_held held (t + 1) then lowest_missing held (t + 1) k else t + 1

-- the last of the k numbers above t up to which every one is held, without a hole; t where the first is missing
unfoldable pub row_end : List Message → ℕ → ℕ → ℕ
row_end held t zero = t
row_end held t (suc k) = when is_held held (t + 1) then row_end held (t + 1) k else t

-- the larger of two numbers
unfoldable pub larger_of : ℕ → ℕ → ℕ
larger_of a b = when a <? b then b else a

-- the smaller of two numbers
unfoldable pub smaller_of : ℕ → ℕ → ℕ
smaller_of a b = when a <? b then a else b
