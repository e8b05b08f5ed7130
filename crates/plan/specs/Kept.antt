-- Rewriting: the messages that stay, and how they are laid into blocks.
use Rattle.std.specs.Prelude.{Bool, true, false, List, [], ◌∷◌, ◌++◌, ℕ, ◌+◌, ◌-◌, length}
use Rattle.group.specs.Choice.{when◌then◌else◌, ◌and◌, ◌≤?◌, ◌=?◌}
use Rattle.message.specs.Order.{Ordered}
use Rattle.journal.specs.Limits.{records_at, records_end, number_size}
use Rattle.journal.specs.Block.{record_of, compact_records, compact_of}
use Rattle.plan.specs.Units.{sets, unit_of}

-- whether no message sets unit u
unfoldable pub not_in : ℕ → List Ordered → Bool
not_in u [] = true
not_in u (m ∷ rest) = when sets m and unit_of m =? u then false else not_in u rest

-- the messages that set a unit which no later one sets, in their order
unfoldable pub last_ones : List Ordered → List Ordered
last_ones [] = []
last_ones (m ∷ rest) = when sets m and not_in (unit_of m) rest then m ∷ last_ones rest else last_ones rest

-- the bytes of records, where `size` says those of one
unfoldable pub total : (Ordered → ℕ) → List Ordered → ℕ
total size [] = 0
total size (m ∷ rest) = size m + total size rest

-- the records of each block, where a block has room for so many bytes; `held` are those of the block in hand
unfoldable pub packed : (Ordered → ℕ) → ℕ → List Ordered → List Ordered → List (List Ordered)
packed size room [] [] = []
packed size room (h ∷ held) [] = (h ∷ held) ∷ []
packed size room held (m ∷ rest) =
    when total size held + size m ≤? room
    then packed size room (held ++ (m ∷ [])) rest
    else held ∷ packed size room (m ∷ []) rest

-- the bytes that a record and its number take in a compacted block, and the room that one has
abbrev pub record_size : Ordered → ℕ
record_size m = number_size + length (record_of m)

abbrev pub records_room : ℕ
records_room = records_end - records_at

-- the compacted block of some messages; its number is that of the first
unfoldable pub compact_block : List Ordered → List ℕ
compact_block [] = []
compact_block (m ∷ rest) = compact_of m.number (length (m ∷ rest)) (compact_records (m ∷ rest))

-- the blocks of some messages, one behind the other
unfoldable pub blocks_of : List (List Ordered) → List ℕ
blocks_of [] = []
blocks_of (ms ∷ rest) = compact_block ms ++ blocks_of rest

-- what a journal's messages are rewritten to
abbrev pub rewritten : List Ordered → List ℕ
rewritten ms = blocks_of (packed record_size records_room [] (last_ones ms))
