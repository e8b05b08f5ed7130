-- The messages of several places: their numbers in three arrays, and their payloads in one array of bytes, a place behind the other.
use Rattle.std.specs.Prelude.{List, [], ◌∷◌, ◌++◌, ℕ, ◌+◌, ◌*◌, ◌≤◌, length, take, drop, get_or, replicate}
use Rattle.group.specs.Limits.{payload_most}
use Rattle.message.specs.Message.{Message}

-- the place lies in the bytes
abbrev pub Lies : ℕ → List ℕ → Type 0
Lies at bytes = at * payload_most + payload_most ≤ length bytes

-- the bytes of a place
abbrev pub part_of : List ℕ → ℕ → List ℕ
part_of bytes at = take payload_most (drop (at * payload_most) bytes)

-- the bytes with others in a place
abbrev pub laid_at : List ℕ → ℕ → List ℕ → List ℕ
laid_at bytes at part = take (at * payload_most) bytes ++ (part ++ drop payload_most (drop (at * payload_most) bytes))

-- a place's message: its numbers, and its bytes
abbrev pub message_in : ℕ → ℕ → ℕ → List ℕ → Message
message_in count originator length part =
    record { originator = record { 0 = originator }; count = count; length = length; payload = part }

-- the messages of all places
unfoldable pub messages_in : List ℕ → List ℕ → List ℕ → List ℕ → List Message
messages_in [] originators lengths bytes = []
messages_in (count ∷ counts) originators lengths bytes =
    message_in count (get_or originators 0 0) (get_or lengths 0 0) (take payload_most bytes)
    ∷ messages_in counts (drop 1 originators) (drop 1 lengths) (drop payload_most bytes)

-- a payload is looked at in five blocks of so many bytes
abbrev pub block_size : ℕ
block_size = 48

-- as many zeros as a block has bytes, then as many bytes of ones
unfoldable pub mask_of : List ℕ
mask_of = replicate block_size 0 ++ replicate block_size 255
