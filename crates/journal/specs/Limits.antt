-- The sizes and places of a block, each named once. The code has the same, and its functions tie the two.
use Rattle.std.specs.Prelude.{List, [], ◌∷◌, ℕ}
use Prim.Native.Char.{code}

-- the bytes of a block
abbrev pub block_size : ℕ
block_size = 512

-- where the records of a block begin
abbrev pub records_at : ℕ
records_at = 10

-- where they end at the latest, and the sum begins
abbrev pub records_end : ℕ
records_end = 508

-- the bytes of a record before its payload
abbrev pub record_head : ℕ
record_head = 7

-- the bytes of a sequence number before a record of a compacted block
abbrev pub number_size : ℕ
number_size = 4

-- the bytes with which a block begins, and those with which a compacted one does
abbrev pub mark : List ℕ
mark = code "K" ∷ code "J" ∷ code "B" ∷ code "1" ∷ []

abbrev pub compact_mark : List ℕ
compact_mark = code "K" ∷ code "J" ∷ code "B" ∷ code "2" ∷ []
