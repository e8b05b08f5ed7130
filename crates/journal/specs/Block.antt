-- A block: `KJB1` or `KJB2`, the number of its first message (4 bytes), the count of its records (2), the records from byte 10 on,
-- zeros up to byte 507, and the sum over bytes 0 to 507 (4). A record: originator (1), count (4), L (2), L bytes of payload.
-- Numbers are big-endian. In a block with `KJB2`, a compacted one, the sequence number (4) stands before each record.
use Rattle.std.specs.Prelude.{Bool, true, false, List, [], ◌∷◌, ◌++◌, ℕ, zero, suc, ◌+◌, ◌*◌, ◌-◌, length, get_or, take, drop, replicate}
use Rattle.group.specs.Choice.{when◌then◌else◌, ◌and◌, ◌<?◌, ◌≤?◌, ◌=?◌}
use Rattle.group.specs.Fold.{all}
use Rattle.group.specs.Limits.{members_most, payload_most, largest_number}
use Rattle.message.specs.Message.{all_zero}
use Rattle.message.specs.Order.{Ordered}
use Rattle.big_endian.specs.Number.{number_at, bytes_of}
use Rattle.journal.specs.Limits.{block_size, records_at, records_end, record_head, number_size, mark, compact_mark}
use Rattle.journal.specs.declared.Form.{Form}
use Rattle.journal.specs.declared.Form.TheVariants.{Log, Compact}
use Rattle.journal.specs.declared.Tail.{Tail}

-- the sum of (position + 1) × byte, where the first byte stands at `position`
unfoldable pub sum_from : ℕ → List ℕ → ℕ
sum_from position [] = 0
sum_from position (b ∷ rest) = (position + 1) * b + sum_from (position + 1) rest

-- the record of an originator, a count and a payload, and that of a message
abbrev pub record_with : ℕ → ℕ → List ℕ → List ℕ
record_with originator count payload = originator ∷ (bytes_of 4 count ++ (bytes_of 2 (length payload) ++ payload))

unfoldable pub record_of : Ordered → List ℕ
record_of m = record_with m.originator m.count m.payload

-- the records of messages, one behind the other
unfoldable pub records_of : List Ordered → List ℕ
records_of [] = []
records_of (m ∷ rest) = record_of m ++ records_of rest

-- bytes 0 to 507 of a block
abbrev pub framed_by : List ℕ → ℕ → ℕ → List ℕ → List ℕ
framed_by begin first records body =
    begin ++ (bytes_of 4 first ++ (bytes_of 2 records ++ (body ++ replicate (records_end - records_at - length body) 0)))

unfoldable pub framed : ℕ → ℕ → List ℕ → List ℕ
framed first records body = framed_by mark first records body

-- the block: their sum behind them
abbrev pub sealed : List ℕ → List ℕ
sealed frame = frame ++ bytes_of 4 (sum_from 0 frame)

unfoldable pub block_of : ℕ → ℕ → List ℕ → List ℕ
block_of first records body = sealed (framed first records body)

-- the same of a compacted one, whose number is its first record's
unfoldable pub compact_records : List Ordered → List ℕ
compact_records [] = []
compact_records (m ∷ rest) = bytes_of number_size m.number ++ (record_of m ++ compact_records rest)

unfoldable pub compact_framed : ℕ → ℕ → List ℕ → List ℕ
compact_framed first records body = framed_by compact_mark first records body

unfoldable pub compact_of : ℕ → ℕ → List ℕ → List ℕ
compact_of first records body = sealed (compact_framed first records body)

-- the fields of a block
abbrev pub first_at : List ℕ → ℕ
first_at block = number_at 4 block 4

abbrev pub records_in : List ℕ → ℕ
records_in block = number_at 2 block 8

abbrev pub sum_at : List ℕ → ℕ
sum_at block = number_at 4 block records_end

-- and of the record at an index of a block: L, where its payload begins, and where the next record may begin
abbrev pub length_at : List ℕ → ℕ → ℕ
length_at block at = number_at 2 block (at + 5)

abbrev pub behind : List ℕ → ℕ → ℕ
behind block at = at + record_head + length_at block at

-- the journal ends with that number, and the next alone may follow
abbrev pub ended_at : ℕ → Tail
ended_at number = record { last = record { 0 = number }; free = false }

-- whether a number may follow
unfoldable pub follows : Tail → ℕ → Bool
follows t number = when t.free then t.last.0 <? number else number =? t.last.0 + 1

-- the record that stands at an index is right, and so is its number
unfoldable pub record_right : List ℕ → ℕ → ℕ → Bool
record_right block at number =
    at + record_head ≤? records_end
    and get_or block at 0 <? members_most
    and 1 ≤? number_at 4 block (at + 1)
    and length_at block at ≤? payload_most
    and behind block at ≤? records_end
    and number ≤? largest_number

-- where the bytes of the record at an index begin, behind its number if that stands before it, and where the next may begin
abbrev pub record_start : Form → ℕ → ℕ
record_start Log at = at
record_start Compact at = at + number_size

abbrev pub behind_in : Form → List ℕ → ℕ → ℕ
behind_in form block at = behind block (record_start form at)

-- the number of the record at an index, where `before` is the number before it
abbrev pub record_number : Form → List ℕ → ℕ → ℕ → ℕ
record_number Log block at before = before + 1
record_number Compact block at before = number_at number_size block at

-- the record at an index is right, with a number above the one before
unfoldable pub step_right : Form → List ℕ → ℕ → ℕ → Bool
step_right form block at before =
    before <? record_number form block at before
    and record_right block (record_start form at) (record_number form block at before)

-- so many records from an index on are right, with numbers above `before`, and zeros stand behind them
unfoldable pub records_right : Form → List ℕ → ℕ → ℕ → ℕ → Bool
records_right form block at before zero = all_zero (drop at (take records_end block))
records_right form block at before (suc k) =
    step_right form block at before
    and records_right form block (behind_in form block at) (record_number form block at before) k

-- the block begins with these bytes
abbrev pub marked : List ℕ → List ℕ → Bool
marked begin block = all (λ i b. get_or block i 0 =? b) 0 begin

-- what its mark makes it
unfoldable pub form_of : List ℕ → Form
form_of block = when marked compact_mark block then Compact else Log

-- the mark is right: a compacted block stands where any number may follow, and its number is its first record's
unfoldable pub form_right : Form → Tail → List ℕ → Bool
form_right Log t block = marked mark block
form_right Compact t block = t.free and first_at block =? number_at number_size block records_at

-- its sum is right
unfoldable pub sum_right : List ℕ → Bool
sum_right block = sum_at block =? sum_from 0 (take records_end block)

-- it has records, the number of the first may follow, and all of them are right
unfoldable pub content_right : Tail → List ℕ → Bool
content_right t block =
    1 ≤? records_in block
    and follows t (first_at block)
    and records_right (form_of block) block records_at (first_at block - 1) (records_in block)

-- the block is right behind that tail
unfoldable pub block_right : Tail → List ℕ → Bool
block_right t block = length block =? block_size and form_right (form_of block) t block and sum_right block and content_right t block

-- the message whose record stands at an index
unfoldable pub message_at : List ℕ → ℕ → ℕ → Ordered
message_at block at number =
    record {
      number = number;
      originator = get_or block at 0;
      count = number_at 4 block (at + 1);
      payload = take (length_at block at) (drop (at + record_head) block);
    }

-- the messages of so many records from an index on, with numbers above `before`, and the number of the last
unfoldable pub messages_from : Form → List ℕ → ℕ → ℕ → ℕ → List Ordered
messages_from form block at before zero = []
messages_from form block at before (suc k) =
    message_at block (record_start form at) (record_number form block at before)
    ∷ messages_from form block (behind_in form block at) (record_number form block at before) k

unfoldable pub last_from : Form → List ℕ → ℕ → ℕ → ℕ → ℕ
last_from form block at before zero = before
last_from form block at before (suc k) = last_from form block (behind_in form block at) (record_number form block at before) k

-- the messages of a block
unfoldable pub messages_of : List ℕ → List Ordered
messages_of block = messages_from (form_of block) block records_at (first_at block - 1) (records_in block)

-- the tail behind a number: behind a compacted block any number above it may follow
abbrev pub tail_with : Form → ℕ → Tail
tail_with Log number = ended_at number
tail_with Compact number = record { last = record { 0 = number }; free = true }

-- the tail behind a block
unfoldable pub tail_of : List ℕ → Tail
tail_of block = tail_with (form_of block) (last_from (form_of block) block records_at (first_at block - 1) (records_in block))
