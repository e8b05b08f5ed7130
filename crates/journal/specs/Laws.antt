-- What is proved of the journal, besides the promises of reading and writing. `proofs/` has a proof of each statement.
use Rattle.std.specs.Prelude.{◌≡◌, Some, Ok, Err, true, false, ℕ, ◌+◌, ◌*◌, ◌-◌, ◌/◌, ◌%◌, ◌≤◌, ◌<◌, length, get_or, take, drop}
use mathlib.Core.List.{List, [], ◌∷◌, ◌++◌, Memᴰ, map}
use Rattle.group.specs.Choice.{◌and◌, ◌=?◌}
use Rattle.group.specs.Limits.{payload_most, largest_number}
use Rattle.group.specs.Question.{Question, first_no, judged}
use Rattle.group.specs.declared.Refusal.TheVariants.{UnsoundState, WrongJournal}
use Rattle.group.specs.declared.SequenceNumber.{SequenceNumber}
use Rattle.message.specs.Order.{Ordered}
use Rattle.big_endian.specs.Laws.{Bytes}
use Rattle.journal.specs.Limits.{block_size, records_at, records_end, record_head}
use Rattle.journal.specs.Block.{record_of, records_of, block_of, first_at, records_in, behind, ended_at, follows, record_right, sum_right, block_right, message_at, messages_of, tail_of, compact_records, compact_of, length_at, form_of, tail_with}
use Rattle.journal.specs.Read.{joined, found_from, found_in, counted, read_of, entry_of, held_by}
use Rattle.journal.specs.Walk.{cursor_of, walk_of, given_by, spot_at, message_on}
use Rattle.journal.specs.Write.{writer_after, writer_sound, allowed, refused, kept_of, closed_of, write_of, finish_of}
use Rattle.journal.specs.declared.Cursor.{Cursor}
use Rattle.journal.specs.declared.Form.{Form}
use Rattle.journal.specs.declared.Form.TheVariants.{Log, Compact}
use Rattle.journal.specs.declared.Record.{Record}
use Rattle.journal.specs.declared.Spot.{Spot}
use Rattle.journal.specs.declared.Tail.{Tail}
use Rattle.journal.specs.declared.Writer.{Writer}
use Rattle.journal.specs.declared.Answer.TheVariants.{Kept, Closed}

-- a message whose parts their types can hold
pub record Fits (m : Ordered) : Type 0 where
  pub number : m.number ≤ largest_number
  pub count : m.count ≤ largest_number
  pub payload : Bytes m.payload

-- and that a record may hold
pub record Allowed (m : Ordered) : Type 0 where
  pub fits : Fits m
  pub may : allowed m ≡ true

-- a record is read back from where it stands, and the next may begin behind it
abbrev pub RecordBack : Type 0
RecordBack =
    (block rest : List ℕ) (at : ℕ) (m : Ordered) → Allowed m → drop at block ≡ record_of m ++ rest → at + length (record_of m) ≤ records_end
    → (record_right block at m.number ≡ true) × (message_at block at m.number ≡ m) × (behind block at ≡ at + length (record_of m))

-- messages that may stand in blocks, with the numbers above `before` one by one
unfoldable pub Numbered : ℕ → List Ordered → Type 0
Numbered before [] = Unit {0}
Numbered before (m ∷ rest) = Allowed m × (m.number ≡ before + 1) × Numbered (before + 1) rest

-- the same of the records of a block of either form: the next number each, or any above the one before
abbrev pub NextNumber : Form → ℕ → ℕ → Type 0
NextNumber Log before number = number ≡ before + 1
NextNumber Compact before number = before < number

unfoldable pub NumberedIn : Form → ℕ → List Ordered → Type 0
NumberedIn form before [] = Unit {0}
NumberedIn form before (m ∷ rest) = Allowed m × NextNumber form before m.number × NumberedIn form m.number rest

-- their records, their block, and the last of their numbers
abbrev pub records_with : Form → List Ordered → List ℕ
records_with Log ms = records_of ms
records_with Compact ms = compact_records ms

abbrev pub block_with : Form → ℕ → ℕ → List ℕ → List ℕ
block_with Log first records body = block_of first records body
block_with Compact first records body = compact_of first records body

unfoldable pub last_number : ℕ → List Ordered → ℕ
last_number before [] = before
last_number before (m ∷ rest) = last_number m.number rest

-- a block is right behind a tail that its first message may follow, and is read back to its messages
abbrev pub BlockBack : Type 0
BlockBack =
    (t : Tail) (before : ℕ) (ms : List Ordered) → 1 ≤ length ms → Numbered before ms → follows t (before + 1) ≡ true
    → records_at + length (records_of ms) ≤ records_end
    → let block = block_of (before + 1) (length ms) (records_of ms) in
    (block_right t block ≡ true) × (messages_of block ≡ ms) × (tail_of block ≡ ended_at (before + length ms))

-- and so is a compacted one, where any number may follow
abbrev pub CompactBack : Type 0
CompactBack =
    (t : Tail) (m : Ordered) (ms : List Ordered) → NumberedIn Compact t.last.0 (m ∷ ms) → t.free ≡ true
    → records_at + length (compact_records (m ∷ ms)) ≤ records_end
    → let block = compact_of m.number (length (m ∷ ms)) (compact_records (m ∷ ms)) in
    (block_right t block ≡ true) × (messages_of block ≡ m ∷ ms) × (tail_of block ≡ tail_with Compact (last_number m.number ms))

-- a right block of bytes is the block of its messages, which may stand in it
abbrev pub BlockOnly : Type 0
BlockOnly =
    (t : Tail) (block : List ℕ) → Bytes block → block_right t block ≡ true
    → NumberedIn (form_of block) (first_at block - 1) (messages_of block)
    × (block ≡ block_with (form_of block) (first_at block) (records_in block) (records_with (form_of block) (messages_of block)))

-- k blocks and no more, all of them right behind a tail, with these messages and this tail behind them
pub record Whole (t : Tail) (journal : List ℕ) (k : ℕ) (ms : List Ordered) (u : Tail) : Type 0 where
  pub size : length journal ≡ block_size * k
  pub reads : found_from t journal k ≡ record { blocks = k; messages = ms; tail = u }

-- behind a whole part reading continues
abbrev pub Continues : Type 0
Continues =
    (t u : Tail) (journal rest : List ℕ) (k n : ℕ) (ms : List Ordered) → Whole t journal k ms u
    → found_from t (journal ++ rest) (k + n) ≡ joined k ms (found_from u rest n)

-- a journal of which every block is right
pub record WholeTo (journal : List ℕ) (ms : List Ordered) (t : Tail) : Type 0 where
  pub size : length journal % block_size ≡ 0
  pub reads : found_in journal ≡ record { blocks = length journal / block_size; messages = ms; tail = t }

-- the blocks that a call handed out: one, or none
unfoldable pub handed : List ℕ → List (List ℕ)
handed [] = []
handed (b ∷ rest) = (b ∷ rest) ∷ []

-- blocks one behind the other, and their messages
unfoldable pub joint : List (List ℕ) → List ℕ
joint [] = []
joint (b ∷ rest) = b ++ joint rest

unfoldable pub messages_in : List (List ℕ) → List Ordered
messages_in [] = []
messages_in (b ∷ rest) = messages_of b ++ messages_in rest

-- what a writer can come to behind a tail, with any 512 bytes for the block in hand: messages kept and shutdowns, in any
-- order; the messages, the blocks handed out, the writer, and the block in hand
pub data Writes (start : Tail) : List Ordered → List (List ℕ) → Writer → List ℕ → Type 0 where
  starts : {hand : List ℕ} → length hand ≡ block_size → Writes start [] [] (writer_after start) hand
  keeps : {ms : List Ordered} {blocks : List (List ℕ)} {w : Writer} {hand : List ℕ} → Writes start ms blocks w hand
      → (m : Ordered) → Fits m → (write_of w m hand).answer ≡ Ok Kept
      → Writes start (ms ++ (m ∷ [])) (blocks ++ handed (write_of w m hand).bytes) (write_of w m hand).writer (write_of w m hand).hand
  closes : {ms : List Ordered} {blocks : List (List ℕ)} {w : Writer} {hand : List ℕ} → Writes start ms blocks w hand
      → (finish_of w hand).answer ≡ Ok Closed
      → Writes start ms (blocks ++ handed (finish_of w hand).bytes) (finish_of w hand).writer (finish_of w hand).hand

-- what was written behind a whole journal, and then a shutdown, are read back whole
abbrev pub RoundTrip : Type 0
RoundTrip =
    (journal : List ℕ) (old ms : List Ordered) (start : Tail) (blocks : List (List ℕ)) (w : Writer) (hand : List ℕ)
    → WholeTo journal old start → Writes start ms blocks w hand
    → ((finish_of w hand).answer ≡ Ok Closed) × WholeTo (journal ++ joint (blocks ++ handed (finish_of w hand).bytes)) (old ++ ms) w.tail

-- every message stands in one block, in order: those of the blocks handed out, then those in hand
abbrev pub InOrder : Type 0
InOrder =
    (ms : List Ordered) (start : Tail) (blocks : List (List ℕ)) (w : Writer) (hand : List ℕ)
    → Writes start ms blocks w hand → messages_in (blocks ++ handed (finish_of w hand).bytes) ≡ ms

-- what may stand where a block was being written when the current failed
pub data Torn (block : List ℕ) : List ℕ → Type 0 where
  absent : Torn block []
  complete : Torn block block
  junk : {bytes : List ℕ} → length bytes ≡ block_size → sum_right bytes ≡ false → Torn block bytes

-- how many blocks of it stand
unfoldable pub standing : {block tail : List ℕ} → Torn block tail → ℕ
standing absent = 0
standing complete = 1
standing (junk size wrong) = 0

-- wherever the current fails, reading gives exactly the finished blocks, with the last if complete
abbrev pub Crash : Type 0
Crash =
    (journal : List ℕ) (old ms : List Ordered) (start : Tail) (blocks : List (List ℕ)) (w : Writer) (hand : List ℕ)
    → WholeTo journal old start → Writes start ms blocks w hand
    → (k : ℕ) → k < length blocks → (tail : List ℕ) (torn : Torn (get_or blocks k []) tail)
    → let found = found_in (journal ++ (joint (take k blocks) ++ tail)) in
    (length (journal ++ (joint (take k blocks) ++ tail)) % block_size ≡ 0)
    × (found.blocks ≡ length journal / block_size + (k + standing torn))
    × (found.messages ≡ old ++ messages_in (take (k + standing torn) blocks))

-- a journal cut behind the blocks found is whole to the tail found
abbrev pub Restart : Type 0
Restart =
    (journal : List ℕ) → length journal % block_size ≡ 0
    → WholeTo (take (block_size * (found_in journal).blocks) journal) (found_in journal).messages (found_in journal).tail

-- so writing can go on after the failure: what is left when the rest is cut off is whole, and has exactly those messages
abbrev pub Resume : Type 0
Resume =
    (journal : List ℕ) (old ms : List Ordered) (start : Tail) (blocks : List (List ℕ)) (w : Writer) (hand : List ℕ)
    → WholeTo journal old start → Writes start ms blocks w hand
    → (k : ℕ) → k < length blocks → (tail : List ℕ) (torn : Torn (get_or blocks k []) tail)
    → let torn-journal = journal ++ (joint (take k blocks) ++ tail) in
    let found = found_in torn-journal in
    WholeTo (take (block_size * found.blocks) torn-journal) (old ++ messages_in (take (k + standing torn) blocks)) found.tail

-- what reading answers of a whole journal: its blocks, how many messages they have, and their tail
abbrev pub WholeRead : Type 0
WholeRead =
    (journal : List ℕ) (ms : List Ordered) (t : Tail) → WholeTo journal ms t
    → read_of journal ≡ Ok (record { blocks = length journal / block_size; messages = length ms; tail = t })

-- the questions of reading, of writing and of shutdown
abbrev pub read_questions : List ℕ → List Question
read_questions journal = record { yes = length journal % block_size =? 0; refusal = WrongJournal } ∷ []

abbrev pub write_questions : Writer → Ordered → List Question
write_questions w m =
    record { yes = writer_sound w; refusal = UnsoundState }
    ∷ record { yes = allowed m and follows w.tail m.number; refusal = WrongJournal }
    ∷ []

abbrev pub finish_questions : Writer → List Question
finish_questions w = record { yes = writer_sound w; refusal = UnsoundState } ∷ []

-- each refuses with the first no of its questions, and accepts everything else
abbrev pub ReadFirstNo : Type 0
ReadFirstNo =
    (journal : List ℕ) → read_of journal ≡ judged (first_no (read_questions journal)) Err (Ok (counted (found_in journal)))

abbrev pub WriteFirstNo : Type 0
WriteFirstNo = (w : Writer) (m : Ordered) (hand : List ℕ) → write_of w m hand ≡ judged (first_no (write_questions w m)) (refused w hand) (kept_of w m hand)

abbrev pub FinishFirstNo : Type 0
FinishFirstNo = (w : Writer) (hand : List ℕ) → finish_of w hand ≡ judged (first_no (finish_questions w)) (refused w hand) (closed_of w hand)

-- what a writer can come to is sound, and a sound one stays so
abbrev pub WriterSound : Type 0
WriterSound =
    (ms : List Ordered) (start : Tail) (blocks : List (List ℕ)) (w : Writer) (hand : List ℕ) → Writes start ms blocks w hand → writer_sound w ≡ true

abbrev pub StaysSound : Type 0
StaysSound =
    (w : Writer) (m : Ordered) (hand : List ℕ) → writer_sound w ≡ true
    → (writer_sound (write_of w m hand).writer ≡ true) × (writer_sound (finish_of w hand).writer ≡ true)

-- what reading one record gives is the message that stands there
abbrev pub EntryHolds : Type 0
EntryHolds =
    (block : List ℕ) (at : ℕ) (number : SequenceNumber) (r : Record) → entry_of block at number ≡ Some r
    → held_by block r ≡ message_at block at number.0

-- and it lies within the block
abbrev pub EntryWithin : Type 0
EntryWithin =
    (block : List ℕ) (at : ℕ) (number : SequenceNumber) (r : Record) → entry_of block at number ≡ Some r
    → (length block ≡ block_size) × (r.start ≡ at + record_head) × (r.length ≤ payload_most) × (r.start + r.length ≤ records_end)

-- what a cursor over the right blocks of a journal gives are the records of the messages that reading finds
abbrev pub GivesAll : Type 0
GivesAll =
    (journal : List ℕ)
    → map (message_on journal) (given_by (length (found_in journal).messages) (cursor_of journal (found_in journal).blocks) journal) ≡ (found_in journal).messages

-- a record that stands in a journal: its payload ends where it ends, and is no longer than a payload may be
pub record StandsIn (journal : List ℕ) (s : Spot) : Type 0 where
  pub ends : s.start + record_head + length_at journal s.start ≡ s.end
  pub within : s.end ≤ length journal
  pub short : length_at journal s.start ≤ payload_most

-- so stands what a cursor within the journal gives, and the cursor stays within it
abbrev pub GivesStanding : Type 0
GivesStanding =
    (journal : List ℕ) (c next : Cursor) (s : Spot) → c.base + c.blocks * block_size ≤ length journal → walk_of c journal ≡ Some (s, next)
    → StandsIn journal s × (next.base + next.blocks * block_size ≤ length journal)

-- a cursor goes forward: the record stands behind it, and the next cursor behind that record's head
abbrev pub GivesForward : Type 0
GivesForward =
    (journal : List ℕ) (c next : Cursor) (s : Spot) → c.at ≤ records_end → walk_of c journal ≡ Some (s, next)
    → (c.base + c.at ≤ s.start) × (s.start + record_head ≤ next.base + next.at) × (next.at ≤ records_end)

-- each record that a cursor over the right blocks gives is found again by where its payload stands, in a block of the journal
abbrev pub GivesAgain : Type 0
GivesAgain =
    (journal : List ℕ) (blocks n : ℕ) (s : Spot) → blocks * block_size ≤ length journal → Memᴰ s (given_by n (cursor_of journal blocks) journal)
    → StandsIn journal s × (spot_at journal (s.start + record_head) ≡ s) × ((s.start + record_head) / block_size * block_size + block_size ≤ length journal)

-- the messages of a journal of bytes may stand in records, and their numbers rise
abbrev pub RisesIn : Type 0
RisesIn = (journal : List ℕ) → Bytes journal → NumberedIn Compact 0 (found_in journal).messages
