-- A journal's writer by its numbers, and what the calls of a journal tell.
use Rattle.std.specs.Prelude.{◌≡◌, Option, Some, None, Result, Ok, Err, not, List, [], ◌∷◌, ℕ, length, get_or}
use Rattle.group.specs.Choice.{when◌then◌else◌, ask◌or◌then◌, ◌≤?◌, ◌=?◌}
use Rattle.group.specs.Lent.{front}
use Rattle.group.specs.Wording.{Wording, refused_wording}
use Rattle.group.specs.declared.Refusal.{Refusal}
use Rattle.group.specs.declared.Refusal.TheVariants.{UnsoundState}
use Rattle.message.specs.Order.{Ordered}
use Rattle.journal.specs.Read.{next_of}
use Rattle.journal.specs.Write.{Outcome, writer_after, write_of, finish_of}
use Rattle.journal.specs.Wording.{reading_wording, block_wording, entry_wording, wording_of}
use Rattle.journal.specs.declared.Answer as journal
use Rattle.journal.specs.declared.Found as journal_found
use Rattle.journal.specs.declared.Record as journal_record
use Rattle.journal.specs.declared.Writer.{Writer}
use Rattle.embedding.specs.Codes.{code_of, numbers_of, answer_of}
use Rattle.embedding.specs.declared.Answer.{Answer}
use Rattle.embedding.specs.declared.Found.{Found}
use Rattle.embedding.specs.declared.Record.{Record}

-- a writer has five numbers: the last number, 1 where any number above it may follow and 0 where the next alone may, the first number in
-- hand, how many records are in hand, and the bytes used
unfoldable pub writer_in : List ℕ → Writer
writer_in numbers =
    record {
      tail = record { last = record { 0 = get_or numbers 0 0 }; free = not (get_or numbers 1 0 =? 0) };
      first = record { 0 = get_or numbers 2 0 };
      records = get_or numbers 3 0;
      used = get_or numbers 4 0;
    }

unfoldable pub writer_numbers : Writer → List ℕ
writer_numbers w = w.tail.last.0 ∷ (when w.tail.free then 1 else 0) ∷ w.first.0 ∷ w.records ∷ w.used ∷ []

-- an answer of two numbers
unfoldable pub found_of : Wording → Found
found_of w = record { code = code_of w; blocks = get_or (numbers_of w) 0 0; messages = get_or (numbers_of w) 1 0 }

-- reading a journal; a writer that goes on behind what was found
abbrev pub read_told : Result journal_found.Found Refusal → Found
read_told reading = found_of (reading_wording reading)

unfoldable pub writer_found : Result journal_found.Found Refusal → List ℕ → List ℕ
writer_found (Ok found) writer = writer_numbers (writer_after found.tail)
writer_found (Err r) writer = writer

-- reading one block: question 1, and then what the block gives
unfoldable pub block_told : List ℕ → List ℕ → Found
block_told writer block =
    ask get_or writer 1 0 ≤? 1 or found_of (refused_wording UnsoundState) then
    found_of (block_wording (next_of (writer_in writer).tail block))

unfoldable pub writer_at : Option journal_found.Found → List ℕ → List ℕ
writer_at (Some found) writer = writer_numbers (writer_after found.tail)
writer_at None writer = writer

unfoldable pub writer_behind : List ℕ → List ℕ → List ℕ
writer_behind writer block =
    ask get_or writer 1 0 ≤? 1 or writer then
    writer_at (next_of (writer_in writer).tail block) writer

-- reading one record
unfoldable pub record_of : Wording → Record
record_of w =
    record {
      code = code_of w;
      number = get_or (numbers_of w) 0 0;
      originator = get_or (numbers_of w) 1 0;
      count = get_or (numbers_of w) 2 0;
      start = get_or (numbers_of w) 3 0;
      length = get_or (numbers_of w) 4 0;
    }

abbrev pub record_told : Option journal_record.Record → Record
record_told entry = record_of (entry_wording entry)

-- what a writer's answer tells, with how many bytes were laid
unfoldable pub writer_told : Result journal.Answer Refusal → ℕ → Answer
writer_told answer written = record { code = code_of (wording_of answer); number = written }

-- what a call of a writer comes to: what it tells, the writer's numbers, the block in hand, and the bytes laid at the front of the output
pub record Written : Type 0 where
  pub answer : Answer
  pub writer : List ℕ
  pub hand : List ℕ
  pub bytes : List ℕ

-- question 1 first asks whether the second number is 0 or 1; a no leaves everything
unfoldable pub asked_of : List ℕ → List ℕ → Outcome → Written
asked_of writer hand o =
    ask get_or writer 1 0 ≤? 1 or record { answer = answer_of (refused_wording UnsoundState); writer = writer; hand = hand; bytes = [] } then
    record { answer = writer_told o.answer (length o.bytes); writer = writer_numbers o.writer; hand = o.hand; bytes = o.bytes }

abbrev pub written_of : List ℕ → Ordered → List ℕ → Written
written_of writer m hand = asked_of writer hand (write_of (writer_in writer) m hand)

abbrev pub finished_of : List ℕ → List ℕ → Written
finished_of writer hand = asked_of writer hand (finish_of (writer_in writer) hand)

-- what a call tells, and what it leaves
pub record Writes (w : Written) (r : Answer) (writer hand before after : List ℕ) : Type 0 where
  pub answers : r ≡ w.answer
  pub left : writer ≡ w.writer
  pub held : hand ≡ w.hand
  pub lays : after ≡ front w.bytes before
