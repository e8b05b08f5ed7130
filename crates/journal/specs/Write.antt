-- Writing a journal: records gather in the block in hand, which is handed out when the next does not fit, and at shutdown.
use Rattle.group.specs.Question.{all_yes}
use Rattle.std.specs.Prelude.{◌≡◌, Result, Ok, Err, Bool, false, List, [], ℕ, ◌+◌, ◌*◌, ◌-◌, length, take, drop}
use Rattle.group.specs.Choice.{when◌then◌else◌, ask◌or◌then◌, ◌and◌, ◌<?◌, ◌≤?◌, ◌=?◌}
use Rattle.group.specs.Lent.{front}
use Rattle.group.specs.Limits.{members_most, payload_most}
use Rattle.group.specs.Question.{judged}
use Rattle.group.specs.declared.MemberNumber.{MemberNumber}
use Rattle.group.specs.declared.Refusal.{Refusal}
use Rattle.group.specs.declared.Refusal.TheVariants.{UnsoundState, WrongJournal}
use Rattle.group.specs.declared.SequenceNumber.{SequenceNumber}
use Rattle.group.specs.Question.{Verdict}
use Rattle.message.specs.Order.{Ordered}
use Rattle.text.specs.LaidAt.{written_at}
use Rattle.journal.specs.Limits.{records_at, records_end, record_head}
use Rattle.journal.specs.Block.{record_of, block_of, ended_at, follows}
use Rattle.journal.specs.declared.Tail.{Tail}
use Rattle.journal.specs.declared.Writer.{Writer}
use Rattle.journal.specs.declared.Answer.{Answer}
use Rattle.journal.specs.declared.Answer.TheVariants.{Kept, Closed}
use Rattle.journal.specs.declared.Step.{Step}

-- what a call leaves: the writer, its answer, the block in hand, and the bytes that it lays at the front of the lent output
pub record Outcome : Type 0 where
  pub writer : Writer
  pub answer : Result Answer Refusal
  pub hand : List ℕ
  pub bytes : List ℕ

-- what a call gives back
abbrev pub told_of : Result Answer Refusal → Writer → ℕ → Result Step Refusal
told_of (Ok answer) writer written = Ok (record { writer = writer; answer = answer; written = written })
told_of (Err refusal) writer written = Err refusal

abbrev pub step_of : Outcome → Result Step Refusal
step_of o = told_of o.answer o.writer (length o.bytes)

-- and its answer alone
abbrev pub answer_in : Result Step Refusal → Result Answer Refusal
answer_in (Ok step) = Ok step.answer
answer_in (Err refusal) = Err refusal

-- what a call gives back, and what it leaves in the block in hand and in the lent output
pub record Done (o : Outcome) (r : Result Step Refusal) (hand lent after : List ℕ) : Type 0 where
  pub step : r ≡ step_of o
  pub held : hand ≡ o.hand
  pub lays : after ≡ front o.bytes lent

-- the message that a call is given
abbrev pub message_with : SequenceNumber → MemberNumber → ℕ → List ℕ → Ordered
message_with number originator count payload =
    record { number = number.0; originator = originator.0; count = count; payload = payload }

-- a writer behind a tail, with no record in hand
abbrev pub writer_after : Tail → Writer
writer_after t = record { tail = t; first = record { 0 = 0 }; records = 0; used = records_at }

-- the records in hand have the numbers up to the last, and the next alone may follow
unfoldable pub numbers_sound : Writer → Bool
numbers_sound w =
    when w.tail.free then false else
    1 ≤? w.first.0 and w.first.0 + w.records =? w.tail.last.0 + 1

-- the state is sound: the records in hand fit what is used, and with none in hand nothing is used
unfoldable pub writer_sound : Writer → Bool
writer_sound w =
    records_at ≤? w.used
    and w.used ≤? records_end
    and record_head * w.records ≤? w.used - records_at
    and (when w.records =? 0 then w.used =? records_at else numbers_sound w)

-- a message that a record may hold: its originator, its count, and the length of its payload
abbrev pub allowed_with : ℕ → ℕ → ℕ → Bool
allowed_with originator count size = originator <? members_most and size ≤? payload_most and 1 ≤? count

unfoldable pub allowed : Ordered → Bool
allowed m = allowed_with m.originator m.count (length m.payload)

-- the writer with one more record in hand, which ends at that index
abbrev pub grown_to : Writer → SequenceNumber → ℕ → Writer
grown_to w number used =
    record {
      tail = ended_at number.0;
      first = when w.records =? 0 then number else w.first;
      records = w.records + 1;
      used = used;
    }

-- the same of a message, and with its record alone
abbrev pub grown : Writer → Ordered → Writer
grown w m = grown_to w (record { 0 = m.number }) (w.used + length (record_of m))

abbrev pub begun : Ordered → Writer
begun m =
    record {
      tail = ended_at m.number;
      first = record { 0 = m.number };
      records = 1;
      used = records_at + length (record_of m);
    }

-- the block in hand, made whole
abbrev pub in_hand : Writer → List ℕ → List ℕ
in_hand w hand = block_of w.first.0 w.records (drop records_at (take w.used hand))

-- a refusal changes nothing
abbrev pub refused : Writer → List ℕ → Refusal → Outcome
refused w hand refusal = record { writer = w; answer = Err refusal; hand = hand; bytes = [] }

-- a message that may be kept: its record goes behind the others, or begins the next block
unfoldable pub kept_of : Writer → Ordered → List ℕ → Outcome
kept_of w m hand =
    when w.used + length (record_of m) ≤? records_end
    then record { writer = grown w m; answer = Ok Kept; hand = written_at w.used (record_of m) hand; bytes = [] }
    else record { writer = begun m; answer = Ok Kept; hand = written_at records_at (record_of m) hand; bytes = in_hand w hand }

-- the questions of writing: 1, and 21 for a record that may not be, or a number that may not follow
unfoldable pub write_verdict : Writer → Ordered → Verdict
write_verdict w m =
    ask writer_sound w or Err UnsoundState then
    ask allowed m and follows w.tail m.number or Err WrongJournal then
    all_yes

unfoldable pub write_of : Writer → Ordered → List ℕ → Outcome
write_of w m hand = judged (write_verdict w m) (refused w hand) (kept_of w m hand)

-- shutdown hands out what is in hand; without a record, nothing
abbrev pub closed_of : Writer → List ℕ → Outcome
closed_of w hand =
    record {
      writer = writer_after w.tail;
      answer = Ok Closed;
      hand = hand;
      bytes = when w.records =? 0 then [] else in_hand w hand;
    }

unfoldable pub finish_of : Writer → List ℕ → Outcome
finish_of w hand =
    ask writer_sound w or refused w hand UnsoundState then
    closed_of w hand
