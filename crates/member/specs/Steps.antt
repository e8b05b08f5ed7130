-- What the steps inside the code promise, in terms of the meaning. No call's promise speaks of these.
use Rattle.group.specs.Question.{all_yes}
use Rattle.std.specs.Prelude.{Ok, Err}
use Rattle.std.specs.Prelude.{◌≡◌, Bool, List, [], ℕ, ◌+◌, ◌-◌, length}
use Rattle.group.specs.Choice.{ask◌or◌then◌, ◌and◌, ◌=?◌}
use Rattle.group.specs.Lent.{front}
use Rattle.group.specs.Limits.{held_most, largest_number}
use Rattle.group.specs.Members.{is_in, expected_of}
use Rattle.group.specs.declared.Group.{Group}
use Rattle.group.specs.declared.Refusal.{Refusal}
use Rattle.message.specs.Message.{Message}
use Rattle.packet.specs.Packet.{content_of, fields_of, packet_of, from_elected}
use Rattle.packet.specs.declared.Packet.{Packet}
use Rattle.packet.specs.Answers.{Reading}
use Rattle.window.specs.Places.{message_at, smaller_of, larger_of}
use Rattle.window.specs.Steps.{Counted, lowest_uncounted, row_counted}
use Rattle.member.specs.Calls.{Outcome, call_verdict, submit_verdict, submit_of, took_of, confirms}
use Rattle.member.specs.State.{Member}
use Rattle.member.specs.declared.Answer.{Answer}
use Rattle.member.specs.declared.Done.{Done}
use Rattle.member.specs.declared.Head.{Head}
use Rattle.member.specs.declared.Reply.{Reply}

-- an answer with bytes that were laid at the front of the lent output
pub record Spoken (answer : Answer) (bytes : List ℕ) (r : Reply) (before after : List ℕ) : Type 0 where
  pub answer_is : r.answer ≡ answer
  pub written_is : r.written ≡ length bytes
  pub lent : after ≡ front bytes before

-- a reply, the state that is left and the lent bytes before and after it are what an outcome says
pub record Replied (m : Member) (o : Outcome) (r : Reply) (before after : List ℕ) : Type 0 where
  pub same : o.member ≡ m
  pub spoken : Spoken o.answer o.bytes r before after

-- the member of a head, its waiting messages and those that it holds
abbrev pub member_of : Head → List Message → List Message → Member
member_of head queue held =
    record {
      group = head.group;
      number = head.number;
      taken = head.taken;
      accepted = head.accepted;
      submitted = head.submitted;
      waiting = head.waiting;
      queue = queue;
      held = held;
    }

abbrev pub empty_handed : Head → Member
empty_handed head = member_of head [] []

-- a head in which all up to a number are accepted
abbrev pub accepting : Head → ℕ → Head
accepting head number =
    record {
      group = head.group;
      number = head.number;
      taken = head.taken;
      accepted = record { 0 = larger_of head.accepted.0 number };
      submitted = head.submitted;
      waiting = head.waiting;
    }

-- whether an answer to an offer of a number is confirmed, by a head and the counts of the places
unfoldable pub confirms_by : Head → List ℕ → ℕ → Answer → Bool
confirms_by head counts number answer =
    confirms answer and lowest_uncounted counts head.taken.0 (number - head.taken.0) =? 0 and is_in (expected_of head.group) head.number.0

-- a reading at this end: question 6 of byte 1, then 7
unfoldable pub read_ours : Group → Reading → Reading
read_ours group (Ok h) =
    ask from_elected group (content_of h) or Err Refusal.ForbiddenFields then
    ask h.group =? group.number or Err Refusal.OtherGroup then
    Ok h
read_ours group (Err refusal) = Err refusal

-- the request of a count and a payload, by a head and the counts of the places
unfoldable pub request_in : Head → List ℕ → ℕ → List ℕ → List ℕ
request_in head counts count payload =
    packet_of
    (fields_of head.group.number (Packet.Request head.number (record { 0 = smaller_of (row_counted counts head.taken.0 (smaller_of largest_number (head.taken.0 + held_most))) head.accepted.0 }) count))
    payload

-- a step that looks at the head and at the counts of the places alone, and leaves the state as it is
abbrev pub Tells : Head → List ℕ → (Member → Outcome) → Reply → List ℕ → List ℕ → Type 0
Tells head counts step r before after =
    (queue held : List Message) → Counted counts held → Replied (member_of head queue held) (step (member_of head queue held)) r before after

-- a step that leaves the state but for its head and the messages that are held, whatever waits
abbrev pub Hears : Head → List Message → Head → List Message → (Member → Outcome) → Reply → List ℕ → List ℕ → Type 0
Hears head held head' held' step r before after =
    (queue : List Message) → Replied (member_of head' queue held') (step (member_of head queue held)) r before after

-- a submission that no question refuses, whatever is held with those counts
abbrev pub Submits : Head → List ℕ → List Message → List Message → List ℕ → Done → List ℕ → List ℕ → Type 0
Submits head counts queue queue' payload r before after =
    (held : List Message) → Counted counts held
    → call_verdict (member_of head queue held) (length before) ≡ all_yes
    → submit_verdict (member_of head queue held) (length payload) ≡ all_yes
    → Replied (member_of r.head queue' held) (submit_of (member_of head queue held) payload (length before)) r.reply before after

-- a take of the following number, which is held
abbrev pub Hands : Head → List Message → List Message → Head → List Message → List Message → Reply → List ℕ → List ℕ → Type 0
Hands head queue held head' queue' held' reply before after =
    Replied (member_of head' queue' held') (took_of (member_of head queue held) (message_at held (head.taken.0 + 1))) reply before after
