-- The member's calls: each goes down its questions in their order, and then takes its step.
use Rattle.group.specs.Question.{all_yes}
use Rattle.std.specs.Prelude.{Ok, Err}
use Rattle.std.specs.Prelude.{Bool, true, false, List, [], ℕ, ◌+◌, ◌-◌, length, set}
use Rattle.group.specs.Choice.{when◌then◌else◌, ask◌or◌then◌, ◌and◌, ◌<?◌, ◌≤?◌, ◌=?◌}
use Rattle.group.specs.Limits.{held_most, waiting_most, payload_most, longest_packet, largest_number}
use Rattle.group.specs.Members.{is_in, expected_of}
use Rattle.group.specs.Opening.{description_of, open_of}
use Rattle.group.specs.Question.{judged}
use Rattle.group.specs.declared.MemberNumber.{MemberNumber}
use Rattle.group.specs.declared.SequenceNumber.{SequenceNumber}
use Rattle.group.specs.Opening.{Opened}
use Rattle.group.specs.declared.Refusal.{Refusal}
use Rattle.group.specs.Question.{Verdict}
use Rattle.message.specs.Message.{Message, message_of, empty_message, payload_of}
use Rattle.packet.specs.Packet.{content_of, fields_of, packet_of, payload_at, read_of, from_elected}
use Rattle.packet.specs.declared.Packet.{Packet}
use Rattle.packet.specs.Answers.{Reading}
use Rattle.member.specs.Sound.{sound_of}
use Rattle.window.specs.Places.{smaller_of, larger_of, place_of, message_at, is_held, queue_place, queued_at, lowest_missing}
use Rattle.member.specs.State.{Member, acknowledged_of, first_count, fresh_member}
use Rattle.member.specs.declared.Answer.{Answer}

-- what a call comes to: the state that it leaves, its answer, and the bytes that it lays at the front of the lent output
pub record Outcome : Type 0 where
  pub member : Member
  pub answer : Answer
  pub bytes : List ℕ

-- an answer that writes nothing
unfoldable pub answered : Member → Answer → Outcome
answered m answer = record { member = m; answer = answer; bytes = [] }

-- a no: the state is the same and nothing is written
abbrev pub refused : Member → Refusal → Outcome
refused m refusal = answered m (Answer.Refused refusal)

-- the first message that waits
abbrev pub first_waiting : Member → Message
first_waiting m = queued_at m.queue (first_count m)

-- the packets that a member writes: the request of the first that waits with its count and payload, a gap, a status
unfoldable pub request_packet : Member → List ℕ
request_packet m =
    packet_of (fields_of m.group.number (Packet.Request m.number (acknowledged_of m) (first_count m))) (payload_of (first_waiting m))

unfoldable pub gap_packet : Member → ℕ → ℕ → List ℕ
gap_packet m first last =
    packet_of (fields_of m.group.number (Packet.Gap m.number (acknowledged_of m) (record { 0 = first }) (record { 0 = last }))) []

unfoldable pub status_packet : Member → List ℕ
status_packet m = packet_of (fields_of m.group.number (Packet.Status m.number (acknowledged_of m))) []

-- and the confirmation of an offered number
unfoldable pub confirm_packet : Member → ℕ → List ℕ
confirm_packet m number = packet_of (fields_of m.group.number (Packet.Confirm m.number (record { 0 = number }))) []

-- questions 1 and 2, of every call
unfoldable pub call_verdict : Member → ℕ → Verdict
call_verdict m room =
    ask sound_of m or Err Refusal.UnsoundState then
    ask longest_packet ≤? room or Err Refusal.ShortOutput then
    all_yes

-- questions 13, 14 and 16 of a submission of `size` bytes
unfoldable pub submit_verdict : Member → ℕ → Verdict
submit_verdict m size =
    ask size ≤? payload_most or Err Refusal.LongPayload then
    ask m.waiting <? waiting_most or Err Refusal.AlreadyWaiting then
    ask m.submitted <? largest_number or Err Refusal.NumbersUsedUp then
    all_yes

-- u grows by 1, and the message waits behind those that do
unfoldable pub with_waiting : Member → List ℕ → Member
with_waiting m payload =
    record {
      group = m.group;
      number = m.number;
      taken = m.taken;
      accepted = m.accepted;
      submitted = m.submitted + 1;
      waiting = m.waiting + 1;
      queue = set m.queue (queue_place (m.submitted + 1)) (message_of m.number (m.submitted + 1) payload);
      held = m.held;
    }

-- submit: its request is written, or, behind one that waits, nothing
unfoldable pub submit_of : Member → List ℕ → ℕ → Outcome
submit_of m payload room =
    judged (call_verdict m room) (refused m)
    (judged (submit_verdict m (length payload)) (refused m)
    (when m.waiting =? 0
    then record { member = with_waiting m payload; answer = Answer.Sent; bytes = request_packet (with_waiting m payload) }
    else answered (with_waiting m payload) (Answer.Queued (m.submitted + 1))))

-- repeat: the request of the first that waits is written with what is acknowledged today. Question 15
unfoldable pub repeat_of : Member → ℕ → Outcome
repeat_of m room =
    judged (call_verdict m room) (refused m)
    (ask 1 ≤? m.waiting or refused m Refusal.NothingWaiting then
    record { member = m; answer = Answer.Sent; bytes = request_packet m })

-- status call: kind 4 with what is acknowledged
unfoldable pub status_of : Member → ℕ → Outcome
status_of m room =
    judged (call_verdict m room) (refused m)
    (record { member = m; answer = Answer.Sent; bytes = status_packet m })

-- all up to a number are accepted, also what comes later
unfoldable pub with_accepted : Member → ℕ → Member
with_accepted m number =
    record {
      group = m.group;
      number = m.number;
      taken = m.taken;
      accepted = record { 0 = larger_of m.accepted.0 number };
      submitted = m.submitted;
      waiting = m.waiting;
      queue = m.queue;
      held = m.held;
    }

-- a message kept under its number
unfoldable pub with_held : Member → ℕ → Message → Member
with_held m number message =
    record {
      group = m.group;
      number = m.number;
      taken = m.taken;
      accepted = m.accepted;
      submitted = m.submitted;
      waiting = m.waiting;
      queue = m.queue;
      held = set m.held (place_of number) message;
    }

-- where a number up to `last` is missing: `gapped`, with a gap packet from the lowest missing to `last`; else `whole`
unfoldable pub gap_up_to : Member → ℕ → Answer → Outcome → Outcome
gap_up_to m last gapped whole =
    when lowest_missing m.held m.taken.0 (last - m.taken.0) =? 0 then whole else
    record { member = m; answer = gapped; bytes = gap_packet m (lowest_missing m.held m.taken.0 (last - m.taken.0)) last }

-- a number that is neither taken nor held, up to t + 8: it is kept
unfoldable pub kept_of : Member → MemberNumber → ℕ → ℕ → List ℕ → Outcome
kept_of m originator number count payload =
    gap_up_to (with_held m number (message_of originator count payload)) (number - 1) Answer.KeptGap
    (answered (with_held m number (message_of originator count payload)) Answer.Kept)

-- message of a number. Floor is read and not yet acted on
unfoldable pub message_step : Member → MemberNumber → ℕ → ℕ → List ℕ → Outcome
message_step m originator number count payload =
    when number ≤? m.taken.0 then answered m Answer.Old else
    when number ≤? m.taken.0 + held_most
    then when is_held m.held number then answered m Answer.Old else kept_of m originator number count payload
    else gap_up_to m (m.taken.0 + held_most) Answer.BeyondGap (answered m Answer.Beyond)

-- broadcast of a number: it accepts all up to it
unfoldable pub broadcast_of : Member → MemberNumber → ℕ → ℕ → List ℕ → Outcome
broadcast_of m originator number count payload = message_step (with_accepted m number) originator number count payload

-- the answers that an offer is confirmed with
unfoldable pub confirms : Answer → Bool
confirms (Answer.Refused refusal) = false
confirms Answer.Sent = false
confirms (Answer.Queued count) = false
confirms Answer.Old = true
confirms Answer.Kept = true
confirms Answer.KeptGap = false
confirms Answer.Beyond = false
confirms Answer.BeyondGap = false
confirms Answer.Gap = false
confirms Answer.Status = false
confirms Answer.None = false
confirms Answer.Noted = false
confirms (Answer.Took number originator count more) = false

-- nothing up to a number is missing
abbrev pub none_missing : Member → ℕ → Bool
none_missing m number = lowest_missing m.held m.taken.0 (number - m.taken.0) =? 0

-- what an offer comes to, where the message came to `o`: an expected member confirms it, if it answers Kept or Old and nothing up to
-- its number is missing
unfoldable pub confirmed_of : Outcome → ℕ → Outcome
confirmed_of o number =
    when confirms o.answer and none_missing o.member number and is_in (expected_of o.member.group) o.member.number.0
    then record { member = o.member; answer = o.answer; bytes = confirm_packet o.member number }
    else o

-- offer of a number: it accepts nothing
unfoldable pub offer_of : Member → MemberNumber → ℕ → ℕ → List ℕ → Outcome
offer_of m originator number count payload = confirmed_of (message_step m originator number count payload) number

-- poll with top A: Gap up to the smaller of A and t + 8, else Status with kind 4
unfoldable pub poll_of : Member → SequenceNumber → Outcome
poll_of m top =
    gap_up_to m (smaller_of top.0 (m.taken.0 + held_most)) Answer.Gap
    (record { member = m; answer = Answer.Status; bytes = status_packet m })

-- what a packet of our group says: kinds 2, 5, 6 and 8 are for this end (question 8); byte 1 is below n (question 9), as the
-- elected member is; kinds 9 to 11 are for the terminal, both its ends
unfoldable pub content_step : Member → Packet → List ℕ → Outcome
content_step m (Packet.Request sender taken count) payload = refused m Refusal.OtherEnd
content_step m (Packet.Broadcast originator number count floor) payload =
    ask originator.0 <? m.group.n or refused m Refusal.UnknownMember then
    broadcast_of m originator number.0 count payload
content_step m (Packet.Gap sender taken first last) payload = refused m Refusal.OtherEnd
content_step m (Packet.Status sender taken) payload = refused m Refusal.OtherEnd
content_step m (Packet.Poll elected top floor) payload = poll_of m top
content_step m (Packet.Offer originator number count floor) payload =
    ask originator.0 <? m.group.n or refused m Refusal.UnknownMember then
    offer_of m originator number.0 count payload
content_step m (Packet.Confirm sender number) payload = refused m Refusal.OtherEnd
content_step m (Packet.Accept elected number) payload = answered (with_accepted m number.0) Answer.Noted
content_step m (Packet.Invitation sender attempt) payload = refused m Refusal.OtherEnd
content_step m (Packet.Reply sender attempt number) payload = refused m Refusal.OtherEnd
content_step m (Packet.Result sender attempt elected number) payload = refused m Refusal.OtherEnd

-- a packet that was read: question 6 of byte 1, then 7
unfoldable pub read_step : Member → Reading → List ℕ → Outcome
read_step m (Ok h) payload =
    ask from_elected m.group (content_of h) or refused m Refusal.ForbiddenFields then
    ask h.group =? m.group.number or refused m Refusal.OtherGroup then
    content_step m (content_of h) payload
read_step m (Err refusal) payload = refused m refusal

-- the call for packets
unfoldable pub receive_of : Member → List ℕ → ℕ → Outcome
receive_of m packet room = judged (call_verdict m room) (refused m) (read_step m (read_of packet) (payload_at packet))

-- whether a taken message is the member's own that waits first
unfoldable pub is_own : Member → Message → Bool
is_own m message =
    1 ≤? m.waiting
    and message.originator.0 =? m.number.0
    and message.count =? first_count m

-- t + 1 handed out: its place is cleared, t grows by 1, and if it is the member's own that waits first, it waits no more and the
-- next is first
unfoldable pub with_taken : Member → Message → Member
with_taken m message =
    record {
      group = m.group;
      number = m.number;
      taken = record { 0 = m.taken.0 + 1 };
      accepted = m.accepted;
      submitted = m.submitted;
      waiting = when is_own m message then m.waiting - 1 else m.waiting;
      queue = when is_own m message then set m.queue (queue_place (first_count m)) empty_message else m.queue;
      held = set m.held (place_of (m.taken.0 + 1)) empty_message;
    }

-- a number may be taken: it is held, and accepted
unfoldable pub is_ready : Member → ℕ → Bool
is_ready m number = is_held m.held number and number ≤? m.accepted.0

-- a message handed out: number, originator, count and payload, and whether the following number may be taken
unfoldable pub took_of : Member → Message → Outcome
took_of m message =
    record {
      member = with_taken m message;
      answer = Answer.Took (record { 0 = m.taken.0 + 1 }) message.originator message.count (is_ready m (m.taken.0 + 2));
      bytes = payload_of message;
    }

-- take: t + 1 if it is held and accepted, otherwise None, exactly then
unfoldable pub take_of : Member → ℕ → Outcome
take_of m room =
    judged (call_verdict m room) (refused m)
    (when is_ready m (m.taken.0 + 1) then took_of m (message_at m.held (m.taken.0 + 1)) else
    answered m Answer.None)

-- what opening comes to: the state that it leaves, and its verdict
pub record Opening : Type 0 where
  pub member : Member
  pub verdict : Verdict

-- opening: question 18, n 1 to 16 and the member number below n, then 24. Where it is refused, the state is all zero
abbrev pub not_opened : Refusal → Opening
not_opened refusal = record { member = fresh_member (description_of 0 0 0) (record { 0 = 0 }); verdict = Err refusal }

unfoldable pub opened_of : Opened → MemberNumber → Opening
opened_of (Ok group) number = record { member = fresh_member group number; verdict = all_yes }
opened_of (Err refusal) number = not_opened refusal

unfoldable pub fresh_of : ℕ → MemberNumber → ℕ → ℕ → Opening
fresh_of n number group resilience =
    ask number.0 <? n or not_opened Refusal.Opening then
    opened_of (open_of n group resilience) number
