-- The sequencer's calls: each goes down its questions in their order, and then takes its step.
use Rattle.group.specs.Question.{all_yes}
use Rattle.std.specs.Prelude.{Ok, Err}
use Rattle.std.specs.Prelude.{List, [], ℕ, ◌+◌, ◌-◌, set}
use Rattle.group.specs.Choice.{when◌then◌else◌, ask◌or◌then◌, ◌and◌, ◌<?◌, ◌≤?◌, ◌=?◌}
use Rattle.group.specs.Limits.{places_most, longest_packet}
use Rattle.group.specs.Members.{needed_of}
use Rattle.group.specs.Opening.{description_of, open_of}
use Rattle.group.specs.Question.{judged}
use Rattle.group.specs.declared.MemberNumber.{MemberNumber}
use Rattle.group.specs.declared.SequenceNumber.{SequenceNumber}
use Rattle.group.specs.Opening.{Opened}
use Rattle.group.specs.declared.Refusal.{Refusal}
use Rattle.group.specs.declared.Refusal.TheVariants.{UnsoundState, ShortOutput, ForbiddenFields, OtherGroup, OtherEnd, NotInHistory}
use Rattle.group.specs.Question.{Verdict}
use Rattle.message.specs.Message.{message_of, payload_of}
use Rattle.packet.specs.Packet.{content_of, fields_of, packet_of, payload_at, read_of, from_elected}
use Rattle.packet.specs.declared.Packet.{Packet}
use Rattle.packet.specs.declared.Packet.TheVariants.{Request, Broadcast, Gap, Status, Poll, Offer, Confirm, Accept, Invitation, Result}
use Rattle.packet.specs.Answers.{Reading}
use Rattle.history.specs.Note.{larger_of, with_counts}
use Rattle.history.specs.State.{acknowledgement_of, place_of, message_at}
use Rattle.history.specs.Repeat.{one_more, find_of}
use Rattle.history.specs.Ask.{sender_verdict, count_verdict, wanted_verdict, expected_verdict}
use Rattle.history.specs.Marks.{marked_of, enough_of, unmarked_of}
use Rattle.sequencer.specs.Note.{note_of}
use Rattle.sequencer.specs.Sound.{sound_of}
use Rattle.sequencer.specs.State.{Sequencer, last_count, repeat_count, fresh_sequencer}
use Rattle.sequencer.specs.declared.Answer.{Answer}
use Rattle.sequencer.specs.declared.Answer.TheVariants.{Old, Again, Full, Numbered, Noted, Wanted, Sent, Marked}

-- what a call comes to: the state that it leaves, its answer, and the bytes that it lays at the front of the lent output
pub record Outcome : Type 0 where
  pub sequencer : Sequencer
  pub answer : Answer
  pub bytes : List ℕ

-- an answer that writes nothing
unfoldable pub answered : Sequencer → Answer → Outcome
answered s answer = record { sequencer = s; answer = answer; bytes = [] }

-- a no: the state is the same and nothing is written
abbrev pub refused : Sequencer → Refusal → Outcome
refused s refusal = answered s (Answer.Refused refusal)

-- a message goes out as a broadcast if its number is accepted, else as an offer, with the same fields
unfoldable pub announced : SequenceNumber → MemberNumber → SequenceNumber → ℕ → SequenceNumber → Packet
announced accepted originator number count floor =
    when number.0 ≤? accepted.0 then Broadcast originator number count floor else
    Offer originator number count floor

-- the packet of a number, with today's floor
unfoldable pub broadcast_of : Sequencer → ℕ → List ℕ
broadcast_of s number =
    packet_of
    (fields_of s.group.number
    (announced s.accepted (message_at s.history number).originator (record { 0 = number }) (message_at s.history number).count s.floor))
    (payload_of (message_at s.history number))

-- the poll packet
unfoldable pub poll_packet : Sequencer → List ℕ
poll_packet s = packet_of (fields_of s.group.number (Poll s.group.elected s.top s.floor)) []

-- the packet that accepts all up to the last accepted number
unfoldable pub accept_packet : Sequencer → List ℕ
accept_packet s = packet_of (fields_of s.group.number (Accept s.group.elected s.accepted)) []

-- m repeated itself: one more in its repeat count
unfoldable pub repeated_of : Sequencer → MemberNumber → Sequencer
repeated_of s m =
    record {
      group = s.group;
      acknowledgements =
          set s.acknowledgements m.0 (with_counts (acknowledgement_of s.acknowledgements m) (last_count s m) (one_more (repeat_count s m)));
      top = s.top;
      accepted = s.accepted;
      floor = s.floor;
      history = s.history;
      marks = s.marks;
    }

-- Old
unfoldable pub old_of : Sequencer → MemberNumber → Outcome
old_of s m = answered (repeated_of s m) Old

-- the last count again: Old if no history message has it, else Again with its packet
unfoldable pub again_of : Sequencer → MemberNumber → ℕ → Outcome
again_of s m number =
    when number =? 0 then old_of s m else
    record { sequencer = repeated_of s m; answer = Again (record { 0 = number }); bytes = broadcast_of s number }

-- Full, with a poll packet; nothing but the noting changes
unfoldable pub full_of : Sequencer → Outcome
full_of s = record { sequencer = s; answer = Full; bytes = poll_packet s }

-- a message numbered: top grows by 1, the message is kept, its originator's last count becomes its count; where none has to confirm
-- it, it is accepted
unfoldable pub with_message : Sequencer → MemberNumber → ℕ → List ℕ → Sequencer
with_message s m count payload =
    record {
      group = s.group;
      acknowledgements = set s.acknowledgements m.0 (with_counts (acknowledgement_of s.acknowledgements m) count (repeat_count s m));
      top = record { 0 = s.top.0 + 1 };
      accepted = when needed_of s.group =? 0 then record { 0 = s.top.0 + 1 } else s.accepted;
      floor = s.floor;
      history = set s.history (place_of (s.top.0 + 1)) (message_of m count payload);
      marks = s.marks;
    }

-- Numbered, with its packet
unfoldable pub numbered_of : Sequencer → MemberNumber → ℕ → List ℕ → Outcome
numbered_of s m count payload =
    record {
      sequencer = with_message s m count payload;
      answer = Numbered (record { 0 = s.top.0 + 1 });
      bytes = broadcast_of (with_message s m count payload) (s.top.0 + 1);
    }

-- request with a count from m, once A is noted
unfoldable pub request_of : Sequencer → MemberNumber → ℕ → List ℕ → Outcome
request_of s m count payload =
    when count <? last_count s m then old_of s m else
    when count =? last_count s m then again_of s m (find_of s.history m count s.floor.0 (s.top.0 - s.floor.0)) else
    when s.top.0 - s.floor.0 =? places_most then full_of s else
    numbered_of s m count payload

-- gap, once A is noted: Noted if C ≤ floor, else Wanted, from the larger of B and floor + 1, to C
unfoldable pub gap_of : Sequencer → SequenceNumber → SequenceNumber → Outcome
gap_of s first last =
    when last.0 ≤? s.floor.0 then answered s Noted else
    answered s (Wanted (record { 0 = larger_of first.0 (s.floor.0 + 1) }) last)

-- m confirmed all unaccepted numbers up to A
unfoldable pub with_mark : Sequencer → MemberNumber → SequenceNumber → Sequencer
with_mark s m number =
    record {
      group = s.group;
      acknowledgements = s.acknowledgements;
      top = s.top;
      accepted = s.accepted;
      floor = s.floor;
      history = s.history;
      marks = marked_of s.marks m s.accepted.0 (number.0 - s.accepted.0);
    }

-- all up to a number are accepted, and their marks cleared
unfoldable pub with_accepted : Sequencer → ℕ → Sequencer
with_accepted s number =
    record {
      group = s.group;
      acknowledgements = s.acknowledgements;
      top = s.top;
      accepted = record { 0 = number };
      floor = s.floor;
      history = s.history;
      marks = unmarked_of s.marks s.accepted.0 (number - s.accepted.0);
    }

-- the highest unaccepted number with enough marks; 0: there is none
abbrev pub enough_in : Sequencer → ℕ
enough_in s = enough_of s.marks (needed_of s.group) s.accepted.0 (s.top.0 - s.accepted.0)

-- Accepted, with the packet that says so, if there is such a number; else Marked
unfoldable pub settled_of : Sequencer → ℕ → Outcome
settled_of s number =
    when number =? 0 then answered s Marked else
    record { sequencer = with_accepted s number; answer = Answer.Accepted; bytes = accept_packet (with_accepted s number) }

-- confirmation of A from m: Old for an accepted number; else m's marks are set, and then it may be accepted
unfoldable pub confirm_of : Sequencer → MemberNumber → SequenceNumber → Outcome
confirm_of s m number =
    when number.0 ≤? s.accepted.0 then answered s Old else
    settled_of (with_mark s m number) (enough_in (with_mark s m number))

-- what a packet of our group says: kinds 1, 3, 4 and 7 are for this end (question 8); each is asked its questions; then of kinds 1, 3
-- and 4 A is noted
unfoldable pub content_step : Sequencer → Packet → List ℕ → Outcome
content_step s (Request sender taken count) payload =
    judged (sender_verdict s.group.survivors s.accepted.0 sender taken) (refused s)
    (judged (count_verdict (last_count s sender) s.top.0 count) (refused s)
    (request_of (note_of s sender taken) sender count payload))
content_step s (Broadcast originator number count floor) payload = refused s OtherEnd
content_step s (Gap sender taken first last) payload =
    judged (sender_verdict s.group.survivors s.accepted.0 sender taken) (refused s)
    (judged (wanted_verdict s.top.0 last) (refused s)
    (gap_of (note_of s sender taken) first last))
content_step s (Status sender taken) payload =
    judged (sender_verdict s.group.survivors s.accepted.0 sender taken) (refused s)
    (answered (note_of s sender taken) Noted)
content_step s (Poll elected top floor) payload = refused s OtherEnd
content_step s (Offer originator number count floor) payload = refused s OtherEnd
content_step s (Confirm sender number) payload =
    judged (sender_verdict s.group.survivors s.top.0 sender number) (refused s)
    (judged (expected_verdict s.group s.accepted.0 sender number) (refused s)
    (confirm_of s sender number))
content_step s (Accept elected number) payload = refused s OtherEnd
content_step s (Invitation sender attempt) payload = refused s OtherEnd
content_step s (Packet.Reply sender attempt number) payload = refused s OtherEnd
content_step s (Result sender attempt elected number) payload = refused s OtherEnd

-- a packet that was read: question 6 of byte 1, then 7
unfoldable pub read_step : Sequencer → Reading → List ℕ → Outcome
read_step s (Ok h) payload =
    ask from_elected s.group (content_of h) or refused s ForbiddenFields then
    ask h.group =? s.group.number or refused s OtherGroup then
    content_step s (content_of h) payload
read_step s (Err refusal) payload = refused s refusal

-- questions 1 and 2, of every call
unfoldable pub call_verdict : Sequencer → ℕ → Verdict
call_verdict s room =
    ask sound_of s or Err UnsoundState then
    ask longest_packet ≤? room or Err ShortOutput then
    all_yes

-- the call for packets
unfoldable pub receive_of : Sequencer → List ℕ → ℕ → Outcome
receive_of s packet room = judged (call_verdict s room) (refused s) (read_step s (read_of packet) (payload_at packet))

-- the poll call: the poll packet
unfoldable pub poll_of : Sequencer → ℕ → Outcome
poll_of s room = judged (call_verdict s room) (refused s) (record { sequencer = s; answer = Sent; bytes = poll_packet s })

-- the copy call for a number: its packet, with today's floor. Question 17
unfoldable pub copy_of : Sequencer → SequenceNumber → ℕ → Outcome
copy_of s number room =
    judged (call_verdict s room) (refused s)
    (ask s.floor.0 <? number.0 and number.0 ≤? s.top.0 or refused s NotInHistory then
    record { sequencer = s; answer = Sent; bytes = broadcast_of s number.0 })

-- what opening comes to
pub record Opening : Type 0 where
  pub sequencer : Sequencer
  pub verdict : Verdict

-- opening: questions 18 and 24. Where it is refused, the state is all zero
unfoldable pub opened_of : Opened → Opening
opened_of (Ok group) = record { sequencer = fresh_sequencer group; verdict = all_yes }
opened_of (Err refusal) =
    record { sequencer = fresh_sequencer (description_of 0 0 0); verdict = Err refusal }

unfoldable pub fresh_of : ℕ → ℕ → ℕ → Opening
fresh_of n number resilience = opened_of (open_of n number resilience)
