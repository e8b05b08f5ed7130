-- What the functions below the call for packets work out: what a packet that is accepted changes, once A is noted.
use Rattle.std.specs.Prelude.{Ok, Err, Option, Some, None}
use Rattle.std.specs.Prelude.{List, [], ℕ, ◌+◌, ◌-◌, set}
use Rattle.group.specs.Choice.{when◌then◌else◌, ◌<?◌, ◌≤?◌, ◌=?◌}
use Rattle.group.specs.Limits.{places_most}
use Rattle.group.specs.Question.{judged}
use Rattle.group.specs.declared.Group.{Group}
use Rattle.group.specs.declared.MemberNumber.{MemberNumber}
use Rattle.group.specs.declared.SequenceNumber.{SequenceNumber}
use Rattle.message.specs.Message.{Message, message_of, payload_of}
use Rattle.packet.specs.Packet.{content_of, fields_of, packet_of}
use Rattle.packet.specs.declared.Packet.{Packet}
use Rattle.packet.specs.declared.Packet.TheVariants.{Request, Broadcast, Gap, Status, Poll, Offer, Confirm, Accept, Invitation, Result}
use Rattle.packet.specs.Answers.{Reading}
use Rattle.history.specs.Ask.{packet_verdict}
use Rattle.history.specs.Note.{larger_of, with_counts}
use Rattle.history.specs.Repeat.{one_more, find_of}
use Rattle.history.specs.State.{Acknowledgement, acknowledgement_of, place_of, message_at}
use Rattle.sequencer.specs.Calls.{Outcome, answered, announced, request_of, gap_of, confirm_of}
use Rattle.sequencer.specs.Note.{note_of}
use Rattle.sequencer.specs.declared.Answer.{Answer}
use Rattle.sequencer.specs.declared.Answer.TheVariants.{Old, Again, Full, Numbered, Noted, Wanted, Sent, Marked}
use Rattle.sequencer.specs.declared.Change.{Change}
use Rattle.sequencer.specs.Decided.{Decided}
use Rattle.sequencer.specs.declared.Decision.{Decision}
use Rattle.sequencer.specs.declared.Decision.TheVariants.{Mark, Note}
use Rattle.sequencer.specs.State.{Sequencer}

-- what is done with a packet that no question refuses; of the kinds for the other end none is left
unfoldable pub accepted_step : Sequencer → Packet → List ℕ → Outcome
accepted_step s (Request sender taken count) payload = request_of (note_of s sender taken) sender count payload
accepted_step s (Broadcast originator number count floor) payload = answered s Noted
accepted_step s (Gap sender taken first last) payload = gap_of (note_of s sender taken) first last
accepted_step s (Status sender taken) payload = answered (note_of s sender taken) Noted
accepted_step s (Poll elected top floor) payload = answered s Noted
accepted_step s (Offer originator number count floor) payload = answered s Noted
accepted_step s (Confirm sender number) payload = confirm_of s sender number
accepted_step s (Accept elected number) payload = answered s Noted
accepted_step s (Invitation sender attempt) payload = answered s Noted
accepted_step s (Packet.Reply sender attempt number) payload = answered s Noted
accepted_step s (Result sender attempt elected number) payload = answered s Noted

-- who confirms which number in a packet, if it is a confirmation
unfoldable pub confirmation_of : Packet → Option (MemberNumber × SequenceNumber)
confirmation_of (Request sender taken count) = None
confirmation_of (Broadcast originator number count floor) = None
confirmation_of (Gap sender taken first last) = None
confirmation_of (Status sender taken) = None
confirmation_of (Poll elected top floor) = None
confirmation_of (Offer originator number count floor) = None
confirmation_of (Confirm sender number) = Some (sender, number)
confirmation_of (Accept elected number) = None
confirmation_of (Invitation sender attempt) = None
confirmation_of (Packet.Reply sender attempt number) = None
confirmation_of (Result sender attempt elected number) = None

-- what becomes of a packet that no question refuses
unfoldable pub sorted_by : Option (MemberNumber × SequenceNumber) → Packet → Decision
sorted_by None packet = Note packet
sorted_by (Some (member, number)) packet = Mark member number

-- what is refused of a packet, or what becomes of it once it was read: its questions, in a group with a table of acknowledgements, and then whether it confirms
unfoldable pub decision_of : Group → List Acknowledgement → SequenceNumber → SequenceNumber → Reading → Decided
decision_of group table accepted top (Ok h) =
    judged (packet_verdict group table accepted.0 top.0 h.group (content_of h)) Err
    (Ok (sorted_by (confirmation_of (content_of h)) (content_of h)))
decision_of group table accepted top (Err refusal) = Err refusal

-- a change of the sender's repeat count at most
abbrev pub quiet : ℕ → SequenceNumber → SequenceNumber → ℕ → Answer → Change
quiet last top accepted repeats answer = record { number = top; top = top; accepted = accepted; count = last; repeats = repeats; answer = answer }

-- what the last count changes, where its message was looked for
unfoldable pub again_change : ℕ → ℕ → SequenceNumber → SequenceNumber → ℕ → Change
again_change number last top accepted repeats =
    when number =? 0 then quiet last top accepted (one_more repeats) Old else
    record {
      number = record { 0 = number };
      top = top;
      accepted = accepted;
      count = last;
      repeats = one_more repeats;
      answer = Again (record { 0 = number });
    }

-- what a request changes, with a count from a member whose last count is `last` and whose repeat count is `repeats`, where `needed`
-- members have to confirm a message
unfoldable pub request_change : List Message → MemberNumber → ℕ → ℕ → ℕ → SequenceNumber → SequenceNumber → ℕ → ℕ → Change
request_change history m count last floor top accepted needed repeats =
    when count <? last then quiet last top accepted (one_more repeats) Old else
    when count =? last then again_change (find_of history m count floor (top.0 - floor)) last top accepted repeats else
    when top.0 - floor =? places_most then quiet last top accepted repeats Full else
    record {
      number = record { 0 = top.0 + 1 };
      top = record { 0 = top.0 + 1 };
      accepted = when needed =? 0 then record { 0 = top.0 + 1 } else accepted;
      count = count;
      repeats = repeats;
      answer = Numbered (record { 0 = top.0 + 1 });
    }

-- what a gap is answered
unfoldable pub gap_answer : ℕ → SequenceNumber → SequenceNumber → Answer
gap_answer floor first last =
    when last.0 ≤? floor then Noted else
    Wanted (record { 0 = larger_of first.0 (floor + 1) }) last

-- what a packet that confirms nothing changes
unfoldable pub change_of : List Message → Packet → ℕ → ℕ → SequenceNumber → SequenceNumber → ℕ → ℕ → Change
change_of history (Request sender taken count) last floor top accepted needed repeats =
    request_change history sender count last floor top accepted needed repeats
change_of history (Broadcast originator number count f) last floor top accepted needed repeats = quiet last top accepted repeats Noted
change_of history (Gap sender taken first to) last floor top accepted needed repeats = quiet last top accepted repeats (gap_answer floor first to)
change_of history (Status sender taken) last floor top accepted needed repeats = quiet last top accepted repeats Noted
change_of history (Poll elected t f) last floor top accepted needed repeats = quiet last top accepted repeats Noted
change_of history (Offer originator number count f) last floor top accepted needed repeats = quiet last top accepted repeats Noted
change_of history (Confirm sender number) last floor top accepted needed repeats = quiet last top accepted repeats Noted
change_of history (Accept elected number) last floor top accepted needed repeats = quiet last top accepted repeats Noted
change_of history (Invitation sender attempt) last floor top accepted needed repeats = quiet last top accepted repeats Noted
change_of history (Packet.Reply sender attempt number) last floor top accepted needed repeats = quiet last top accepted repeats Noted
change_of history (Result sender attempt elected number) last floor top accepted needed repeats = quiet last top accepted repeats Noted

-- what is written with an answer to a packet that confirms nothing
unfoldable pub sent_of : Answer → Group → SequenceNumber → SequenceNumber → SequenceNumber → Message → List ℕ
sent_of (Answer.Refused refusal) group top accepted floor m = []
sent_of Old group top accepted floor m = []
sent_of (Again number) group top accepted floor m =
    packet_of (fields_of group.number (announced accepted m.originator number m.count floor)) (payload_of m)
sent_of Full group top accepted floor m = packet_of (fields_of group.number (Poll group.elected top floor)) []
sent_of (Numbered number) group top accepted floor m =
    packet_of (fields_of group.number (announced accepted m.originator number m.count floor)) (payload_of m)
sent_of Noted group top accepted floor m = []
sent_of (Wanted first last) group top accepted floor m = []
sent_of Sent group top accepted floor m = []
sent_of Marked group top accepted floor m = []
sent_of Answer.Accepted group top accepted floor m = []

-- what is laid in the place of a change's number: what lies there, or the message that is numbered
unfoldable pub laid_of : Sequencer → MemberNumber → Change → List ℕ → Message
laid_of s m change payload =
    when change.number.0 ≤? s.top.0 then message_at s.history change.number.0 else
    message_of m change.count payload

-- a noted state with what a packet of m changes
unfoldable pub changed : Sequencer → MemberNumber → Change → Message → Sequencer
changed s m change message =
    record {
      group = s.group;
      acknowledgements = set s.acknowledgements m.0 (with_counts (acknowledgement_of s.acknowledgements m) change.count change.repeats);
      top = change.top;
      accepted = change.accepted;
      floor = s.floor;
      history = set s.history (place_of change.number.0) message;
      marks = s.marks;
    }
