-- The questions that a packet meets at the sequencer: 6 of its sender, 7 to 12, 25, and 16.
use Rattle.group.specs.Question.{all_yes}
use Rattle.std.specs.Prelude.{Err}
use Rattle.std.specs.Prelude.{true, List, ℕ, ◌+◌}
use Rattle.group.specs.Choice.{when◌then◌else◌, ask◌or◌then◌, ◌≤?◌, ◌<?◌, ◌=?◌}
use Rattle.group.specs.Limits.{largest_number}
use Rattle.group.specs.Members.{is_in, expected_of}
use Rattle.group.specs.Question.{judged}
use Rattle.group.specs.declared.Group.{Group}
use Rattle.group.specs.declared.MemberNumber.{MemberNumber}
use Rattle.group.specs.declared.Refusal.TheVariants.{ForbiddenFields, OtherGroup, OtherEnd, UnknownMember, AcknowledgedAhead, CountAhead, WantedAhead, NumbersUsedUp, NotExpected}
use Rattle.group.specs.declared.SequenceNumber.{SequenceNumber}
use Rattle.group.specs.Question.{Verdict}
use Rattle.packet.specs.Packet.{from_elected}
use Rattle.packet.specs.declared.Packet.{Packet}
use Rattle.packet.specs.declared.Packet.TheVariants.{Request, Broadcast, Gap, Status, Poll, Offer, Confirm, Accept, Invitation, Reply, Result}
use Rattle.history.specs.State.{Acknowledgement, acknowledgement_of}
use Rattle.history.specs.declared.Sender.{Sender}

-- questions 9 and 10 of a sender, which is a survivor, and its number A, which is at most `most`
unfoldable pub sender_verdict : ℕ → ℕ → MemberNumber → SequenceNumber → Verdict
sender_verdict survivors most sender a =
    ask is_in survivors sender.0 or Err UnknownMember then
    ask a.0 ≤? most or Err AcknowledgedAhead then
    all_yes

-- questions 11 and 16 of a request's count: it is at most p + 1, and if it is p + 1 a next number is left
unfoldable pub count_verdict : ℕ → ℕ → ℕ → Verdict
count_verdict last top count =
    ask count ≤? last + 1 or Err CountAhead then
    ask (when count ≤? last then true else top <? largest_number) or Err NumbersUsedUp then
    all_yes

-- question 12 of a gap
unfoldable pub wanted_verdict : ℕ → SequenceNumber → Verdict
wanted_verdict top last = ask last.0 ≤? top or Err WantedAhead then all_yes

-- question 25 of a confirmation: its number is accepted, or its sender is expected
unfoldable pub expected_verdict : Group → ℕ → MemberNumber → SequenceNumber → Verdict
expected_verdict group accepted sender number =
    ask (when number.0 ≤? accepted then true else is_in (expected_of group) sender.0) or Err NotExpected then all_yes

-- those of a request
unfoldable pub request_verdict : ℕ → List Acknowledgement → ℕ → ℕ → MemberNumber → SequenceNumber → ℕ → Verdict
request_verdict survivors table accepted top sender taken count =
    judged (sender_verdict survivors accepted sender taken) Err (count_verdict (acknowledgement_of table sender).count top count)

-- those of a gap
unfoldable pub gap_verdict : ℕ → ℕ → ℕ → MemberNumber → SequenceNumber → SequenceNumber → Verdict
gap_verdict survivors accepted top sender taken last = judged (sender_verdict survivors accepted sender taken) Err (wanted_verdict top last)

-- those of a confirmation
unfoldable pub confirm_verdict : Group → ℕ → ℕ → MemberNumber → SequenceNumber → Verdict
confirm_verdict group accepted top sender number =
    judged (sender_verdict group.survivors top sender number) Err (expected_verdict group accepted sender number)

-- those of what a packet says: kinds 1, 3, 4 and 7 are for the sequencer (question 8)
unfoldable pub content_verdict : Group → List Acknowledgement → ℕ → ℕ → Packet → Verdict
content_verdict group table accepted top (Request sender taken count) = request_verdict group.survivors table accepted top sender taken count
content_verdict group table accepted top (Broadcast originator number count floor) = Err OtherEnd
content_verdict group table accepted top (Gap sender taken first last) = gap_verdict group.survivors accepted top sender taken last
content_verdict group table accepted top (Status sender taken) = sender_verdict group.survivors accepted sender taken
content_verdict group table accepted top (Poll elected p floor) = Err OtherEnd
content_verdict group table accepted top (Offer originator number count floor) = Err OtherEnd
content_verdict group table accepted top (Confirm sender number) = confirm_verdict group accepted top sender number
content_verdict group table accepted top (Accept elected number) = Err OtherEnd
content_verdict group table accepted top (Invitation sender attempt) = Err OtherEnd
content_verdict group table accepted top (Reply sender attempt number) = Err OtherEnd
content_verdict group table accepted top (Result sender attempt elected number) = Err OtherEnd

-- and before them question 6, that the elected member sent it where only that one may, and 7, of a packet from the group of that number
unfoldable pub packet_verdict : Group → List Acknowledgement → ℕ → ℕ → ℕ → Packet → Verdict
packet_verdict group table accepted top number packet =
    ask from_elected group packet or Err ForbiddenFields then
    ask number =? group.number or Err OtherGroup then
    content_verdict group table accepted top packet

-- who sent a packet for the sequencer, and the number that it acknowledges; a confirmation acknowledges nothing
unfoldable pub sender_of : Packet → Sender
sender_of (Request sender taken count) = record { member = sender; taken = taken }
sender_of (Broadcast originator number count floor) = record { member = record { 0 = 0 }; taken = record { 0 = 0 } }
sender_of (Gap sender taken first last) = record { member = sender; taken = taken }
sender_of (Status sender taken) = record { member = sender; taken = taken }
sender_of (Poll elected top floor) = record { member = record { 0 = 0 }; taken = record { 0 = 0 } }
sender_of (Offer originator number count floor) = record { member = record { 0 = 0 }; taken = record { 0 = 0 } }
sender_of (Confirm sender number) = record { member = sender; taken = record { 0 = 0 } }
sender_of (Accept elected number) = record { member = record { 0 = 0 }; taken = record { 0 = 0 } }
sender_of (Invitation sender attempt) = record { member = record { 0 = 0 }; taken = record { 0 = 0 } }
sender_of (Reply sender attempt number) = record { member = record { 0 = 0 }; taken = record { 0 = 0 } }
sender_of (Result sender attempt elected number) = record { member = record { 0 = 0 }; taken = record { 0 = 0 } }
