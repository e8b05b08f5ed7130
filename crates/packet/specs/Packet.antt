-- Packets: 20 bytes of header and then L payload bytes. Byte 0 is the kind, byte 1 a member number, bytes 2-3 L,
-- bytes 4-7 the group number, then A (8-11), B (12-15), C (16-19). Numbers are big-endian.
use Rattle.group.specs.Question.{all_yes}
use Rattle.std.specs.Prelude.{Ok, Err}
use Rattle.std.specs.Prelude.{Bool, true, List, [], ◌∷◌, ◌++◌, ℕ, ◌+◌, ◌-◌, ◌<◌, ◌≤◌, length, get_or, drop}
use Rattle.group.specs.Choice.{when◌then◌else◌, ask◌or◌then◌, ◌and◌, ◌<?◌, ◌≤?◌, ◌=?◌}
use Rattle.group.specs.Limits.{header_size, payload_most, longest_packet}
use Rattle.group.specs.Members.{is_in}
use Rattle.group.specs.Question.{judged}
use Rattle.group.specs.declared.Group.{Group}
use Rattle.group.specs.declared.Refusal.TheVariants.{ShortOutput, PacketSize, UnknownKind, PayloadLength, ForbiddenFields, LongPayload}
use Rattle.group.specs.Question.{Verdict}
use Rattle.big_endian.specs.Number.{number_at, bytes_of}
use Rattle.packet.specs.declared.Header.{Header}
use Rattle.packet.specs.declared.Packet.{Packet}
use Rattle.packet.specs.declared.Packet.TheVariants.{Request, Broadcast, Gap, Status, Poll, Offer, Confirm, Accept, Invitation, Reply, Result}
use Rattle.packet.specs.Answers.{Reading}
use Rattle.packet.specs.Answers.{Writing}

-- the kinds
abbrev pub request_kind : ℕ
request_kind = 1

abbrev pub broadcast_kind : ℕ
broadcast_kind = 2

abbrev pub gap_kind : ℕ
gap_kind = 3

abbrev pub status_kind : ℕ
status_kind = 4

abbrev pub poll_kind : ℕ
poll_kind = 5

abbrev pub offer_kind : ℕ
offer_kind = 6

abbrev pub confirm_kind : ℕ
confirm_kind = 7

abbrev pub accept_kind : ℕ
accept_kind = 8

abbrev pub invitation_kind : ℕ
invitation_kind = 9

abbrev pub reply_kind : ℕ
reply_kind = 10

abbrev pub result_kind : ℕ
result_kind = 11

-- the fields that stand in the first 20 bytes, but for L
unfoldable pub header_of : List ℕ → Header
header_of p =
    record {
      kind = get_or p 0 0;
      member = record { 0 = get_or p 1 0 };
      group = number_at 4 p 4;
      a = number_at 4 p 8;
      b = number_at 4 p 12;
      c = number_at 4 p 16;
    }

-- L
abbrev pub length_at : List ℕ → ℕ
length_at p = number_at 2 p 2

-- the payload is the stretch of the packet behind its header
abbrev pub payload_at : List ℕ → List ℕ
payload_at p = drop header_size p

-- the survivors of a result are its payload, bit i set for survivor i: a number of two bytes
abbrev pub survivors_size : ℕ
survivors_size = 2

abbrev pub survivors_in : List ℕ → ℕ
survivors_in payload = number_at survivors_size payload 0

-- the kinds are 1 to 11
unfoldable pub known_kind : ℕ → Bool
known_kind kind = request_kind ≤? kind and kind ≤? result_kind

-- the payload is L bytes long, L is 2 in kind 11, and zero in kinds 3, 4, 5 and 7 to 10
unfoldable pub payload_fits : ℕ → ℕ → ℕ → Bool
payload_fits kind l size =
    size =? l
    and (when kind <? gap_kind then true else
    when kind =? offer_kind then true else
    when kind =? result_kind then l =? survivors_size else
    l =? 0)

-- of a message's packet A and B are at least 1 and C is below A
abbrev pub message_obeys : Header → Bool
message_obeys h = 1 ≤? h.a and 1 ≤? h.b and h.c <? h.a

-- do A, B, C obey the kind? A request has a count from 1 and C zero; a broadcast and an offer are a message's; of a gap A < B ≤ C; of a
-- status B and C are zero; of a poll B is zero and C ≤ A; of a confirmation and of an acceptance A is at least 1, B and C are zero; of an
-- invitation B and C are zero, of a reply C is; of a result the sender and B are among the survivors that its payload names
unfoldable pub obeys : Header → List ℕ → Bool
obeys h payload =
    when h.kind =? request_kind then 1 ≤? h.b and h.c =? 0 else
    when h.kind =? broadcast_kind then message_obeys h else
    when h.kind =? gap_kind then h.a <? h.b and h.b ≤? h.c else
    when h.kind =? status_kind then h.b =? 0 and h.c =? 0 else
    when h.kind =? poll_kind then h.b =? 0 and h.c ≤? h.a else
    when h.kind =? offer_kind then message_obeys h else
    when h.kind =? confirm_kind then 1 ≤? h.a and h.b =? 0 and h.c =? 0 else
    when h.kind =? accept_kind then 1 ≤? h.a and h.b =? 0 and h.c =? 0 else
    when h.kind =? invitation_kind then h.b =? 0 and h.c =? 0 else
    when h.kind =? reply_kind then h.c =? 0 else
    (is_in (survivors_in payload) h.member.0 and is_in (survivors_in payload) h.b)

-- questions 4, 5 and 6 of fields and L before a payload
unfoldable pub fields_verdict : Header → ℕ → List ℕ → Verdict
fields_verdict h l payload =
    ask known_kind h.kind or Err UnknownKind then
    ask payload_fits h.kind l (length payload) or Err PayloadLength then
    ask obeys h payload or Err ForbiddenFields then
    all_yes

-- reading a packet: question 3, then 4 to 6
unfoldable pub read_of : List ℕ → Reading
read_of p =
    ask header_size ≤? length p and length p ≤? longest_packet or Err PacketSize then
    judged (fields_verdict (header_of p) (length_at p) (payload_at p)) Err (Ok (header_of p))

-- the 20 bytes of fields and L
unfoldable pub header_bytes : Header → ℕ → List ℕ
header_bytes h l =
    h.kind ∷ h.member.0 ∷ (bytes_of 2 l ++ (bytes_of 4 h.group ++ (bytes_of 4 h.a ++ (bytes_of 4 h.b ++ bytes_of 4 h.c))))

-- the packet of fields and a payload, whose length is L
unfoldable pub packet_of : Header → List ℕ → List ℕ
packet_of h payload = header_bytes h (length payload) ++ payload

-- writing a packet from its fields: questions 2, 4, 5, 6 and 13. L is the payload's length, so question 5 asks only that
-- it is 2 in kind 11, and zero in kinds 3, 4, 5 and 7 to 10
unfoldable pub write_verdict : Header → List ℕ → ℕ → Verdict
write_verdict h payload room =
    ask longest_packet ≤? room or Err ShortOutput then
    judged (fields_verdict h (length payload) payload) Err
    (ask length payload ≤? payload_most or Err LongPayload then all_yes)

-- what writing answers, and the bytes that it lays at the front of the lent output
pub record Written : Type 0 where
  pub answer : Writing
  pub bytes : List ℕ

unfoldable pub write_of : Header → List ℕ → ℕ → Written
write_of h payload room =
    judged (write_verdict h payload room)
    (λ refusal. record { answer = Err refusal; bytes = [] })
    (record { answer = Ok (header_size + length payload); bytes = packet_of h payload })

-- what the fields of each kind mean
unfoldable pub content_of : Header → Packet
content_of h =
    when h.kind =? request_kind then Request h.member (record { 0 = h.a }) h.b else
    when h.kind =? broadcast_kind then Broadcast h.member (record { 0 = h.a }) h.b (record { 0 = h.c }) else
    when h.kind =? gap_kind then Gap h.member (record { 0 = h.a }) (record { 0 = h.b }) (record { 0 = h.c }) else
    when h.kind =? status_kind then Status h.member (record { 0 = h.a }) else
    when h.kind =? poll_kind then Poll h.member (record { 0 = h.a }) (record { 0 = h.c }) else
    when h.kind =? offer_kind then Offer h.member (record { 0 = h.a }) h.b (record { 0 = h.c }) else
    when h.kind =? confirm_kind then Confirm h.member (record { 0 = h.a }) else
    when h.kind =? accept_kind then Accept h.member (record { 0 = h.a }) else
    when h.kind =? invitation_kind then Invitation h.member h.a else
    when h.kind =? reply_kind then Reply h.member h.a (record { 0 = h.b }) else
    Result h.member h.a (record { 0 = h.b }) (record { 0 = h.c })

-- what reading leaves to the meaning of fields: a kind from 1, and of a result a B that is a member number, which a byte holds
abbrev pub Named : Header → Type 0
Named h = (request_kind ≤ h.kind) × (reply_kind < h.kind → h.b < 256)

-- the fields that mean it, in the group of that number
unfoldable pub fields_of : ℕ → Packet → Header
fields_of group (Request sender taken count) =
    record { kind = request_kind; member = sender; group = group; a = taken.0; b = count; c = 0 }
fields_of group (Broadcast originator number count floor) =
    record { kind = broadcast_kind; member = originator; group = group; a = number.0; b = count; c = floor.0 }
fields_of group (Gap sender taken first last) =
    record { kind = gap_kind; member = sender; group = group; a = taken.0; b = first.0; c = last.0 }
fields_of group (Status sender taken) =
    record { kind = status_kind; member = sender; group = group; a = taken.0; b = 0; c = 0 }
fields_of group (Poll elected top floor) =
    record { kind = poll_kind; member = elected; group = group; a = top.0; b = 0; c = floor.0 }
fields_of group (Offer originator number count floor) =
    record { kind = offer_kind; member = originator; group = group; a = number.0; b = count; c = floor.0 }
fields_of group (Confirm sender number) =
    record { kind = confirm_kind; member = sender; group = group; a = number.0; b = 0; c = 0 }
fields_of group (Accept elected number) =
    record { kind = accept_kind; member = elected; group = group; a = number.0; b = 0; c = 0 }
fields_of group (Invitation sender attempt) =
    record { kind = invitation_kind; member = sender; group = group; a = attempt; b = 0; c = 0 }
fields_of group (Reply sender attempt number) =
    record { kind = reply_kind; member = sender; group = group; a = attempt; b = number.0; c = 0 }
fields_of group (Result sender attempt elected number) =
    record { kind = result_kind; member = sender; group = group; a = attempt; b = elected.0; c = number.0 }

-- at an end byte 1 of a poll and of an acceptance is the elected member
unfoldable pub from_elected : Group → Packet → Bool
from_elected group (Request sender taken count) = true
from_elected group (Broadcast originator number count floor) = true
from_elected group (Gap sender taken first last) = true
from_elected group (Status sender taken) = true
from_elected group (Poll elected top floor) = elected.0 =? group.elected.0
from_elected group (Offer originator number count floor) = true
from_elected group (Confirm sender number) = true
from_elected group (Accept elected number) = elected.0 =? group.elected.0
from_elected group (Invitation sender attempt) = true
from_elected group (Reply sender attempt number) = true
from_elected group (Result sender attempt elected number) = true

-- the packets that a call wrote, from the bytes that it laid at the front of its output: one, or none
unfoldable pub written : List ℕ → List (List ℕ)
written [] = []
written (b ∷ rest) = (b ∷ rest) ∷ []
