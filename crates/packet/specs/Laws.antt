-- What is proved of packets, besides the promises of reading and writing. `proofs/Laws.antt` has a proof of each statement.
use Rattle.group.specs.Question.{all_yes}
use Rattle.std.specs.Prelude.{Ok, Err}
use Rattle.std.specs.Prelude.{◌≡◌, List, [], ◌∷◌, ℕ, ◌≤◌, ◌<◌, length}
use Rattle.group.specs.Choice.{◌and◌, ◌≤?◌}
use Rattle.group.specs.Limits.{header_size, payload_most, longest_packet, largest_number}
use Rattle.group.specs.Question.{Question, first_no, judged}
use Rattle.group.specs.declared.Refusal.TheVariants.{ShortOutput, PacketSize, UnknownKind, PayloadLength, ForbiddenFields, LongPayload}
use Rattle.group.specs.Question.{Verdict}
use Rattle.big_endian.specs.Laws.{Bytes}
use Rattle.packet.specs.Packet.{header_of, length_at, payload_at, known_kind, payload_fits, obeys, fields_verdict, read_of, packet_of, write_verdict, content_of, fields_of}
use Rattle.packet.specs.declared.Header.{Header}
use Rattle.packet.specs.declared.Packet.{Packet}
use Rattle.packet.specs.Answers.{Reading}

-- fields that their types can hold
pub record Fits (h : Header) : Type 0 where
  pub kind : h.kind < 256
  pub member : h.member.0 < 256
  pub group : h.group ≤ largest_number
  pub a : h.a ≤ largest_number
  pub b : h.b ≤ largest_number
  pub c : h.c ≤ largest_number

-- fields and a payload that a packet may have: writing accepts them where the lent output is long enough
abbrev pub Allowed : Header → List ℕ → Type 0
Allowed h payload = Fits h × (write_verdict h payload longest_packet ≡ all_yes)

-- a packet that reads to these fields and this payload
abbrev pub Reads : List ℕ → Header → List ℕ → Type 0
Reads p h payload = (read_of p ≡ Ok h) × (payload_at p ≡ payload)

-- reading what was written gives fields and payload back
abbrev pub ReadWritten : Type 0
ReadWritten = (h : Header) (payload : List ℕ) → Allowed h payload → Reads (packet_of h payload) h payload

-- writing what was read gives the bytes back, and writing accepts it
abbrev pub WriteRead : Type 0
WriteRead = (p : List ℕ) (h : Header) (payload : List ℕ) → Bytes p → Reads p h payload → Allowed h payload × (packet_of h payload ≡ p)

-- two packets that read to the same fields and payload are equal
abbrev pub SameFieldsSamePacket : Type 0
SameFieldsSamePacket =
    (p q : List ℕ) (h : Header) (payload : List ℕ) → Bytes p → Bytes q → Reads p h payload → Reads q h payload → p ≡ q

-- each allowed set of fields has exactly one packet
abbrev pub OnePacket : Type 0
OnePacket =
    (h : Header) (payload : List ℕ) → Bytes payload → Allowed h payload
    → (p : List ℕ) × Bytes p × Reads p h payload × ((q : List ℕ) → Bytes q → Reads q h payload → q ≡ p)

-- the questions of reading, 3 to 6
abbrev pub read_questions : List ℕ → List Question
read_questions p =
    record { yes = header_size ≤? length p and length p ≤? longest_packet; refusal = PacketSize }
    ∷ record { yes = known_kind (header_of p).kind; refusal = UnknownKind }
    ∷ record { yes = payload_fits (header_of p).kind (length_at p) (length (payload_at p)); refusal = PayloadLength }
    ∷ record { yes = obeys (header_of p) (payload_at p); refusal = ForbiddenFields }
    ∷ []

-- reading refuses with the first no of its questions, and accepts everything else
abbrev pub ReadFirstNo : Type 0
ReadFirstNo = (p : List ℕ) → read_of p ≡ judged (first_no (read_questions p)) Err (Ok (header_of p))

-- the questions of writing, 2, 4, 5, 6 and 13
abbrev pub write_questions : Header → List ℕ → ℕ → List Question
write_questions h payload room =
    record { yes = longest_packet ≤? room; refusal = ShortOutput }
    ∷ record { yes = known_kind h.kind; refusal = UnknownKind }
    ∷ record { yes = payload_fits h.kind (length payload) (length payload); refusal = PayloadLength }
    ∷ record { yes = obeys h payload; refusal = ForbiddenFields }
    ∷ record { yes = length payload ≤? payload_most; refusal = LongPayload }
    ∷ []

-- writing refuses with the first no of its questions, and accepts everything else
abbrev pub WriteFirstNo : Type 0
WriteFirstNo = (h : Header) (payload : List ℕ) (room : ℕ) → write_verdict h payload room ≡ first_no (write_questions h payload room)

-- what the fields mean, and the fields that mean it, are inverse
abbrev pub ContentFields : Type 0
ContentFields = (group : ℕ) (packet : Packet) → content_of (fields_of group packet) ≡ packet

abbrev pub FieldsContent : Type 0
FieldsContent = (h : Header) (l : ℕ) (payload : List ℕ) → fields_verdict h l payload ≡ all_yes → fields_of h.group (content_of h) ≡ h
