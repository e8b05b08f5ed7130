-- The laws that `specs/Laws.antt` states: the round trips by the laws of a packet's parts, the first no by going down the
-- questions, the two ways of saying a packet by its kind. Assumes nothing.
use Rattle.group.specs.Question.{all_yes}
use Rattle.std.specs.Prelude.{Ok, Err}
use mathlib.Core.Path.{◌≡◌, refl, sym, ap, ◌∙◌}
use mathlib.Core.Bool.{true, false}
use mathlib.Core.List.{List, [], ◌∷◌}
use Prim.Native.Nat.{ℕ, zero, suc, ◌-◌, ◌≤◌}
use native.Mathlib.Omega.{arith}
use lib.ListN.{length, length-drop}
use Rattle.group.specs.Choice.{when◌then◌else◌, ask◌or◌then◌, ◌≤?◌}
use Rattle.group.specs.Limits.{header_size, payload_most, longest_packet}
use Rattle.group.specs.Question.{Question, first_no, judged}
use Rattle.group.specs.declared.Refusal.TheVariants.{ShortOutput, PacketSize, UnknownKind, PayloadLength, ForbiddenFields, LongPayload}
use Rattle.group.specs.Question.{Verdict}
use Rattle.group.proofs.Choice.{says}
use Rattle.group.proofs.Question.{judged_ask, first_no-append}
use Rattle.packet.specs.Laws.{Fits, ReadWritten, WriteRead, SameFieldsSamePacket, OnePacket, ReadFirstNo, WriteFirstNo, ContentFields, FieldsContent}
use Rattle.packet.specs.Packet.{header_of, length_at, payload_at, known_kind, payload_fits, obeys, fields_verdict, read_of, packet_of, write_verdict, content_of, fields_of}
use Rattle.packet.specs.declared.Header.{Header}
use Rattle.packet.specs.declared.Packet.{Packet}
use Rattle.packet.specs.declared.Packet.TheVariants.{Request, Broadcast, Gap, Status, Poll, Offer, Confirm, Accept, Invitation, Reply, Result}
use Rattle.packet.specs.Answers.{Reading}
use Rattle.packet.proofs.RoundTrip.{packet_length, payload_back, length_back, header_back, packet_bytes, header_fits, packet_back}
use Rattle.packet.proofs.Verdicts.{read_by, accepted, writable, askable, readable}

-- the questions on fields, 4 to 6
abbrev fields_questions : Header → ℕ → List ℕ → List Question
fields_questions h l payload =
    record { yes = known_kind h.kind; refusal = UnknownKind }
    ∷ record { yes = payload_fits h.kind l (length payload); refusal = PayloadLength }
    ∷ record { yes = obeys h payload; refusal = ForbiddenFields }
    ∷ []

pub read_written : ReadWritten
unfolding judged
read_written h payload (fits, allowed) =
    let w = writable h payload longest_packet allowed in
    let p = packet_of h payload in
    let n = packet_length h payload in
    let v : all_yes ≡ fields_verdict h (length payload) (payload_at p) = rw (payload_back h payload) (sym w.fields) in
    let r = read_by p h (length payload) all_yes (omega arith) (omega arith) (sym (header_back h payload fits)) (sym (length_back h payload (omega arith))) v in
    (sym r, payload_back h payload)

pub write_read : WriteRead
write_read p h payload bytes (r, b) =
    let a = readable p h r in
    let n = length-drop header_size p in
    let s : length payload ≡ length p - header_size = rw (← b) n in
    let f : Fits h = rw a.header (header_fits p bytes a.long) in
    let w = accepted h payload longest_packet (record { enough = omega arith; fields = rw s (rw b at a.fields); short = omega arith }) in
    ((f, w), rw (a.header, ← b) (packet_back p bytes a.long (n ∙ a.l)))

pub same_fields_same_packet : SameFieldsSamePacket
same_fields_same_packet p q h payload bp bq rp rq = sym (write_read p h payload bp rp).1 ∙ (write_read q h payload bq rq).1

pub one_packet : OnePacket
one_packet h payload bytes allowed =
    (packet_of h payload, packet_bytes h payload allowed.0 bytes, read_written h payload allowed, λ q b r. sym (write_read q h payload b r).1)

pub read_first_no : ReadFirstNo
unfolding read_of fields_verdict first_no
read_first_no p = judged_ask Err (Ok (header_of p)) _ PacketSize (fields_questions (header_of p) (length_at p) (payload_at p))

pub write_first_no : WriteFirstNo
unfolding write_verdict fields_verdict first_no
write_first_no h payload room =
    ap (λ (v : Verdict). ask longest_packet ≤? room or Err ShortOutput then v)
    (first_no-append (fields_questions h (length payload) payload) (record { yes = length payload ≤? payload_most; refusal = LongPayload } ∷ []))

pub content_fields : ContentFields
unfolding content_of fields_of when◌then◌else◌
content_fields group (Request sender taken count) = refl
content_fields group (Broadcast originator number count floor) = refl
content_fields group (Gap sender taken first last) = refl
content_fields group (Status sender taken) = refl
content_fields group (Poll elected top floor) = refl
content_fields group (Offer originator number count floor) = refl
content_fields group (Confirm sender number) = refl
content_fields group (Accept elected number) = refl
content_fields group (Invitation sender attempt) = refl
content_fields group (Reply sender attempt number) = refl
content_fields group (Result sender attempt elected number) = refl

-- the fields one by one: the kind decides which of them are zero
fields_content_by : (kind member group a b c : ℕ) (payload : List ℕ)
    → let h : Header = record { kind = kind; member = record { 0 = member }; group = group; a = a; b = b; c = c } in
    known_kind kind ≡ true → obeys h payload ≡ true → fields_of group (content_of h) ≡ h
unfolding known_kind obeys content_of fields_of when◌then◌else◌
fields_content_by zero member group a b c payload k o = let z : false ≡ true = k in cc
fields_content_by (suc zero) member group a b c payload k o = let z : c ≡ 0 = search says in rw z
fields_content_by (suc (suc zero)) member group a b c payload k o = refl
fields_content_by (suc (suc (suc zero))) member group a b c payload k o = refl
fields_content_by (suc (suc (suc (suc zero)))) member group a b c payload k o =
    let y : b ≡ 0 = search says in
    let z : c ≡ 0 = search says in
    rw (y, z)
fields_content_by (suc (suc (suc (suc (suc zero))))) member group a b c payload k o = let y : b ≡ 0 = search says in rw y
fields_content_by (suc (suc (suc (suc (suc (suc zero)))))) member group a b c payload k o = refl
fields_content_by (suc (suc (suc (suc (suc (suc (suc zero))))))) member group a b c payload k o =
    let y : b ≡ 0 = search says in
    let z : c ≡ 0 = search says in
    rw (y, z)
fields_content_by (suc (suc (suc (suc (suc (suc (suc (suc zero)))))))) member group a b c payload k o =
    let y : b ≡ 0 = search says in
    let z : c ≡ 0 = search says in
    rw (y, z)
fields_content_by (suc (suc (suc (suc (suc (suc (suc (suc (suc zero))))))))) member group a b c payload k o =
    let y : b ≡ 0 = search says in
    let z : c ≡ 0 = search says in
    rw (y, z)
fields_content_by (suc (suc (suc (suc (suc (suc (suc (suc (suc (suc zero)))))))))) member group a b c payload k o = let z : c ≡ 0 = search says in rw z
fields_content_by (suc (suc (suc (suc (suc (suc (suc (suc (suc (suc (suc zero))))))))))) member group a b c payload k o = refl
fields_content_by (suc (suc (suc (suc (suc (suc (suc (suc (suc (suc (suc (suc kind)))))))))))) member group a b c payload k o =
    let z : suc (suc (suc (suc (suc (suc (suc (suc (suc (suc (suc (suc kind))))))))))) ≤ 11 = search says in
    absurd (omega arith)

pub fields_content : FieldsContent
fields_content h l payload e =
    let w = askable h l payload e in
    fields_content_by h.kind h.member.0 h.group h.a h.b h.c payload w.known w.obey

-- the fields that mean a packet are of the group that it was written in
pub fields_group : (group : ℕ) (packet : Packet) → (fields_of group packet).group ≡ group
unfolding fields_of
fields_group group (Request sender taken count) = refl
fields_group group (Broadcast originator number count floor) = refl
fields_group group (Gap sender taken first last) = refl
fields_group group (Status sender taken) = refl
fields_group group (Poll elected top floor) = refl
fields_group group (Offer originator number count floor) = refl
fields_group group (Confirm sender number) = refl
fields_group group (Accept elected number) = refl
fields_group group (Invitation sender attempt) = refl
fields_group group (Reply sender attempt number) = refl
fields_group group (Result sender attempt elected number) = refl
