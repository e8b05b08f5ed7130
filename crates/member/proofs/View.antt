-- What the arrays of a member say of its view: the first request, and what is acknowledged. Assumes nothing.
use mathlib.Core.Path.{◌≡◌, refl, sym, ap, subst}
use mathlib.Core.List.{List, [], ◌∷◌}
use Prim.Native.Nat.{ℕ, zero, suc, ◌+◌, ◌-◌, ◌≤◌, ◌<◌}
use native.Mathlib.Omega.{arith}
use lib.ListN.{length, take, drop, get_or}
use Rattle.group.specs.Lent.{Laid}
use Rattle.group.specs.Limits.{held_most, payload_most, largest_number}
use Rattle.group.specs.declared.SequenceNumber.{SequenceNumber}
use Rattle.message.specs.Message.{Message, payload_of, blank}
use Rattle.packet.specs.Packet.{fields_of, packet_of}
use Rattle.packet.specs.declared.Packet.{Packet}
use Rattle.store.specs.Places.{part_of, messages_in}
use Rattle.store.proofs.Places.{message_in_lem}
use Rattle.window.specs.Places.{queued_at, smaller_of}
use Rattle.window.specs.Steps.{Counted, row_counted}
use Rattle.member.specs.Calls.{request_packet, status_packet}
use Rattle.member.specs.State.{Member, reach_of, acknowledged_of, first_count}
use Rattle.member.specs.Steps.{member_of, request_in}
use Rattle.member.specs.declared.Head.{Head}
use Rattle.member.proofs.Acknowledged.{end_counted, acknowledged_end}

-- a request that was laid with what is acknowledged, by the row's end
pub requested : (head : Head) (counts : List ℕ) (count : ℕ) (payload : List ℕ) (taken : SequenceNumber) {written : ℕ} {x y : List ℕ}
    → taken.0 ≡ smaller_of (row_counted counts head.taken.0 (smaller_of largest_number (head.taken.0 + held_most))) head.accepted.0
    → Laid (packet_of (fields_of head.group.number (Packet.Request head.number taken count)) payload) written x y → Laid (request_in head counts count payload) written x y
unfolding request_in
requested head counts count payload taken {written} {x} {y} e l =
    subst (λ (t : ℕ). Laid (packet_of (fields_of head.group.number (Packet.Request head.number (record { 0 = t }) count)) payload) written x y) e l

-- a status that was laid with a number, and a gap
pub status_laid : (head : Head) (taken : SequenceNumber) (k : ℕ) {written : ℕ} {x y : List ℕ} → taken.0 ≡ k
    → Laid (packet_of (fields_of head.group.number (Packet.Status head.number taken)) []) written x y
    → Laid (packet_of (fields_of head.group.number (Packet.Status head.number (record { 0 = k }))) []) written x y
status_laid head taken k {written} {x} {y} e l = subst (λ (t : ℕ). Laid (packet_of (fields_of head.group.number (Packet.Status head.number (record { 0 = t }))) []) written x y) e l

pub gap_laid : (head : Head) (taken first last : SequenceNumber) (k : ℕ) {written : ℕ} {x y : List ℕ} → taken.0 ≡ k
    → Laid (packet_of (fields_of head.group.number (Packet.Gap head.number taken first last)) []) written x y
    → Laid (packet_of (fields_of head.group.number (Packet.Gap head.number (record { 0 = k }) first last)) []) written x y
gap_laid head taken first last k {written} {x} {y} e l = subst (λ (t : ℕ). Laid (packet_of (fields_of head.group.number (Packet.Gap head.number (record { 0 = t }) first last)) []) written x y) e l

-- a status that was laid with what is acknowledged, by the row's end
pub reported : (m : Member) (end : SequenceNumber) {written : ℕ} {x y : List ℕ} → end.0 ≡ reach_of m
    → Laid (packet_of (fields_of m.group.number (Packet.Status m.number (record { 0 = smaller_of end.0 m.accepted.0 }))) []) written x y → Laid (status_packet m) written x y
unfolding status_packet acknowledged_of
reported m end {written} {x} {y} e l =
    subst (λ (t : ℕ). Laid (packet_of (fields_of m.group.number (Packet.Status m.number (record { 0 = smaller_of t m.accepted.0 }))) []) written x y) e l

-- the length of a message that a place holds, and that such a place lies within the arrays
pub held_inside : (counts originators lengths bytes : List ℕ) (i : ℕ) → 0 < (get_or (messages_in counts originators lengths bytes) i blank).count → i < length counts
unfolding messages_in
held_inside [] originators lengths bytes i h = absurd (omega arith)
held_inside (count ∷ counts) originators lengths bytes zero h = omega arith
held_inside (count ∷ counts) originators lengths bytes (suc i) h = let z = held_inside counts (drop 1 originators) (drop 1 lengths) (drop payload_most bytes) i h in omega arith

pub length_in : (counts originators lengths bytes : List ℕ) (i : ℕ) → 0 < (get_or (messages_in counts originators lengths bytes) i blank).count
    → get_or lengths i 0 ≡ (get_or (messages_in counts originators lengths bytes) i blank).length
length_in counts originators lengths bytes i h =
    ap (λ (m : Message). m.length) (sym (message_in_lem counts originators lengths bytes i (held_inside counts originators lengths bytes i h)))

-- the payload that a place holds
pub payload_in : (counts originators lengths bytes : List ℕ) (i : ℕ) → i < length counts
    → take (get_or lengths i 0) (part_of bytes i) ≡ payload_of (get_or (messages_in counts originators lengths bytes) i blank)
unfolding payload_of
payload_in counts originators lengths bytes i h = ap (λ (m : Message). take m.length m.payload) (sym (message_in_lem counts originators lengths bytes i h))

module _ (head : Head) (counts : List ℕ) (queue held : List Message) (c : Counted counts held) (most : head.taken.0 ≤ largest_number) where
  -- the accepted of the row, whose end is found by the counts of the places, is what the member acknowledges
  acknowledges : record { 0 = smaller_of (row_counted counts head.taken.0 (smaller_of largest_number (head.taken.0 + held_most))) head.accepted.0 } ≡ acknowledged_of (member_of head queue held)
  acknowledges =
      acknowledged_end (member_of head queue held) _ (ap (λ (r : ℕ). smaller_of r head.accepted.0) (end_counted (member_of head queue held) counts c _ most refl))

  -- the request of the first message that waits
  pub request_is : (payload : List ℕ) → payload ≡ payload_of (queued_at queue (first_count (member_of head queue held)))
      → request_in head counts (first_count (member_of head queue held)) payload ≡ request_packet (member_of head queue held)
  unfolding request_in request_packet
  request_is payload e =
      λ j. packet_of (fields_of head.group.number (Packet.Request head.number (acknowledges j) (head.submitted - head.waiting + 1))) (e j)
