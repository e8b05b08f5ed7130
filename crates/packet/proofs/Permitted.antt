-- Fields that obey their kind are accepted, each kind's by its own tests, and of fields that are accepted writing lays the packet.
-- Assumes nothing.
use Rattle.group.specs.Question.{all_yes}
use Rattle.std.specs.Prelude.{Ok, Err}
use Rattle.std.specs.Result.{result_unwrap_or}
use mathlib.Core.Path.{◌≡◌, refl, sym, ap, ◌∙◌, subst}
use mathlib.Core.Bool.{true}
use mathlib.Core.List.{List, []}
use Prim.Native.Nat.{ℕ, ◌+◌, ◌≤◌, ◌<◌}
use native.Mathlib.Omega.{arith}
use borrow.Author.Tests.{lt-ltb, le-leb, eq-eqb}
use lib.ListN.{length}
use Rattle.group.specs.Choice.{when◌then◌else◌}
use Rattle.group.specs.Lent.{Laid}
use Rattle.group.specs.Limits.{header_size, payload_most, longest_packet}
use Rattle.group.specs.Members.{is_in}
use Rattle.group.specs.declared.MemberNumber.{MemberNumber}
use Rattle.group.specs.declared.Refusal.{Refusal}
use Rattle.group.specs.declared.SequenceNumber.{SequenceNumber}
use Rattle.group.specs.Question.{Verdict}
use Rattle.packet.specs.Packet.{known_kind, payload_fits, obeys, fields_verdict, packet_of, write_verdict, write_of, fields_of, survivors_size, survivors_in}
use Rattle.packet.specs.declared.Header.{Header}
use Rattle.packet.specs.declared.Packet.TheVariants.{Request, Broadcast, Gap, Status, Poll, Offer, Confirm, Accept, Invitation, Reply, Result}
use Rattle.packet.specs.Answers.{Writing}
use Rattle.packet.proofs.RoundTrip.{packet_length}
use Rattle.packet.proofs.Verdicts.{accepted, written, written_not}

module _ (g : ℕ) (member : MemberNumber) where
  pub request_fields : (taken : SequenceNumber) (count : ℕ) (payload : List ℕ) → 1 ≤ count → fields_verdict (fields_of g (Request member taken count)) (length payload) payload ≡ all_yes
  unfolding fields_verdict known_kind payload_fits obeys fields_of when◌then◌else◌
  request_fields taken count payload a = rw (eq-eqb (length payload) (length payload) refl, le-leb 1 count a)

  pub broadcast_fields : (number floor : SequenceNumber) (count : ℕ) (payload : List ℕ) → 1 ≤ count → floor.0 < number.0
      → fields_verdict (fields_of g (Broadcast member number count floor)) (length payload) payload ≡ all_yes
  unfolding fields_verdict known_kind payload_fits obeys fields_of when◌then◌else◌
  broadcast_fields number floor count payload a b =
      let c : 1 ≤ number.0 = omega arith in
      rw (eq-eqb (length payload) (length payload) refl, le-leb 1 number.0 c, le-leb 1 count a, lt-ltb floor.0 number.0 b)

  pub offer_fields : (number floor : SequenceNumber) (count : ℕ) (payload : List ℕ) → 1 ≤ count → floor.0 < number.0
      → fields_verdict (fields_of g (Offer member number count floor)) (length payload) payload ≡ all_yes
  unfolding fields_verdict known_kind payload_fits obeys fields_of when◌then◌else◌
  offer_fields number floor count payload a b =
      let c : 1 ≤ number.0 = omega arith in
      rw (eq-eqb (length payload) (length payload) refl, le-leb 1 number.0 c, le-leb 1 count a, lt-ltb floor.0 number.0 b)

  pub gap_fields : (taken first last : SequenceNumber) → taken.0 < first.0 → first.0 ≤ last.0 → fields_verdict (fields_of g (Gap member taken first last)) 0 [] ≡ all_yes
  unfolding fields_verdict known_kind payload_fits obeys fields_of when◌then◌else◌
  gap_fields taken first last a b = rw (lt-ltb taken.0 first.0 a, le-leb first.0 last.0 b)

  pub status_fields : (taken : SequenceNumber) → fields_verdict (fields_of g (Status member taken)) 0 [] ≡ all_yes
  unfolding fields_verdict known_kind payload_fits obeys fields_of when◌then◌else◌
  status_fields taken = refl

  pub confirm_fields : (number : SequenceNumber) → 1 ≤ number.0 → fields_verdict (fields_of g (Confirm member number)) 0 [] ≡ all_yes
  unfolding fields_verdict known_kind payload_fits obeys fields_of when◌then◌else◌
  confirm_fields number a = rw (le-leb 1 number.0 a)

pub poll_fields : (g : ℕ) (elected : MemberNumber) (top floor : SequenceNumber) → floor.0 ≤ top.0 → fields_verdict (fields_of g (Poll elected top floor)) 0 [] ≡ all_yes
unfolding fields_verdict known_kind payload_fits obeys fields_of when◌then◌else◌
poll_fields g elected top floor a = rw (le-leb floor.0 top.0 a)

pub accept_fields : (g : ℕ) (elected : MemberNumber) (number : SequenceNumber) → 1 ≤ number.0 → fields_verdict (fields_of g (Accept elected number)) 0 [] ≡ all_yes
unfolding fields_verdict known_kind payload_fits obeys fields_of when◌then◌else◌
accept_fields g elected number a = rw (le-leb 1 number.0 a)

pub invitation_fields : (g : ℕ) (sender : MemberNumber) (attempt : ℕ) → fields_verdict (fields_of g (Invitation sender attempt)) 0 [] ≡ all_yes
unfolding fields_verdict known_kind payload_fits obeys fields_of when◌then◌else◌
invitation_fields g sender attempt = refl

pub reply_fields : (g : ℕ) (sender : MemberNumber) (attempt : ℕ) (number : SequenceNumber) → fields_verdict (fields_of g (Reply sender attempt number)) 0 [] ≡ all_yes
unfolding fields_verdict known_kind payload_fits obeys fields_of when◌then◌else◌
reply_fields g sender attempt number = refl

pub result_fields : (g : ℕ) (sender elected : MemberNumber) (attempt : ℕ) (number : SequenceNumber) (payload : List ℕ) → length payload ≡ survivors_size
    → is_in (survivors_in payload) sender.0 ≡ true → is_in (survivors_in payload) elected.0 ≡ true
    → fields_verdict (fields_of g (Result sender attempt elected number)) (length payload) payload ≡ all_yes
unfolding fields_verdict known_kind payload_fits obeys fields_of when◌then◌else◌
result_fields g sender elected attempt number payload l a b = rw (l, a, b)

bytes_one : {size other : ℕ} → ◌≡◌ {A = Writing} (Ok size) (Ok other) → size ≡ other
bytes_one e = cc

bytes≢ : {r : Refusal} {size : ℕ} → ◌≡◌ {A = Writing} (Err r) (Ok size) → ⊥
bytes≢ e = let z : ◌≡◌ {A = ℕ} 0 1 = cc in omega arith

module _ (h : Header) (payload : List ℕ) (room : ℕ) where
  -- fields that are accepted, a payload in the limit and room for a packet: the packet is laid
  pub laid_whole : {size : ℕ} {x y : List ℕ} → fields_verdict h (length payload) payload ≡ all_yes → length payload ≤ payload_most → longest_packet ≤ room
      → Laid (write_of h payload room).bytes size x y → Laid (packet_of h payload) size x y
  laid_whole {size} {x} {y} fields short enough l =
      let w = accepted h payload room (record { enough = enough; fields = fields; short = short }) in
      subst (λ (bytes : List ℕ). Laid bytes size x y) (sym (written h payload room w).1) l

  -- the length that writing answers is that of what it lays
  pub written_size : (size : ℕ) → (write_of h payload room).answer ≡ Ok size → size ≡ length (write_of h payload room).bytes
  written_size size e = go (write_verdict h payload room) refl
    where
      go : (v : Verdict) → write_verdict h payload room ≡ v → size ≡ length (write_of h payload room).bytes
      go (Ok _) w =
          let z = written h payload room w in
          let s : header_size + length payload ≡ size = bytes_one (z.0 ∙ e) in
          sym s ∙ sym (packet_length h payload) ∙ ap (λ (l : List ℕ). length l) z.1
      go (Err r) w = absurd (bytes≢ ((written_not h payload room r w).0 ∙ e))

  pub written_none : (r : Refusal) → (write_of h payload room).answer ≡ Err r → 0 ≡ length (write_of h payload room).bytes
  written_none r e = go (write_verdict h payload room) refl
    where
      go : (v : Verdict) → write_verdict h payload room ≡ v → 0 ≡ length (write_of h payload room).bytes
      go (Ok _) w = absurd (bytes≢ (sym ((written h payload room w).0 ∙ e)))
      go (Err q) w = ap (λ (l : List ℕ). length l) (written_not h payload room q w).1

  -- the length that is given: none where writing is refused
  pub written_length : (v : Writing) → v ≡ (write_of h payload room).answer → result_unwrap_or v 0 ≡ length (write_of h payload room).bytes
  written_length (Ok size) e = written_size size (sym e)
  written_length (Err r) e = written_none r (sym e)
