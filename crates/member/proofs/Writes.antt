-- The packets that a member writes are allowed, and its own: a sound state within its types has fields that fit and obey their
-- kind. Assumes nothing.
use mathlib.Core.Path.{◌≡◌, refl}
use mathlib.Core.Option.{some}
use mathlib.Core.List.{List, []}
use Prim.Native.Nat.{ℕ, ◌≤◌, ◌<◌}
use native.Mathlib.Nat.{le_refl}
use native.Mathlib.Omega.{arith}
use Rattle.group.specs.Limits.{longest_packet, largest_number}
use Rattle.group.specs.Members.{needed_of}
use Rattle.group.proofs.Lists.{at, All}
use Rattle.message.proofs.Kept.{payload_short}
use Rattle.message.specs.Message.{payload_of}
use Rattle.packet.specs.Laws.{Allowed}
use Rattle.packet.specs.Packet.{fields_of, header_bytes, packet_of, written}
use Rattle.packet.specs.declared.Packet.TheVariants.{Request, Gap, Status, Confirm}
use Rattle.packet.proofs.Facts.{KnownBy}
use Rattle.packet.proofs.Permitted.{request_fields, gap_fields, status_fields, confirm_fields}
use Rattle.packet.proofs.Verdicts.{accepted}
use Rattle.member.specs.Calls.{Outcome, first_waiting, request_packet, gap_packet, status_packet, confirm_packet}
use Rattle.member.specs.Laws.{Typed}
use Rattle.member.specs.State.{Member, reach_of, acknowledged_of, first_count}
use Rattle.member.specs.declared.Answer.{Answer}
use Rattle.member.proofs.Acknowledged.{acknowledged_fits}
use Rattle.member.proofs.Invariant.{voice_with}
use Rattle.member.proofs.Soundness.{Sound}

module _ (m : Member) (typed : Typed m) (s : Sound m) where
  pub request_allowed : 1 ≤ m.waiting → Allowed (fields_of m.group.number (Request m.number (acknowledged_of m) (first_count m))) (payload_of (first_waiting m))
  unfolding fields_of
  request_allowed waits =
      let enough = s.waiting.enough in
      let most = typed.submitted in
      let w = s.waiting.waits (first_count m) (omega arith) (omega arith) in
      let payload = payload_of (first_waiting m) in (
        record { kind = omega arith; member = omega arith; group = typed.group; a = acknowledged_fits m typed; b = omega arith; c = omega arith },
        accepted _ payload longest_packet
            (record { enough = omega arith; fields = request_fields m.group.number m.number (acknowledged_of m) (first_count m) payload (omega arith); short = payload_short (first_waiting m) w.short }),
      )

  pub gap_allowed : (first last : ℕ) → (acknowledged_of m).0 < first → first ≤ last → last ≤ largest_number
      → Allowed (fields_of m.group.number (Gap m.number (acknowledged_of m) (record { 0 = first }) (record { 0 = last }))) []
  unfolding fields_of
  gap_allowed first last lo hi most = (
    record { kind = omega arith; member = omega arith; group = typed.group; a = acknowledged_fits m typed; b = omega arith; c = most },
    accepted _ [] longest_packet
        (record { enough = omega arith; fields = gap_fields m.group.number m.number (acknowledged_of m) (record { 0 = first }) (record { 0 = last }) lo hi; short = omega arith }),
  )

  pub status_allowed : Allowed (fields_of m.group.number (Status m.number (acknowledged_of m))) []
  unfolding fields_of
  status_allowed = (
    record { kind = omega arith; member = omega arith; group = typed.group; a = acknowledged_fits m typed; b = omega arith; c = omega arith },
    accepted _ [] longest_packet (record { enough = omega arith; fields = status_fields m.group.number m.number (acknowledged_of m); short = omega arith }),
  )

  pub confirm_allowed : (number : ℕ) → 1 ≤ number → number ≤ largest_number → Allowed (fields_of m.group.number (Confirm m.number (record { 0 = number }))) []
  unfolding fields_of
  confirm_allowed number least most = (
    record { kind = omega arith; member = omega arith; group = typed.group; a = most; b = omega arith; c = omega arith },
    accepted _ [] longest_packet (record { enough = omega arith; fields = confirm_fields m.group.number m.number (record { 0 = number }) least; short = omega arith }),
  )

-- the packets that a call wrote are its member's, and acknowledge and confirm no more than it does
abbrev pub Own : List (List ℕ) → Outcome → Type 0
Own requested o =
    All (KnownBy o.member.group.number (needed_of o.member.group) o.member.number.0 (voice_with o.member requested)) (written o.bytes)

module _ (m : Member) (typed : Typed m) (sound : Sound m) (submitted : List (List ℕ)) where
  pub gap_own : (first last : ℕ) (answer : Answer) → (acknowledged_of m).0 < first → first ≤ last → last ≤ largest_number
      → Own submitted (record { member = m; answer = answer; bytes = gap_packet m first last })
  unfolding gap_packet packet_of header_bytes fields_of written
  gap_own first last answer lo hi most = (
    record {
      content = Gap m.number (acknowledged_of m) (record { 0 = first }) (record { 0 = last });
      payload = [];
      bytes_are = refl;
      allowed = gap_allowed m typed sound first last lo hi most;
      says = (refl, le_refl _);
    },
    tt,
  )

  pub status_own : (answer : Answer) → Own submitted (record { member = m; answer = answer; bytes = status_packet m })
  unfolding status_packet packet_of header_bytes fields_of written
  status_own answer =
      (record { content = Status m.number (acknowledged_of m); payload = []; bytes_are = refl; allowed = status_allowed m typed sound; says = (refl, le_refl _) }, tt)

  pub confirm_own : (number : ℕ) (answer : Answer) → 1 ≤ number → number ≤ largest_number → number ≤ reach_of m → 1 ≤ needed_of m.group
      → Own submitted (record { member = m; answer = answer; bytes = confirm_packet m number })
  unfolding confirm_packet packet_of header_bytes fields_of written
  confirm_own number answer least most has some-needed = (
    record {
      content = Confirm m.number (record { 0 = number });
      payload = [];
      bytes_are = refl;
      allowed = confirm_allowed m typed sound number least most;
      says = (refl, has, some-needed);
    },
    tt,
  )

  pub request_own : (answer : Answer) → 1 ≤ m.waiting → at submitted (first_count m) ≡ some (payload_of (first_waiting m))
      → Own submitted (record { member = m; answer = answer; bytes = request_packet m })
  unfolding request_packet packet_of header_bytes fields_of written
  request_own answer waits last = (
    record {
      content = Request m.number (acknowledged_of m) (first_count m);
      payload = payload_of (first_waiting m);
      bytes_are = refl;
      allowed = request_allowed m typed sound waits;
      says = (refl, le_refl _, last);
    },
    tt,
  )
