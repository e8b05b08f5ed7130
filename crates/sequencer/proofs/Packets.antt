-- The packets that a sound sequencer writes may be written: the broadcast of a number of the history, and the poll packet.
-- Assumes nothing.
use mathlib.Core.Path.{◌≡◌, refl}
use mathlib.Core.List.{[]}
use Prim.Native.Nat.{ℕ, ◌≤◌, ◌<◌}
use native.Mathlib.Omega.{arith}
use borrow.Author.Tests.{leb-true, leb-false}
use lib.ListN.{length}
use Rattle.group.proofs.Lists.{when_elim}
use Rattle.group.specs.Choice.{◌≤?◌}
use Rattle.group.specs.Limits.{longest_packet}
use Rattle.group.specs.declared.MemberNumber.{MemberNumber}
use Rattle.group.specs.declared.SequenceNumber.{SequenceNumber}
use Rattle.message.proofs.Kept.{payload_short}
use Rattle.message.specs.Message.{Message, payload_of}
use Rattle.packet.proofs.Permitted.{broadcast_fields, offer_fields, poll_fields, accept_fields}
use Rattle.packet.proofs.Verdicts.{accepted}
use Rattle.packet.specs.Laws.{Allowed}
use Rattle.packet.specs.Packet.{fields_of}
use Rattle.packet.specs.declared.Packet.{Packet}
use Rattle.packet.specs.declared.Packet.TheVariants.{Broadcast, Poll, Offer, Accept}
use Rattle.history.specs.State.{message_at}
use Rattle.sequencer.specs.Calls.{announced}
use Rattle.sequencer.specs.Laws.{Typed}
use Rattle.sequencer.specs.State.{Sequencer}
use Rattle.group.proofs.Members.{survivor_lt}
use Rattle.sequencer.proofs.Soundness.{stands, Sound}

-- a message's packet is a broadcast or an offer
pub announced_each : (P : Packet → Type 0) (accepted : SequenceNumber) (originator : MemberNumber) (number : SequenceNumber) (count : ℕ) (floor : SequenceNumber)
    → (number.0 ≤ accepted.0 → P (Broadcast originator number count floor)) → (accepted.0 < number.0 → P (Offer originator number count floor))
    → P (announced accepted originator number count floor)
unfolding announced
announced_each P accepted originator number count floor f g =
    when_elim P (number.0 ≤? accepted.0) (λ t. f (leb-true number.0 accepted.0 t)) (λ t. g (leb-false number.0 accepted.0 t))

-- a broadcast, where its number is accepted
pub announced_accepted : (accepted : SequenceNumber) (originator : MemberNumber) (number : SequenceNumber) (count : ℕ) (floor : SequenceNumber)
    → number.0 ≤ accepted.0 → announced accepted originator number count floor ≡ Broadcast originator number count floor
announced_accepted accepted originator number count floor h =
    announced_each (λ (p : Packet). p ≡ Broadcast originator number count floor) accepted originator number count floor (λ k. refl) (λ k. absurd (omega arith))

-- with the same fields
pub announced_fields : (g : ℕ) (accepted : SequenceNumber) (originator : MemberNumber) (number : SequenceNumber) (count : ℕ) (floor : SequenceNumber)
    → ((fields_of g (announced accepted originator number count floor)).member ≡ originator)
    × ((fields_of g (announced accepted originator number count floor)).a ≡ number.0)
    × ((fields_of g (announced accepted originator number count floor)).b ≡ count)
unfolding fields_of
announced_fields g accepted originator number count floor =
    announced_each (λ (p : Packet). ((fields_of g p).member ≡ originator) × ((fields_of g p).a ≡ number.0) × ((fields_of g p).b ≡ count)) accepted originator number count floor
    (λ h. (refl, refl, refl)) (λ h. (refl, refl, refl))

module _ (s : Sequencer) (typed : Typed s) (sound : Sound s) where
  pub broadcast_allowed : (k : ℕ) → s.floor.0 < k → k ≤ s.top.0
      → let m : Message = message_at s.history k in
      Allowed (fields_of s.group.number (announced s.accepted m.originator (record { 0 = k }) m.count s.floor)) (payload_of m)
  unfolding fields_of
  broadcast_allowed k a b =
      let g = s.group.number in
      let m = message_at s.history k in
      let number : SequenceNumber = record { 0 = k } in
      let size = length (payload_of m) in
      let f = sound.kept k a b in
      let c = typed.counts m.originator.0 in
      announced_each (λ (p : Packet). Allowed (fields_of g p) (payload_of m)) s.accepted m.originator number m.count s.floor
      (λ h. (
        omega arith,
        accepted (fields_of g (Broadcast m.originator number m.count s.floor)) (payload_of m) longest_packet
            (record {
              enough = omega arith;
              fields = broadcast_fields g m.originator number s.floor m.count (payload_of m) f.count_least a;
              short = payload_short m f.short;
            }),
      ))
      (λ h. (
        omega arith,
        accepted (fields_of g (Offer m.originator number m.count s.floor)) (payload_of m) longest_packet
            (record {
              enough = omega arith;
              fields = offer_fields g m.originator number s.floor m.count (payload_of m) f.count_least a;
              short = payload_short m f.short;
            }),
      ))

  -- the elected member's number is one byte
  elected_byte : s.group.elected.0 < 256
  elected_byte = let z = survivor_lt s.group (stands s sound) s.group.elected.0 sound.elected_in in let y = sound.n_most in omega arith

  pub accept_allowed : 1 ≤ s.accepted.0 → Allowed (fields_of s.group.number (Accept s.group.elected s.accepted)) []
  unfolding fields_of
  accept_allowed least = (
    record { kind = omega arith; member = elected_byte; group = typed.group; a = typed.accepted; b = omega arith; c = omega arith },
    accepted (fields_of s.group.number (Accept s.group.elected s.accepted)) [] longest_packet
        (record { enough = omega arith; fields = accept_fields s.group.number s.group.elected s.accepted least; short = omega arith }),
  )

  pub poll_allowed : Allowed (fields_of s.group.number (Poll s.group.elected s.top s.floor)) []
  unfolding fields_of
  poll_allowed =
      let low = sound.floor_le in
      let high = sound.accepted_le in
      let top = typed.top in (
        record { kind = omega arith; member = elected_byte; group = typed.group; a = typed.top; b = omega arith; c = omega arith },
        accepted (fields_of s.group.number (Poll s.group.elected s.top s.floor)) [] longest_packet
            (record { enough = omega arith; fields = poll_fields s.group.number s.group.elected s.top s.floor (omega arith); short = omega arith }),
      )
