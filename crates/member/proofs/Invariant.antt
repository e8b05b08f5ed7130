-- The part of demand 3's invariant that speaks of one terminal, and what a call of its member owes the group. Assumes nothing.
use mathlib.Core.Path.{◌≡◌, sym, ap, ◌∙◌, subst}
use mathlib.Core.Bool.{true}
use mathlib.Core.Option.{some}
use mathlib.Core.List.{List}
use Prim.Native.Nat.{ℕ, ◌+◌, ◌-◌, ◌≤◌, ◌<◌}
use native.Mathlib.Nat.{le_refl}
use native.Mathlib.Omega.{arith}
use lib.ListN.{length, take, drop, take-append-drop}
use Rattle.group.proofs.Lists.{at, at_taken, at_take, All}
use Rattle.group.specs.Limits.{held_most, payload_most}
use Rattle.group.specs.Members.{needed_of}
use Rattle.group.specs.declared.Group.{Group}
use Rattle.message.proofs.Owning.{Owns, own_grows, owns_take}
use Rattle.message.proofs.Kept.{kept_payload}
use Rattle.message.specs.Message.{message_of, payload_of}
use Rattle.message.specs.Order.{Ordered, own_of}
use Rattle.packet.proofs.Facts.{Voice, Louder, KnownBy}
use Rattle.member.specs.Calls.{Outcome, first_waiting}
use Rattle.member.specs.Laws.{Typed}
use Rattle.member.specs.Sound.{sound_of}
use Rattle.member.specs.State.{Member, reach_of, acknowledged_of, first_count}
use Rattle.window.specs.Places.{message_at, queued_at}
use Rattle.member.proofs.Soundness.{sound_of_lem}

-- the submissions that were requested: up to the first that waits
abbrev pub requested_by : Member → List (List ℕ) → List (List ℕ)
requested_by m submitted = take (first_count m) submitted

-- what a member can say of itself, where `requested` are the submissions that it requested
abbrev pub voice_with : Member → List (List ℕ) → Voice
voice_with m requested = record { row = (acknowledged_of m).0; reach = reach_of m; submitted = requested }

abbrev pub voice_of : Member → List (List ℕ) → Voice
voice_of m submitted = voice_with m (requested_by m submitted)

-- what terminal i has of an order, where `took` is what it took and `submitted` the payloads that it submitted
pub record Content (i : ℕ) (m : Member) (order took : List Ordered) (submitted : List (List ℕ)) : Type 0 where
  pub typed : Typed m
  pub sound : sound_of m ≡ true
  pub taken_le : m.taken.0 ≤ length order
  -- what it took is the first t of the order
  pub took_is : took ≡ take m.taken.0 order
  -- each held place is the order's message of that number
  pub held_is : (k : ℕ) → m.taken.0 < k → k ≤ m.taken.0 + held_most → 1 ≤ (message_at m.held k).count
      → (x : Ordered) × (at order k ≡ some x) × (message_at m.held k ≡ message_of (record { 0 = x.originator }) x.count x.payload)
  pub submitted_is : m.submitted ≡ length submitted
  -- no message of its own beyond the first that waits is in the order
  pub count_le : length (own_of i order) ≤ first_count m
  -- it took its own messages but for those that wait
  pub own_taken : length (own_of i took) ≡ m.submitted - m.waiting
  -- the waiting messages are its last submissions
  pub waiting_is : (c : ℕ) → m.submitted - m.waiting < c → c ≤ m.submitted
      → (payload : List ℕ) × (at submitted c ≡ some payload) × (queued_at m.queue c ≡ message_of (record { 0 = i }) c payload)
  -- its own messages in the order are its first submissions
  pub own_is : Owns i order submitted
  pub payload_ok : (c : ℕ) (payload : List ℕ) → at submitted c ≡ some payload → length payload ≤ payload_most

-- its seat in the group: `acknowledged` is what the sequencer knows that it acknowledged, `accepted` the sequencer's last accepted number
pub record Seat (group : Group) (i acknowledged accepted : ℕ) (m : Member) : Type 0 where
  pub group_is : m.group ≡ group
  pub number_is : m.number.0 ≡ i
  pub acknowledged_le : acknowledged ≤ (acknowledged_of m).0
  pub accepted_le : m.accepted.0 ≤ accepted
  -- where none has to confirm, all that it holds is accepted
  pub plain : needed_of group ≡ 0 → (k : ℕ) → m.taken.0 < k → k ≤ m.taken.0 + held_most → 1 ≤ (message_at m.held k).count → k ≤ m.accepted.0

-- terminal i of the group
pub record Terminal (group : Group) (i acknowledged accepted : ℕ) (m : Member) (order took : List Ordered) (submitted : List (List ℕ)) : Type 0 where
  pub content : Content i m order took submitted
  pub seat : Seat group i acknowledged accepted m

-- what a call of terminal i's member owes, where m is the member before it, took' and submitted' what the terminal took and
-- submitted by then, and `packets` what was written
pub record MemberGood (group : Group) (i acknowledged accepted : ℕ) (order : List Ordered) (submitted : List (List ℕ)) (m : Member) (took' : List Ordered) (submitted' packets : List (List ℕ)) (o : Outcome) : Type 0 where
  pub terminal : Terminal group i acknowledged accepted o.member order took' submitted'
  pub louder : Louder (voice_of m submitted) (voice_of o.member submitted')
  pub known : All (KnownBy group.number (needed_of group) i (voice_of o.member submitted')) packets

module _ {i : ℕ} {m : Member} {order took : List Ordered} {submitted : List (List ℕ)} (h : Content i m order took submitted) where
  -- the last count numbered lies from u - w to u - w + 1: what it took of its own, and perhaps the first that waits
  pub numbered_near : (m.submitted - m.waiting ≤ length (own_of i order)) × (length (own_of i order) ≤ m.submitted - m.waiting + 1)
  numbered_near =
      let t : ℕ = m.taken.0 in
      let e : length (own_of i took) ≤ length (own_of i order) =
      rw h.took_is (subst (λ (l : List Ordered). length (own_of i (take t order)) ≤ length (own_of i l)) (take-append-drop t order) (own_grows i (take t order) (drop t order))) in
      let z = h.own_taken in
      (omega arith, h.count_le)

  -- its own messages in the order were requested
  pub requested_owns : Owns i order (requested_by m submitted)
  requested_owns = owns_take i (first_count m) order submitted h.count_le h.own_is

  -- the first that waits is the last requested
  pub first_requested : 1 ≤ m.waiting → at (requested_by m submitted) (first_count m) ≡ some (payload_of (first_waiting m))
  first_requested some-wait =
      let enough = (sound_of_lem m h.sound).waiting.enough in
      let z = h.waiting_is (first_count m) (omega arith) (omega arith) in
      let p : payload_of (first_waiting m) ≡ z.0 = ap payload_of z.2 ∙ kept_payload (record { 0 = i }) (first_count m) z.0 in
      at_take (first_count m) submitted (first_count m) (le_refl _) (z.1 ∙ ap some (sym p))

  -- what was requested grows with what it took and submitted
  pub requested_grows : {m' : Member} {order' took' : List Ordered} {submitted' : List (List ℕ)} → Content i m' order' took' submitted'
      → length (own_of i took) ≤ length (own_of i took') → ((c : ℕ) (payload : List ℕ) → at submitted c ≡ some payload → at submitted' c ≡ some payload)
      → (c : ℕ) (payload : List ℕ) → at (requested_by m submitted) c ≡ some payload → at (requested_by m' submitted') c ≡ some payload
  requested_grows {m' = m'} {submitted' = submitted'} h' le more c payload e =
      let z = at_taken (first_count m) submitted c e in
      let x = h.own_taken in
      let y = h'.own_taken in
      at_take (first_count m') submitted' c (omega arith) (more c payload z.1)
