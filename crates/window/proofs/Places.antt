-- The test of a place is that of the message that the arrays hold there, and the counts of the places are the messages' counts. Assumes nothing.
use mathlib.Core.Path.{◌≡◌, refl, sym, ap, ◌∙◌}
use mathlib.Core.Bool.{Bool}
use mathlib.Core.List.{List, [], ◌∷◌}
use Prim.Native.Nat.{ℕ, zero, suc, ◌+◌, ◌-◌, ◌*◌, ◌≤◌, ◌<◌}
use native.Mathlib.Omega.{arith}
use lib.ListN.{length, take, drop, get_or, length-append, length-replicate}
use lib.Seq.{take-take}
use Rattle.group.specs.Limits.{payload_most}
use Rattle.group.specs.declared.MemberNumber.{MemberNumber}
use Rattle.message.specs.Message.{Message, padded, blank}
use Rattle.store.specs.Places.{part_of, message_in, messages_in}
use Rattle.store.proofs.Places.{message_in_lem}
use Rattle.window.specs.Places.{place_of, queue_place}
use Rattle.window.specs.Sound.{place_sound, queue_sound}
use Rattle.window.specs.Steps.{Counted, message_sound, queued_sound}

pub counted_in_lem : (counts originators lengths bytes : List ℕ) → Counted counts (messages_in counts originators lengths bytes)
unfolding messages_in
counted_in_lem [] originators lengths bytes i = refl
counted_in_lem (count ∷ counts) originators lengths bytes zero = refl
counted_in_lem (count ∷ counts) originators lengths bytes (suc i) = counted_in_lem counts (drop 1 originators) (drop 1 lengths) (drop payload_most bytes) i

module _ (counts originators lengths bytes : List ℕ) (at : ℕ) (inside : at < length counts) where
  abbrev here : Message
  here = message_in (get_or counts at 0) (get_or originators at 0) (get_or lengths at 0) (part_of bytes at)

  -- the place of a number or of a count holds that message
  pub here_is : (place : ℕ) → at ≡ place → here ≡ get_or (messages_in counts originators lengths bytes) place blank
  here_is place e = sym (message_in_lem counts originators lengths bytes at inside) ∙ ap (λ (k : ℕ). get_or (messages_in counts originators lengths bytes) k blank) e

  pub queue_in : (number : MemberNumber) (submitted count : ℕ) (r : Bool) → at ≡ queue_place count → r ≡ queued_sound number submitted here count
      → r ≡ queue_sound number (messages_in counts originators lengths bytes) submitted count
  unfolding queued_sound queue_sound
  queue_in number submitted count r p e = e ∙ ap (λ (m : Message). queued_sound number submitted m count) (here_is (queue_place count) p)

  pub place_in : (n t i : ℕ) (r : Bool) → at ≡ place_of (t + (i + 1)) → r ≡ message_sound n here (t + i + 1) → r ≡ place_sound n (messages_in counts originators lengths bytes) (t + i + 1)
  unfolding message_sound place_sound
  place_in n t i r p e =
      let q : t + (i + 1) ≡ t + i + 1 = omega arith in
      e ∙ ap (λ (m : Message). message_sound n m (t + i + 1)) (here_is (place_of (t + i + 1)) (p ∙ ap (λ (k : ℕ). place_of k) q))

-- the front of a place, as it is lent from the place's start on
pub front_part : (bytes : List ℕ) (at size : ℕ) → size ≤ payload_most
    → take (at * payload_most + size - at * payload_most) (drop (at * payload_most) bytes) ≡ take size (part_of bytes at)
front_part bytes at size h =
    let e : at * payload_most + size - at * payload_most ≡ size = omega arith in
    rw e (sym (take-take size payload_most (drop (at * payload_most) bytes) h))

-- a payload with zeros behind it fills a place
pub padded_length : (payload : List ℕ) → length payload ≤ payload_most → length (padded payload) ≡ payload_most
padded_length payload h = simp (length-append, length-replicate) (omega arith)
