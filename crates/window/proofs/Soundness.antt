-- What the tests of question 1 say of the parts of a member's state, as facts by name: the tests give the facts, and the facts the
-- tests.
-- Assumes nothing.
use mathlib.Core.Path.{◌≡◌, refl, ◌∙◌}
use mathlib.Core.Bool.{Bool, true}
use mathlib.Core.List.{List}
use Prim.Native.Nat.{ℕ, ◌+◌, ◌-◌, ◌≤◌, ◌<◌}
use native.Mathlib.Omega.{arith}
use borrow.Author.Tests.{lt-ltb, le-ltb, le-leb, lt-leb, eq-eqb, ltb-true, ltb-false, leb-true, leb-false}
use Rattle.group.specs.Choice.{◌≤?◌}
use Rattle.group.specs.Fold.{all_above}
use Rattle.group.specs.Limits.{held_most, payload_most, waiting_most, largest_number}
use Rattle.group.specs.declared.MemberNumber.{MemberNumber}
use Rattle.group.proofs.Choice.{when_true, when_false, both_hold, both_then, says}
use Rattle.group.proofs.Fold.{above_each, above_all}
use Rattle.group.proofs.Lists.{when_elim}
use Rattle.message.specs.Message.{Message, zero_behind, is_empty}
use Rattle.window.specs.Sound.{place_sound, queue_sound, waiting_sound}
use Rattle.window.specs.Places.{message_at, is_held, queued_at}

-- a message that a member of a group of n holds under number k
pub record HeldSound (n k : ℕ) (message : Message) : Type 0 where
  pub originator_lt : message.originator.0 < n
  pub short : message.length ≤ payload_most
  pub zero_behind_lem : zero_behind message ≡ true
  pub number_le : k ≤ largest_number

-- the waiting message of member `number` that has that count
pub record QueuedSound (number count : ℕ) (message : Message) : Type 0 where
  pub originator_is : message.originator.0 ≡ number
  pub count_is : message.count ≡ count
  pub short : message.length ≤ payload_most
  pub zero_behind_lem : zero_behind message ≡ true

-- the last `waiting` of the submissions wait, and the other places of the five are empty
pub record WaitingSound (number submitted waiting : ℕ) (queue : List Message) : Type 0 where
  pub most : waiting ≤ waiting_most
  pub enough : waiting ≤ submitted
  pub waits : (c : ℕ) → submitted - waiting < c → c ≤ submitted → QueuedSound number c (queued_at queue c)
  pub idle : (c : ℕ) → submitted < c → c ≤ submitted - waiting + waiting_most → is_empty (queued_at queue c) ≡ true

-- the places for numbers t + 1 to t + 8
pub record PlacesSound (n t : ℕ) (held : List Message) : Type 0 where
  pub holds : (k : ℕ) → t < k → k ≤ t + held_most → 1 ≤ (message_at held k).count → HeldSound n k (message_at held k)
  pub free : (k : ℕ) → t < k → k ≤ t + held_most → (message_at held k).count ≡ 0 → is_empty (message_at held k) ≡ true

module _ (n : ℕ) (held : List Message) (k : ℕ) where
  held_of : place_sound n held k ≡ true → 1 ≤ (message_at held k).count → HeldSound n k (message_at held k)
  unfolding place_sound
  held_of e c =
      let a = when_true (is_held held k) _ _ (is_empty (message_at held k)) (lt-ltb 0 (message_at held k).count c) refl ∙ e in
      record { originator_lt = search says; short = search says; zero_behind_lem = search says; number_le = search says }

  free_of : place_sound n held k ≡ true → (message_at held k).count ≡ 0 → is_empty (message_at held k) ≡ true
  unfolding place_sound
  free_of e c = when_false (is_held held k) _ _ _ (le-ltb 0 (message_at held k).count (omega arith)) refl ∙ e

  of_place : (1 ≤ (message_at held k).count → HeldSound n k (message_at held k))
      → ((message_at held k).count ≡ 0 → is_empty (message_at held k) ≡ true) → place_sound n held k ≡ true
  unfolding place_sound
  of_place f g =
      when_elim (λ (b : Bool). b ≡ true) (is_held held k)
      (λ t. let h = f (ltb-true 0 (message_at held k).count t) in
      both_hold _ _ (lt-ltb _ _ h.originator_lt) (both_hold _ _ (le-leb _ _ h.short) (both_hold _ _ h.zero_behind_lem (le-leb _ _ h.number_le))))
      (λ t. g (let z = ltb-false 0 (message_at held k).count t in omega arith))

module _ (number : MemberNumber) (submitted : ℕ) (queue : List Message) where
  module _ (c : ℕ) where
    waits_of : queue_sound number queue submitted c ≡ true → c ≤ submitted → QueuedSound number.0 c (queued_at queue c)
    unfolding queue_sound
    waits_of e h =
        let a = when_true (c ≤? submitted) _ _ (is_empty (queued_at queue c)) (le-leb c submitted h) refl ∙ e in
        record { originator_is = search says; count_is = search says; short = search says; zero_behind_lem = search says }

    idle_of : queue_sound number queue submitted c ≡ true → submitted < c → is_empty (queued_at queue c) ≡ true
    unfolding queue_sound
    idle_of e h = when_false (c ≤? submitted) _ _ _ (lt-leb c submitted h) refl ∙ e

    of_queued : (c ≤ submitted → QueuedSound number.0 c (queued_at queue c)) → (submitted < c → is_empty (queued_at queue c) ≡ true)
        → queue_sound number queue submitted c ≡ true
    unfolding queue_sound
    of_queued f g =
        when_elim (λ (b : Bool). b ≡ true) (c ≤? submitted)
        (λ t. let h = f (leb-true c submitted t) in
        both_hold _ _ (eq-eqb _ _ h.originator_is) (both_hold _ _ (eq-eqb _ _ h.count_is) (both_hold _ _ (le-leb _ _ h.short) h.zero_behind_lem)))
        (λ t. g (leb-false c submitted t))

  pub waiting_of : (waiting : ℕ) → waiting_sound number submitted waiting queue ≡ true → WaitingSound number.0 submitted waiting queue
  unfolding waiting_sound
  waiting_of waiting e =
      let most : waiting ≤ waiting_most = search says in
      let enough : waiting ≤ submitted = search says in
      let each = above_each (queue_sound number queue submitted) (submitted - waiting) waiting_most (both_then _ _ (both_then _ _ e)) in
      record {
        most = most;
        enough = enough;
        waits = λ c lo hi. waits_of c (each c lo (omega arith)) hi;
        idle = λ c lo hi. idle_of c (each c (omega arith) hi) lo;
      }

  pub of_waiting : (waiting : ℕ) → WaitingSound number.0 submitted waiting queue → waiting_sound number submitted waiting queue ≡ true
  unfolding waiting_sound
  of_waiting waiting w =
      both_hold _ _ (le-leb _ _ w.most) (both_hold _ _ (le-leb _ _ w.enough)
      (above_all (queue_sound number queue submitted) (submitted - waiting) waiting_most (λ c lo hi. of_queued c (w.waits c lo) (λ h. w.idle c h hi))))

-- all eight places
module _ (n : ℕ) (held : List Message) (t : ℕ) where
  pub places_of : all_above (place_sound n held) t held_most ≡ true → PlacesSound n t held
  places_of e =
      let each = above_each (place_sound n held) t held_most e in
      record { holds = λ k lo hi. held_of n held k (each k lo hi); free = λ k lo hi. free_of n held k (each k lo hi) }

  pub of_places : PlacesSound n t held → all_above (place_sound n held) t held_most ≡ true
  of_places p = above_all (place_sound n held) t held_most (λ k lo hi. of_place n held k (p.holds k lo hi) (p.free k lo hi))
