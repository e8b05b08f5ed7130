-- Marks that are set for some numbers, found and cleared: the numbers outside keep theirs; and what soundness says of a mark. Assumes
-- nothing.
use mathlib.Core.Path.{◌≡◌, refl, sym, ap, ◌∙◌}
use mathlib.Core.Logic.{◌≢◌, ◌⊎◌, inl, inr}
use mathlib.Core.Bool.{Bool, true, false}
use mathlib.Core.List.{List}
use Prim.Native.Nat.{ℕ, zero, suc, ◌+◌, ◌^◌, ◌≤◌, ◌<◌}
use native.Mathlib.Omega.{arith}
use borrow.Author.Tests.{leb-true, leb-false, le-leb, lt-leb, ltb-true, lt-ltb, le-ltb, eqb-true, eq-eqb}
use lib.Bits.{bit_and, bit_or, or_lt}
use lib.Count.{ones}
use lib.ListN.{length, get_or, set, length-set, get_or-eq_default}
use lib.Pow.{pow_pos, pow-lt}
use lib.Seq.{get_or-set_same, get_or-set_other}
use Rattle.group.proofs.Choice.{when_true, when_false, both_hold, first_fails, then_fails, both_first, both_then}
use Rattle.group.proofs.Lists.{when_elim, eq_or, le_or}
use Rattle.group.specs.Choice.{◌and◌, ◌<?◌, ◌≤?◌}
use Rattle.group.specs.Limits.{places_most, members_most}
use Rattle.group.specs.Members.{only_of}
use Rattle.group.specs.declared.MemberNumber.{MemberNumber}
use Rattle.history.specs.Marks.{mark_at, marked_of, enough_of, unmarked_of, mark_sound}
use Rattle.history.specs.State.{place_of}

-- a number outside the k above f, of the 32 above b
pub record Apart (b f k number : ℕ) : Type 0 where
  pub low : b ≤ f
  pub high : f + k ≤ b + places_most
  pub least : b < number
  pub most : number ≤ b + places_most
  pub apart : (number ≤ f) ⊎ (f + k < number)

apart_less : (b f k number : ℕ) → Apart b f (suc k) number → (place_of number ≢ place_of (f + suc k)) × Apart b f k number
apart_less b f k number a = go a.apart
  where
    go : (number ≤ f) ⊎ (f + suc k < number) → (place_of number ≢ place_of (f + suc k)) × Apart b f k number
    go (inl h) = (
      λ e. let p = a.low in let q = a.high in let r = a.least in let s = a.most in omega arith,
      record { low = a.low; high = (let q = a.high in omega arith); least = a.least; most = a.most; apart = inl h },
    )
    go (inr h) = (
      λ e. let p = a.low in let q = a.high in let r = a.least in let s = a.most in omega arith,
      record { low = a.low; high = (let q = a.high in omega arith); least = a.least; most = a.most; apart = inr (omega arith) },
    )

-- the mark of one place is replaced
set_lt : (marks : List ℕ) (p x i : ℕ) → x < 2 ^ members_most → ((j : ℕ) → get_or marks j 0 < 2 ^ members_most) → get_or (set marks p x) i 0 < 2 ^ members_most
set_lt marks p x i h e =
    eq_or i p
    (λ q. le_or (length marks) p
    (λ l. let y = length-set marks p x in
    rw (get_or-eq_default (set marks p x) 0 {n = i} (omega arith)) (pow_pos members_most))
    (λ l. rw (q, get_or-set_same marks p x 0 l) h))
    (λ q. rw (get_or-set_other marks p i x 0 q) (e i))

module _ (marks : List ℕ) (m : MemberNumber) (f : ℕ) where
  pub marked_length : (k : ℕ) → length (marked_of marks m f k) ≡ length marks
  unfolding marked_of
  marked_length zero = refl
  marked_length (suc k) = length-set (marked_of marks m f k) (place_of (f + suc k)) _ ∙ marked_length k

  pub marked_other : (b k number : ℕ) → Apart b f k number → mark_at (marked_of marks m f k) number ≡ mark_at marks number
  unfolding marked_of
  marked_other b zero number a = refl
  marked_other b (suc k) number a =
      let z = apart_less b f k number a in
      get_or-set_other (marked_of marks m f k) (place_of (f + suc k)) (place_of number) _ 0 z.0 ∙ marked_other b k number z.1

  pub marked_at : length marks ≡ places_most → (k number : ℕ) → k ≤ places_most → f < number → number ≤ f + k
      → mark_at (marked_of marks m f k) number ≡ bit_or (mark_at marks number) (only_of m)
  unfolding marked_of
  marked_at l zero number h a b = absurd (omega arith)
  marked_at l (suc k) number h a b =
      let marks' = marked_of marks m f k in
      let z = marked_length k in
      eq_or number (f + suc k)
      (λ q. rw q
      (get_or-set_same marks' (place_of (f + suc k)) _ 0 (omega arith)
      ∙ ap (λ (x : ℕ). bit_or x (only_of m))
      (marked_other f k (f + suc k) (record { low = omega arith; high = omega arith; least = omega arith; most = omega arith; apart = inr (omega arith) }))))
      (λ q. get_or-set_other marks' (place_of (f + suc k)) (place_of number) _ 0 (λ e. q (omega arith)) ∙ marked_at l k number (omega arith) a (omega arith))

  pub marked_lt : m.0 < members_most → ((i : ℕ) → get_or marks i 0 < 2 ^ members_most) → (k i : ℕ) → get_or (marked_of marks m f k) i 0 < 2 ^ members_most
  unfolding marked_of
  marked_lt h e zero i = e i
  marked_lt h e (suc k) i =
      let marks' = marked_of marks m f k in
      set_lt marks' (place_of (f + suc k)) _ i (or_lt members_most (mark_at marks' (f + suc k)) (only_of m) (marked_lt h e k (place_of (f + suc k))) (pow-lt h)) (marked_lt h e k)

module _ (marks : List ℕ) (f : ℕ) where
  pub unmarked_length : (k : ℕ) → length (unmarked_of marks f k) ≡ length marks
  unfolding unmarked_of
  unmarked_length zero = refl
  unmarked_length (suc k) = length-set (unmarked_of marks f k) (place_of (f + suc k)) 0 ∙ unmarked_length k

  pub unmarked_other : (b k number : ℕ) → Apart b f k number → mark_at (unmarked_of marks f k) number ≡ mark_at marks number
  unfolding unmarked_of
  unmarked_other b zero number a = refl
  unmarked_other b (suc k) number a =
      let z = apart_less b f k number a in
      get_or-set_other (unmarked_of marks f k) (place_of (f + suc k)) (place_of number) 0 0 z.0 ∙ unmarked_other b k number z.1

  pub unmarked_at : length marks ≡ places_most → (k number : ℕ) → k ≤ places_most → f < number → number ≤ f + k → mark_at (unmarked_of marks f k) number ≡ 0
  unfolding unmarked_of
  unmarked_at l zero number h a b = absurd (omega arith)
  unmarked_at l (suc k) number h a b =
      let marks' = unmarked_of marks f k in
      let z = unmarked_length k in
      eq_or number (f + suc k)
      (λ q. rw q (get_or-set_same marks' (place_of (f + suc k)) 0 0 (omega arith)))
      (λ q. get_or-set_other marks' (place_of (f + suc k)) (place_of number) 0 0 (λ e. q (omega arith)) ∙ unmarked_at l k number (omega arith) a (omega arith))

  pub unmarked_lt : ((i : ℕ) → get_or marks i 0 < 2 ^ members_most) → (k i : ℕ) → get_or (unmarked_of marks f k) i 0 < 2 ^ members_most
  unfolding unmarked_of
  unmarked_lt e zero i = e i
  unmarked_lt e (suc k) i = set_lt (unmarked_of marks f k) (place_of (f + suc k)) 0 i (pow_pos members_most) (unmarked_lt e k)

-- what is found, unless it is 0, is one of the k numbers above f, and has enough marks
pub enough_in_lem : (marks : List ℕ) (needed f k : ℕ) → enough_of marks needed f k ≢ 0
    → (f < enough_of marks needed f k) × (enough_of marks needed f k ≤ f + k) × (needed ≤ ones (mark_at marks (enough_of marks needed f k)))
unfolding enough_of
enough_in_lem marks needed f zero some = absurd (some refl)
enough_in_lem marks needed f (suc k) some =
    when_elim (λ (x : ℕ). x ≢ 0 → (f < x) × (x ≤ f + suc k) × (needed ≤ ones (mark_at marks x))) (needed ≤? ones (mark_at marks (f + suc k)))
    (λ t q. (omega arith, omega arith, leb-true needed _ t))
    (λ t q. let z = enough_in_lem marks needed f k q in (z.0, (let y = z.1 in omega arith), z.2)) some

-- above it none has
pub enough_highest : (marks : List ℕ) (needed f k j : ℕ) → enough_of marks needed f k < j → f < j → j ≤ f + k → ones (mark_at marks j) < needed
unfolding enough_of
enough_highest marks needed f zero j above low high = absurd (omega arith)
enough_highest marks needed f (suc k) j above low high =
    when_elim (λ (x : ℕ). x < j → ones (mark_at marks j) < needed) (needed ≤? ones (mark_at marks (f + suc k)))
    (λ t q. absurd (omega arith))
    (λ t q. eq_or j (f + suc k) (λ e. rw e (leb-false needed _ t)) (λ e. enough_highest marks needed f k j q low (omega arith))) above

-- what soundness says of the mark of a number
module _ (expected : ℕ) (marks : List ℕ) (accepted top number : ℕ) where
  pub mark_inside : accepted < number → number ≤ top → mark_sound expected marks accepted top number ≡ true → bit_and (mark_at marks number) expected ≡ mark_at marks number
  unfolding mark_sound
  mark_inside a b e =
      eqb-true _ _ (when_true (accepted <? number and number ≤? top) _ _ _ (both_hold _ _ (lt-ltb accepted number a) (le-leb number top b)) refl ∙ e)

  pub mark_below : number ≤ accepted → mark_sound expected marks accepted top number ≡ true → mark_at marks number ≡ 0
  unfolding mark_sound
  mark_below a e =
      eqb-true _ _ (when_false (accepted <? number and number ≤? top) _ _ _ (first_fails _ _ (le-ltb accepted number a)) refl ∙ e)

  pub mark_above : top < number → mark_sound expected marks accepted top number ≡ true → mark_at marks number ≡ 0
  unfolding mark_sound
  mark_above a e =
      eqb-true _ _ (when_false (accepted <? number and number ≤? top) _ _ _ (then_fails _ _ (lt-leb number top a)) refl ∙ e)

  pub mark_sound_lem : (accepted < number → number ≤ top → bit_and (mark_at marks number) expected ≡ mark_at marks number)
      → (number ≤ accepted → mark_at marks number ≡ 0) → (top < number → mark_at marks number ≡ 0) → mark_sound expected marks accepted top number ≡ true
  unfolding mark_sound
  mark_sound_lem inside below above =
      when_elim (λ (x : Bool). x ≡ true) (accepted <? number and number ≤? top)
      (λ t. eq-eqb _ _ (inside (ltb-true accepted number (both_first _ _ t)) (leb-true number top (both_then _ _ t))))
      (λ t. eq-eqb _ _ (le_or number accepted below (λ h. le_or number top
      (λ k. absurd (let z : true ≡ false = sym (both_hold _ _ (lt-ltb accepted number h) (le-leb number top k)) ∙ t in let y : ◌≡◌ {A = ℕ} 0 1 = cc in omega arith))
      above)))
