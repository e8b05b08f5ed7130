-- Where a number stands in a rising table, and room made in a table. Assumes nothing.
use mathlib.Core.Path.{◌≡◌, refl, ap, ◌∙◌}
use mathlib.Core.List.{List, [], ◌∷◌, ◌++◌, append-nil}
use Prim.Native.Nat.{ℕ, zero, suc, ◌+◌, ◌≤◌, ◌<◌}
use native.Mathlib.Omega.{arith}
use native.Mathlib.Nat.{not-suc-le-zero, le_of_suc-le-suc}
use native.Mathlib.Numerals.{add-one}
use lib.ListN.{length, get_or, set, take, drop, drop_of_length-le, length-take}
use Rattle.group.proofs.Choice.{when_lt, when_nlt}
use Rattle.plan.specs.Table.{place_of, inserted}

-- the numbers before `low` lie below, those from `high` on do not
pub record Bounds (number : ℕ) (l : List ℕ) (low high : ℕ) : Type 0 where
  pub below : (i : ℕ) → i < low → get_or l i 0 < number
  pub above : (i : ℕ) → high ≤ i → i < length l → number ≤ get_or l i 0

-- where the two meet is the place
pub place_is : (number : ℕ) (l : List ℕ) (k : ℕ) → k ≤ length l → Bounds number l k k → k ≡ place_of number l
unfolding place_of
place_is number [] k h b = omega arith
place_is number (x ∷ l) zero h b =
    when_nlt x number _ _ _ (let z = b.above 0 (omega arith) (omega arith) in omega arith) refl
place_is number (x ∷ l) (suc k) h b =
    when_lt x number _ _ _ (b.below 0 (omega arith))
    (let e = place_is number l k (omega arith) (record { below = λ i g. b.below (suc i) (omega arith); above = λ i g n. b.above (suc i) (omega arith) (omega arith) }) in omega arith)

-- room made at an index, an element a turn from the last one down, and an element put there: before the first turn, a turn, and after the last
module _ {A : Type 0} where
  moved : (t : List A) (k count : ℕ) (d : A) → k < count → count < length t
      → take k (set t (suc k) (get_or t k d)) ++ drop (suc k) (take (suc count) (set t (suc k) (get_or t k d)))
      ≡ take (suc k) t ++ drop (suc (suc k)) (take (suc count) t)
  moved t k zero d h n = absurd (not-suc-le-zero h)
  moved [] k (suc count) d h n = absurd (not-suc-le-zero n)
  moved (y ∷ []) zero (suc count) d h n = absurd (not-suc-le-zero (le_of_suc-le-suc n))
  moved (y ∷ (z ∷ t)) zero (suc count) d h n = refl
  moved (y ∷ t) (suc k) (suc count) d h n = ap (λ (l : List A). y ∷ l) (moved t k count d (le_of_suc-le-suc h) (le_of_suc-le-suc n))

  turn : (t : List A) (at k count : ℕ) (x d : A) → at ≤ k → k < count → count < length t
      → inserted at x (take k (set t (suc k) (get_or t k d))) ++ drop (suc k) (take (suc count) (set t (suc k) (get_or t k d)))
      ≡ inserted at x (take (suc k) t) ++ drop (suc (suc k)) (take (suc count) t)
  turn t zero k count x d low h n = ap (λ (l : List A). x ∷ l) (moved t k count d h n)
  turn [] (suc at) k count x d low h n = absurd (not-suc-le-zero n)
  turn (y ∷ t) (suc at) zero count x d low h n = absurd (not-suc-le-zero low)
  turn (y ∷ t) (suc at) (suc k) zero x d low h n = absurd (not-suc-le-zero h)
  turn (y ∷ t) (suc at) (suc k) (suc count) x d low h n =
      ap (λ (l : List A). y ∷ l) (turn t at k count x d (le_of_suc-le-suc low) (le_of_suc-le-suc h) (le_of_suc-le-suc n))

  last : (t : List A) (at count : ℕ) (x : A) → at ≤ count → count < length t
      → take (suc count) (set t at x) ≡ inserted at x (take at t) ++ drop (suc at) (take (suc count) t)
  last [] at count x low n = absurd (not-suc-le-zero n)
  last (y ∷ t) zero count x low n = refl
  last (y ∷ t) (suc at) zero x low n = absurd (not-suc-le-zero low)
  last (y ∷ t) (suc at) (suc count) x low n = ap (λ (l : List A). y ∷ l) (last t at count x (le_of_suc-le-suc low) (le_of_suc-le-suc n))

  pub room_first : (t : List A) (at count : ℕ) (x : A) → inserted at x (take count t) ++ drop (count + 1) (take (count + 1) t) ≡ inserted at x (take count t)
  room_first t at count x =
      let n = length-take (count + 1) t in
      ap (λ (l : List A). inserted at x (take count t) ++ l) (drop_of_length-le (take (count + 1) t) {i = count + 1} (omega (arith, n)))
      ∙ append-nil (inserted at x (take count t))

  pub room_next : (t : List A) (at k count : ℕ) (x d : A) → at ≤ k → k < count → count < length t
      → inserted at x (take k (set t (k + 1) (get_or t k d))) ++ drop (k + 1) (take (count + 1) (set t (k + 1) (get_or t k d)))
      ≡ inserted at x (take (k + 1) t) ++ drop (k + 1 + 1) (take (count + 1) t)
  room_next t at k count x d low h n = rw (add-one (k + 1), add-one k, add-one count) (turn t at k count x d low h n)

  pub room_last : (t : List A) (at count : ℕ) (x : A) → at ≤ count → count < length t
      → take (count + 1) (set t at x) ≡ inserted at x (take at t) ++ drop (at + 1) (take (count + 1) t)
  room_last t at count x low n = rw (add-one at, add-one count) (last t at count x low n)
