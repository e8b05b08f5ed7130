-- The law by which a loop over a table goes one entry on, for each way of going through it; and what each way finds says
-- about each entry. Assumes nothing.
use mathlib.Core.Path.{◌≡◌, refl, sym, ap, ◌∙◌}
use mathlib.Core.Bool.{Bool, true, false}
use mathlib.Core.List.{List, [], ◌∷◌}
use Prim.Native.Nat.{ℕ, zero, suc, ◌+◌, ◌-◌, ◌≤◌, ◌<◌}
use native.Mathlib.Numerals.{add-one}
use native.Mathlib.Nat.{le_refl, le_trans, zero-add}
use native.Mathlib.Omega.{arith}
use borrow.Author.Tests.{ltb-true, ltb-false}
use lib.ListN.{length, get_or, drop, drop_of_length-le}
use lib.Seq.{drop-cons}
use Rattle.group.specs.Choice.{when◌then◌else◌, ◌and◌, ◌<?◌}
use Rattle.group.specs.Fold.{all, all_above, least_of}
use Rattle.group.proofs.Choice.{when_true, when_false, both_hold, both_first, both_then}
use Rattle.group.proofs.Lists.{when_elim, eq_or}

module _ {A : Type 0} (test : ℕ → A → Bool) (l : List A) where
  -- from an index on: the entry there, then the rest
  pub all_step : (d : A) (i : ℕ) → i < length l → all test i (drop i l) ≡ test i (get_or l i d) and all test (i + 1) (drop (i + 1) l)
  unfolding all
  all_step d i h = rw (drop-cons l i d h, add-one)

  pub all_end : (i : ℕ) → length l ≤ i → all test i (drop i l) ≡ true
  unfolding all
  all_end i h = rw (drop_of_length-le l h)

module _ {A : Type 0} (test : ℕ → A → Bool) (l : List A) (i : ℕ) (inv : all test 0 l ≡ all test i (drop i l)) where
  -- a turn of the loop that asks `test` of each entry: on, off, and the end
  pub all_on : (d : A) (r : Bool) → i < length l → r ≡ test i (get_or l i d) → r ≡ true → all test 0 l ≡ all test (i + 1) (drop (i + 1) l)
  all_on d r h e t = inv ∙ all_step test l d i h ∙ sym (when_true (test i (get_or l i d)) _ _ false (sym e ∙ t) refl)

  pub all_off : (d : A) (r : Bool) → i < length l → r ≡ test i (get_or l i d) → r ≡ false → false ≡ all test 0 l
  all_off d r h e t = when_false (test i (get_or l i d)) false _ false (sym e ∙ t) refl ∙ sym (inv ∙ all_step test l d i h)

  pub all_done : length l ≤ i → true ≡ all test 0 l
  all_done h = sym (inv ∙ all_end test l i h)

-- the same for the loop that asks `test` of each of k numbers above f, after i of them
module _ (test : ℕ → Bool) (f k i : ℕ) (inv : all_above test f k ≡ all_above test (f + i) (k - i)) where
  pub above_step : i < k → all_above test f k ≡ test (f + i + 1) and all_above test (f + i + 1) (k - i - 1)
  unfolding all_above
  above_step h = let e : k - i ≡ suc (k - i - 1) = omega arith in inv ∙ ap (all_above test (f + i)) e

  pub above_on : (r : Bool) → i < k → r ≡ test (f + i + 1) → r ≡ true → all_above test f k ≡ all_above test (f + (i + 1)) (k - (i + 1))
  above_on r h e t =
      let a : f + i + 1 ≡ f + (i + 1) = omega arith in
      let b : k - i - 1 ≡ k - (i + 1) = omega arith in
      above_step h ∙ sym (when_true (test (f + i + 1)) _ _ false (sym e ∙ t) refl) ∙ rw (a, b)

  pub above_off : (r : Bool) → i < k → r ≡ test (f + i + 1) → r ≡ false → false ≡ all_above test f k
  above_off r h e t = when_false (test (f + i + 1)) false _ false (sym e ∙ t) refl ∙ sym (above_step h)

  pub above_done : k ≤ i → true ≡ all_above test f k
  unfolding all_above
  above_done h = let e : k - i ≡ 0 = omega arith in sym (inv ∙ ap (all_above test (f + i)) e)

module _ {A : Type 0} (test : ℕ → Bool) (value : A → ℕ) (m : ℕ) (l : List A) (i : ℕ) where
  -- a turn of the loop that looks for the smallest of the chosen, and its end
  pub least_of-step : (d : A) → i < length l
      → least_of test value i m (drop i l)
      ≡ least_of test value (i + 1) (when test i and value (get_or l i d) <? m then value (get_or l i d) else m) (drop (i + 1) l)
  unfolding least_of
  least_of-step d h =
      ap (λ (r : List A). least_of test value i m r) (drop-cons l i d h)
      ∙ ap (λ (k : ℕ). least_of test value (i + 1) (when test i and value (get_or l i d) <? m then value (get_or l i d) else m) (drop k l)) (sym (add-one i))

  pub least_of-end : length l ≤ i → least_of test value i m (drop i l) ≡ m
  unfolding least_of
  least_of-end h = rw (drop_of_length-le l h)

-- what holds of each entry holds at each index, and the other way round
module _ {A : Type 0} (test : ℕ → A → Bool) (d : A) where
  all_from : (i : ℕ) (l : List A) → all test i l ≡ true → (j : ℕ) → j < length l → test (i + j) (get_or l j d) ≡ true
  unfolding all
  all_from i [] e j h = absurd (omega arith)
  all_from i (x ∷ l) e zero h = let z : i + 0 ≡ i = omega arith in rw z (both_first (test i x) (all test (i + 1) l) e)
  all_from i (x ∷ l) e (suc j) h =
      let z : i + suc j ≡ i + 1 + j = omega arith in
      rw z (all_from (i + 1) l (both_then (test i x) (all test (i + 1) l) e) j (omega arith))

  from_all : (i : ℕ) (l : List A) → ((j : ℕ) → j < length l → test (i + j) (get_or l j d) ≡ true) → all test i l ≡ true
  unfolding all
  from_all i [] e = refl
  from_all i (x ∷ l) e =
      let z : i + 0 ≡ i = omega arith in
      both_hold (test i x) (all test (i + 1) l) (rw z at (e 0 (omega arith)))
      (from_all (i + 1) l (λ j h. let y : i + suc j ≡ i + 1 + j = omega arith in rw y at (e (suc j) (omega arith))))

  pub all_at : (l : List A) → all test 0 l ≡ true → (j : ℕ) → j < length l → test j (get_or l j d) ≡ true
  all_at l e j h = rw zero-add at (all_from 0 l e j h)

  pub at_all : (l : List A) → ((j : ℕ) → j < length l → test j (get_or l j d) ≡ true) → all test 0 l ≡ true
  at_all l e = from_all 0 l (λ j h. rw zero-add (e j h))

-- the same of the k numbers above f
module _ (test : ℕ → Bool) where
  pub above_each : (f k : ℕ) → all_above test f k ≡ true → (s : ℕ) → f < s → s ≤ f + k → test s ≡ true
  unfolding all_above
  above_each f zero e s a b = absurd (omega arith)
  above_each f (suc k) e s a b =
      eq_or s (f + 1) (λ q. rw q (both_first (test (f + 1)) (all_above test (f + 1) k) e))
      (λ q. above_each (f + 1) k (both_then (test (f + 1)) (all_above test (f + 1) k) e) s (omega arith) (omega arith))

  pub above_all : (f k : ℕ) → ((s : ℕ) → f < s → s ≤ f + k → test s ≡ true) → all_above test f k ≡ true
  unfolding all_above
  above_all f zero e = refl
  above_all f (suc k) e =
      both_hold (test (f + 1)) (all_above test (f + 1) k) (e (f + 1) (omega arith) (omega arith))
      (above_all (f + 1) k (λ s a b. e s (omega arith) (omega arith)))

-- the smallest of the entries that are chosen is at most what it was compared with, at most each of them, and at least what all of them are
module _ {A : Type 0} (test : ℕ → Bool) (value : A → ℕ) (d : A) where
  abbrev picked : ℕ → A → ℕ → ℕ
  picked i x m = when test i and value x <? m then value x else m

  picked_first : (i : ℕ) (x : A) (m : ℕ) → picked i x m ≤ m
  picked_first i x m =
      when_elim (λ (y : ℕ). y ≤ m) (test i and value x <? m) (λ t. let z = ltb-true (value x) m (both_then (test i) _ t) in omega arith) (λ t. le_refl m)

  picked_most : (i : ℕ) (x : A) (m : ℕ) → test i ≡ true → picked i x m ≤ value x
  picked_most i x m e =
      when_elim (λ (y : ℕ). y ≤ value x) (test i and value x <? m) (λ t. le_refl (value x))
      (λ t. ltb-false (value x) m (when_true (test i) (value x <? m) _ false e refl ∙ t))

  pub least_of-first : (i m : ℕ) (l : List A) → least_of test value i m l ≤ m
  unfolding least_of
  least_of-first i m [] = le_refl m
  least_of-first i m (x ∷ l) = le_trans (least_of-first (i + 1) (picked i x m) l) (picked_first i x m)

  most_from : (m i : ℕ) (l : List A) (j : ℕ) → j < length l → test (i + j) ≡ true → least_of test value i m l ≤ value (get_or l j d)
  unfolding least_of
  most_from m i [] j h e = absurd (omega arith)
  most_from m i (x ∷ l) zero h e =
      let z : i + 0 ≡ i = omega arith in
      le_trans (least_of-first (i + 1) (picked i x m) l) (picked_most i x m (rw z at e))
  most_from m i (x ∷ l) (suc j) h e =
      let z : i + suc j ≡ i + 1 + j = omega arith in
      most_from (picked i x m) (i + 1) l j (omega arith) (rw z at e)

  least_from : (b m i : ℕ) (l : List A) → b ≤ m → ((j : ℕ) → j < length l → test (i + j) ≡ true → b ≤ value (get_or l j d)) → b ≤ least_of test value i m l
  unfolding least_of
  least_from b m i [] h e = h
  least_from b m i (x ∷ l) h e =
      let z : i + 0 ≡ i = omega arith in
      least_from b (picked i x m) (i + 1) l
      (when_elim (λ (y : ℕ). b ≤ y) (test i and value x <? m) (λ t. e 0 (omega arith) (rw z (both_first (test i) _ t))) (λ t. h))
      (λ j k t. let y : i + 1 + j ≡ i + suc j = omega arith in e (suc j) (omega arith) (rw y at t))

  pub least_of-most : (m : ℕ) (l : List A) (j : ℕ) → j < length l → test j ≡ true → least_of test value 0 m l ≤ value (get_or l j d)
  least_of-most m l j h e = most_from m 0 l j h (rw zero-add e)

  pub least_of-least : (b m : ℕ) (l : List A) → b ≤ m → ((j : ℕ) → j < length l → test j ≡ true → b ≤ value (get_or l j d)) → b ≤ least_of test value 0 m l
  least_of-least b m l h e = least_from b m 0 l h (λ j k t. e j k (rw zero-add at t))
