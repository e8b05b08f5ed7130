-- The repeats of all members: a turn of the loop that adds them up, and its end; and an entry that has one repeat more adds one to
-- the count of all, held at the largest number, since an entry at the largest holds it there. Assumes nothing.
use mathlib.Core.Path.{◌≡◌, refl, sym, ap, ◌∙◌}
use mathlib.Core.List.{List, [], ◌∷◌}
use Prim.Native.Nat.{ℕ, zero, suc, ◌+◌, ◌≤◌, ◌<◌}
use native.Mathlib.Numerals.{add-one}
use native.Mathlib.Nat.{le_refl}
use native.Mathlib.Omega.{arith}
use borrow.Author.Tests.{lt-ltb, le-ltb}
use lib.ListN.{length, set, drop, drop_of_length-le, replicate}
use lib.Seq.{drop-cons}
use Rattle.group.proofs.Choice.{when_true, when_false}
use Rattle.group.proofs.Lists.{le_or}
use Rattle.group.specs.Choice.{◌<?◌}
use Rattle.group.specs.Limits.{largest_number}
use Rattle.history.specs.Repeat.{one_more, repeats_sum, repeats_of}
use Rattle.history.specs.State.{Acknowledgement, no_acknowledgement}
use Rattle.history.proofs.Soundness.{repeats_in}

module _ (table : List Acknowledgement) (i : ℕ) where
  pub sum_step : i < length table → repeats_sum (drop i table) ≡ repeats_in table i + repeats_sum (drop (i + 1) table)
  unfolding repeats_sum
  sum_step h = rw (drop-cons table i no_acknowledgement h, add-one)

  pub sum_end : length table ≤ i → repeats_sum (drop i table) ≡ 0
  unfolding repeats_sum
  sum_end h = rw (drop_of_length-le table h)

-- replacing an entry changes the sum by the difference of the two counts
sum_set : (table : List Acknowledgement) (i : ℕ) (x : Acknowledgement) → i < length table
    → repeats_sum (set table i x) + repeats_in table i ≡ repeats_sum table + x.repeats
unfolding repeats_sum
sum_set [] i x h = absurd (omega arith)
sum_set (a ∷ rest) zero x h = omega arith
sum_set (a ∷ rest) (suc i) x h = let z = sum_set rest i x (omega arith) in omega arith

-- one more, below the largest number and at it
more_low : (r : ℕ) → r < largest_number → one_more r ≡ r + 1
unfolding one_more
more_low r h = sym (when_true (r <? largest_number) _ _ _ (lt-ltb r largest_number h) refl)

more_high : (r : ℕ) → largest_number ≤ r → one_more r ≡ r
unfolding one_more
more_high r h = sym (when_false (r <? largest_number) _ _ _ (le-ltb r largest_number h) refl)

pub more_most : (r : ℕ) → r ≤ largest_number → one_more r ≤ largest_number
more_most r h =
    le_or largest_number r (λ k. let z = more_high r k in omega arith) (λ k. let z = more_low r k in omega arith)

-- the count of all, below the largest number and held at it
module _ (table : List Acknowledgement) where
  pub held_low : repeats_sum table < largest_number → repeats_of table ≡ repeats_sum table
  unfolding repeats_of
  held_low h = sym (when_true (repeats_sum table <? largest_number) _ _ _ (lt-ltb (repeats_sum table) largest_number h) refl)

  pub held_high : largest_number ≤ repeats_sum table → repeats_of table ≡ largest_number
  unfolding repeats_of
  held_high h = sym (when_false (repeats_sum table <? largest_number) _ _ _ (le-ltb (repeats_sum table) largest_number h) refl)

module _ (table : List Acknowledgement) (i : ℕ) (x : Acknowledgement) (inside : i < length table) where
  abbrev table' : List Acknowledgement
  table' = set table i x

  -- an entry with its own repeats leaves the count of all
  pub repeats_same : x.repeats ≡ repeats_in table i → repeats_of table' ≡ repeats_of table
  unfolding repeats_of
  repeats_same e =
      let z = sum_set table i x inside in
      let same : repeats_sum table' ≡ repeats_sum table = omega arith in
      rw same

  -- an entry with one repeat more adds one to it
  pub repeats_more : x.repeats ≡ one_more (repeats_in table i) → repeats_of table' ≡ one_more (repeats_of table)
  repeats_more e =
      let z = sum_set table i x inside in
      let y = sum_set table i no_acknowledgement inside in
      le_or largest_number (repeats_in table i)
      (λ h. let r = more_high (repeats_in table i) h in high (omega arith) (omega arith))
      (λ h.
      let r = more_low (repeats_in table i) h in
      le_or largest_number (repeats_sum table) (λ k. high (omega arith) k) (λ k. low k (omega arith)))
    where
      high : largest_number ≤ repeats_sum table' → largest_number ≤ repeats_sum table → repeats_of table' ≡ one_more (repeats_of table)
      high a b = held_high table' a ∙ sym (more_high largest_number (le_refl largest_number)) ∙ ap one_more (sym (held_high table b))

      low : repeats_sum table < largest_number → repeats_sum table' ≡ repeats_sum table + 1 → repeats_of table' ≡ one_more (repeats_of table)
      low b q =
          let is : repeats_of table' ≡ repeats_sum table + 1 =
          le_or largest_number (repeats_sum table') (λ a. let w = held_high table' a in omega arith) (λ a. let w = held_low table' a in omega arith) in
          is ∙ sym (more_low (repeats_sum table) b) ∙ ap one_more (sym (held_low table b))

-- nobody has repeated anything where nothing is known
none_sum : (k : ℕ) → repeats_sum (replicate k no_acknowledgement) ≡ 0
unfolding repeats_sum
none_sum zero = refl
none_sum (suc k) = let z = none_sum k in omega arith

pub repeats_none : (k : ℕ) → repeats_of (replicate k no_acknowledgement) ≡ 0
repeats_none k = let z = none_sum k in let w = held_low (replicate k no_acknowledgement) (omega arith) in omega arith
