-- Who is elected replied, and with the highest number. Assumes nothing.
use mathlib.Core.Path.{◌≡◌, refl, subst}
use mathlib.Core.Logic.{◌⊎◌, inl, inr}
use mathlib.Core.Bool.{true}
use mathlib.Core.List.{List, [], ◌∷◌}
use Prim.Native.Nat.{ℕ, zero, suc, ◌+◌, ◌^◌, ◌≤◌, ◌<◌}
use native.Mathlib.Nat.{le_trans}
use native.Mathlib.Omega.{arith}
use borrow.Author.Tests.{eqb-true, eq-eqb}
use lib.Bits.{or_lt, or_comm}
use lib.ListN.{length, get_or}
use lib.Pow.{pow_pos, pow-lt}
use Rattle.group.proofs.Choice.{when_true, both_hold, both_first, both_then}
use Rattle.group.proofs.Lists.{when_elim, eq_or}
use Rattle.group.proofs.Members.{in_or, in_only, in_zero, lowest_in}
use Rattle.group.specs.Choice.{when◌then◌else◌, ◌and◌, ◌<?◌, ◌=?◌}
use Rattle.group.specs.Limits.{members_most}
use Rattle.group.specs.Members.{is_in, lowest}
use Rattle.window.proofs.Row.{larger_le}
use Rattle.window.specs.Places.{larger_of}
use Rattle.recovery.specs.Begin.{highest_of, holders_of, cut_of, chosen_of}
use Rattle.recovery.specs.State.{Reset}
use Rattle.recovery.proofs.Masks.{only_in, or_in}

module _ (repliers : ℕ) where
  -- what is counted of a member: its reply, or 0
  abbrev counted_as : ℕ → ℕ → ℕ
  counted_as i number = when is_in repliers i then number else 0

  -- no reply is above the highest
  highest_most : (i : ℕ) (l : List ℕ) (j : ℕ) → j < length l → is_in repliers (i + j) ≡ true → get_or l j 0 ≤ highest_of repliers i l
  unfolding highest_of
  highest_most i [] j h e = absurd (omega arith)
  highest_most i (x ∷ l) zero h e =
      let z : i + 0 ≡ i = omega arith in
      let a : x ≡ counted_as i x = when_true (is_in repliers i) x x 0 (rw z at e) refl in
      le_trans (omega arith) (larger_le (counted_as i x) (highest_of repliers (i + 1) l)).0
  highest_most i (x ∷ l) (suc j) h e =
      let z : i + suc j ≡ i + 1 + j = omega arith in
      le_trans (highest_most (i + 1) l j (omega arith) (rw z at e)) (larger_le (counted_as i x) (highest_of repliers (i + 1) l)).1

  -- it is somebody's, where the first entry is member i's
  abbrev Somebody : ℕ → List ℕ → ℕ → Type 0
  Somebody i l highest = (k : ℕ) × (k < length l) × (is_in repliers (i + k) ≡ true) × (get_or l k 0 ≡ highest)

  later : (i x : ℕ) (l : List ℕ) (highest : ℕ) → Somebody (i + 1) l highest → Somebody i (x ∷ l) highest
  later i x l highest s =
      let z : i + 1 + s.0 ≡ i + suc s.0 = omega arith in
      (suc s.0, (let k = s.1 in omega arith), rw z at s.2, s.3)

  here : (i x : ℕ) (l : List ℕ) → 0 < counted_as i x → Somebody i (x ∷ l) (counted_as i x)
  here i x l =
      when_elim (λ (k : ℕ). 0 < k → Somebody i (x ∷ l) k) (is_in repliers i)
      (λ t p. let z : i ≡ i + 0 = omega arith in (0, omega arith, rw z at t, refl))
      (λ t p. absurd (omega arith))

  larger_pick : (i x : ℕ) (l : List ℕ) (a b : ℕ) → (0 < a → Somebody i (x ∷ l) a) → (0 < b → Somebody i (x ∷ l) b) → 0 < larger_of a b → Somebody i (x ∷ l) (larger_of a b)
  unfolding larger_of
  larger_pick i x l a b f g = when_elim (λ (k : ℕ). 0 < k → Somebody i (x ∷ l) k) (a <? b) (λ _. g) (λ _. f)

  highest_is : (i : ℕ) (l : List ℕ) → 0 < highest_of repliers i l → Somebody i l (highest_of repliers i l)
  unfolding highest_of
  highest_is i [] h = absurd (omega arith)
  highest_is i (x ∷ l) h =
      larger_pick i x l (counted_as i x) (highest_of repliers (i + 1) l) (here i x l) (λ p. later i x l (highest_of repliers (i + 1) l) (highest_is (i + 1) l p)) h

  -- where somebody replied
  pub somebody : (l : List ℕ) (j : ℕ) → j < length l → is_in repliers j ≡ true → Somebody 0 l (highest_of repliers 0 l)
  somebody l j h e =
      let z : 0 + j ≡ j = omega arith in
      eq_or (highest_of repliers 0 l) 0
      (λ q. let m = highest_most 0 l j h (rw z e) in (j, h, rw z e, omega arith))
      (λ q. highest_is 0 l (omega arith))

  -- those that replied with a number
  module _ (highest : ℕ) where
    abbrev holder_as : ℕ → ℕ → ℕ
    holder_as i number = when is_in repliers i and number =? highest then 2 ^ i else 0

    pub holders_in : (i : ℕ) (l : List ℕ) (s : ℕ) → is_in (holders_of repliers highest i l) s ≡ true → (k : ℕ) × (s ≡ i + k) × (is_in repliers s ≡ true) × (get_or l k 0 ≡ highest)
    unfolding holders_of
    holders_in i [] s e = absurd (in_zero s e)
    holders_in i (x ∷ l) s e = either (holders_in (i + 1) l s) (in_or (holder_as i x) (holders_of repliers highest (i + 1) l) s e)
      where
        either : (is_in (holders_of repliers highest (i + 1) l) s ≡ true → (k : ℕ) × (s ≡ i + 1 + k) × (is_in repliers s ≡ true) × (get_or l k 0 ≡ highest))
            → (is_in (holder_as i x) s ≡ true) ⊎ (is_in (holders_of repliers highest (i + 1) l) s ≡ true)
            → (k : ℕ) × (s ≡ i + k) × (is_in repliers s ≡ true) × (get_or (x ∷ l) k 0 ≡ highest)
        either rest (inl h) =
            when_elim (λ (mask : ℕ). is_in mask s ≡ true → (k : ℕ) × (s ≡ i + k) × (is_in repliers s ≡ true) × (get_or (x ∷ l) k 0 ≡ highest)) (is_in repliers i and x =? highest)
            (λ t y. let q = in_only i s y in (0, omega arith, rw q (both_first (is_in repliers i) _ t), eqb-true x highest (both_then (is_in repliers i) _ t)))
            (λ _ y. absurd (in_zero s y)) h
        either rest (inr h) = let y = rest h in let q = y.1 in (suc y.0, omega arith, y.2, y.3)

    pub in_holders : (i : ℕ) (l : List ℕ) (k : ℕ) → k < length l → is_in repliers (i + k) ≡ true → get_or l k 0 ≡ highest → is_in (holders_of repliers highest i l) (i + k) ≡ true
    unfolding holders_of
    in_holders i [] k h e q = absurd (omega arith)
    in_holders i (x ∷ l) zero h e q =
        let z : i + 0 ≡ i = omega arith in
        let a : 2 ^ i ≡ holder_as i x = when_true (is_in repliers i and x =? highest) (2 ^ i) (2 ^ i) 0 (both_hold _ _ (rw z at e) (eq-eqb x highest q)) refl in
        rw z (or_in (holder_as i x) (holders_of repliers highest (i + 1) l) i (subst (λ (mask : ℕ). is_in mask i ≡ true) a (only_in i)))
    in_holders i (x ∷ l) (suc k) h e q =
        let z : i + suc k ≡ i + 1 + k = omega arith in
        let rest = in_holders (i + 1) l k (omega arith) (rw z at e) q in
        rw (z, or_comm (holder_as i x) (holders_of repliers highest (i + 1) l)) (or_in (holders_of repliers highest (i + 1) l) (holder_as i x) (i + 1 + k) rest)

    holders_lt : (i : ℕ) (l : List ℕ) → holders_of repliers highest i l < 2 ^ (i + length l)
    unfolding holders_of
    holders_lt i [] = pow_pos (i + 0)
    holders_lt i (x ∷ l) =
        let z : i + suc (length l) ≡ i + 1 + length l = omega arith in
        rw z
        (or_lt (i + 1 + length l) (holder_as i x) (holders_of repliers highest (i + 1) l)
        (when_elim (λ (mask : ℕ). mask < 2 ^ (i + 1 + length l)) (is_in repliers i and x =? highest) (λ _. pow-lt {i = i} {j = i + 1 + length l} (omega arith)) (λ _. pow_pos (i + 1 + length l)))
        (holders_lt (i + 1) l))

-- no reply is above where the order ends
pub cut_most : (r : Reset) (j : ℕ) → j < length r.replies → is_in r.repliers j ≡ true → get_or r.replies j 0 ≤ cut_of r
cut_most r j h e = let z : 0 + j ≡ j = omega arith in highest_most r.repliers 0 r.replies j h (rw z e)

-- the elected one
pub chosen_replied : (r : Reset) → length r.replies ≡ members_most → (i : ℕ) → i < members_most → is_in r.repliers i ≡ true
    → (is_in r.repliers (chosen_of r).0 ≡ true) × (get_or r.replies (chosen_of r).0 0 ≡ cut_of r)
chosen_replied r long i h e =
    let l = r.replies in
    let highest = highest_of r.repliers 0 l in
    let holders = holders_of r.repliers highest 0 l in
    let s = somebody r.repliers l i (omega arith) e in
    let one = in_holders r.repliers highest 0 l s.0 s.1 s.2 s.3 in
    let most : holders < 2 ^ members_most = rw long at (holders_lt r.repliers highest 0 l) in
    let some : 0 < holders = eq_or holders 0 (λ q. absurd (in_zero (0 + s.0) (rw q at one))) (λ q. omega arith) in
    let x = holders_in r.repliers highest 0 l (lowest holders) (lowest_in holders some most) in
    let same : lowest holders ≡ x.0 = (let q = x.1 in omega arith) in
    (x.2, rw same x.3)
