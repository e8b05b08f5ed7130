-- Which members are in a mask that was made of others, and in the group's own. Assumes nothing.
use mathlib.Core.Path.{◌≡◌, refl, sym, ap, ap₂, ◌∙◌}
use mathlib.Core.Logic.{◌≢◌, ◌⊎◌, inl, inr}
use mathlib.Core.Bool.{Bool, true, false, false≢true}
use Prim.Native.Nat.{ℕ, zero, suc, ◌+◌, ◌-◌, ◌*◌, ◌/◌, ◌%◌, ◌^◌, ◌≤◌, ◌<◌, min, max}
use native.Mathlib.Nat.{mod-lt, zero-lt-suc, pow-suc, div-one, zero-div, zero-min, lt_of_lt_of_le, lt_of_le_of_lt, lt_of_not-le, div-eq_of_lt, one-mul}
use native.Mathlib.Omega.{arith}
use borrow.Author.Tests.{eqb-true, eq-eqb, eqb-false, le-leb, lt-ltb}
use lib.Arith.{bin_ind, lt-one}
use lib.Bits.{bit_and, bit_or, and_step, or_step, and_shr, or_shr, or_zero_l, or_zero_r, and_le_l, and_le_r, and_self, or_lt}
use lib.Count.{count_trailing_zeros, under, ones, ones_step}
use lib.Pow.{pow_pos, pow_mono, pow-lt, shl_exact}
use Rattle.group.specs.Choice.{when◌then◌else◌, ◌and◌, ◌=?◌}
use Rattle.group.specs.Limits.{members_most}
use Rattle.group.specs.Members.{is_in, lowest, without_lowest, lowest_of, all_of, elected_of, others_of, expected_of, needed_of, group_sound}
use Rattle.group.specs.Opening.{description_of}
use Rattle.group.specs.declared.Group.{Group}
use Rattle.group.proofs.Counting.{count, count_within, ones_count, half_lt, halves}
use Rattle.group.proofs.Choice.{both_hold, when_ne, says}
use Rattle.group.proofs.Lists.{when_elim, eq_or}

-- a digit is 0 or 1
digit : (a : ℕ) → (a % 2 ≡ 0) ⊎ (a % 2 ≡ 1)
digit a = go (a % 2) (mod-lt a (zero-lt-suc 1))
  where
    go : (r : ℕ) → r < 2 → (r ≡ 0) ⊎ (r ≡ 1)
    go zero h = inl refl
    go (suc zero) h = inr refl
    go (suc (suc r)) h = absurd (omega arith)

-- the lowest digit of both, and of either
and_low : (a b : ℕ) → bit_and a b % 2 ≡ min (a % 2) (b % 2)
and_low a b = go (digit a) (digit b)
  where
    step : bit_and a b ≡ bit_and (a / 2) (b / 2) * 2 + min (a % 2) (b % 2)
    step = and_step a b

    go : (a % 2 ≡ 0) ⊎ (a % 2 ≡ 1) → (b % 2 ≡ 0) ⊎ (b % 2 ≡ 1) → bit_and a b % 2 ≡ min (a % 2) (b % 2)
    go (inl x) (inl y) = let z : bit_and a b ≡ bit_and (a / 2) (b / 2) * 2 + 0 = step ∙ rw (x, y) in rw (x, y) (omega arith)
    go (inl x) (inr y) = let z : bit_and a b ≡ bit_and (a / 2) (b / 2) * 2 + 0 = step ∙ rw (x, y) in rw (x, y) (omega arith)
    go (inr x) (inl y) = let z : bit_and a b ≡ bit_and (a / 2) (b / 2) * 2 + 0 = step ∙ rw (x, y) in rw (x, y) (omega arith)
    go (inr x) (inr y) = let z : bit_and a b ≡ bit_and (a / 2) (b / 2) * 2 + 1 = step ∙ rw (x, y) in rw (x, y) (omega arith)

or_low : (a b : ℕ) → bit_or a b % 2 ≡ max (a % 2) (b % 2)
or_low a b = go (digit a) (digit b)
  where
    step : bit_or a b ≡ bit_or (a / 2) (b / 2) * 2 + max (a % 2) (b % 2)
    step = or_step a b

    go : (a % 2 ≡ 0) ⊎ (a % 2 ≡ 1) → (b % 2 ≡ 0) ⊎ (b % 2 ≡ 1) → bit_or a b % 2 ≡ max (a % 2) (b % 2)
    go (inl x) (inl y) = let z : bit_or a b ≡ bit_or (a / 2) (b / 2) * 2 + 0 = step ∙ rw (x, y) in rw (x, y) (omega arith)
    go (inl x) (inr y) = let z : bit_or a b ≡ bit_or (a / 2) (b / 2) * 2 + 1 = step ∙ rw (x, y) in rw (x, y) (omega arith)
    go (inr x) (inl y) = let z : bit_or a b ≡ bit_or (a / 2) (b / 2) * 2 + 1 = step ∙ rw (x, y) in rw (x, y) (omega arith)
    go (inr x) (inr y) = let z : bit_or a b ≡ bit_or (a / 2) (b / 2) * 2 + 1 = step ∙ rw (x, y) in rw (x, y) (omega arith)

-- who is in both is in each; who is in either is in one
pub in_and : (a b i : ℕ) → is_in (bit_and a b) i ≡ true → (is_in a i ≡ true) × (is_in b i ≡ true)
in_and a b i h =
    let e : bit_and a b / 2 ^ i % 2 ≡ min (a / 2 ^ i % 2) (b / 2 ^ i % 2) = ap (λ (x : ℕ). x % 2) (and_shr a b i) ∙ and_low (a / 2 ^ i) (b / 2 ^ i) in
    go (digit (a / 2 ^ i)) (digit (b / 2 ^ i)) (sym e ∙ eqb-true _ 1 h)
  where
    go : (a / 2 ^ i % 2 ≡ 0) ⊎ (a / 2 ^ i % 2 ≡ 1) → (b / 2 ^ i % 2 ≡ 0) ⊎ (b / 2 ^ i % 2 ≡ 1) → min (a / 2 ^ i % 2) (b / 2 ^ i % 2) ≡ 1
        → (is_in a i ≡ true) × (is_in b i ≡ true)
    go (inl x) (inl y) e = absurd (let z : ◌≡◌ {A = ℕ} 0 1 = rw (x, y) at e in omega arith)
    go (inl x) (inr y) e = absurd (let z : ◌≡◌ {A = ℕ} 0 1 = rw (x, y) at e in omega arith)
    go (inr x) (inl y) e = absurd (let z : ◌≡◌ {A = ℕ} 0 1 = rw (x, y) at e in omega arith)
    go (inr x) (inr y) e = (eq-eqb _ 1 x, eq-eqb _ 1 y)

pub in_or : (a b i : ℕ) → is_in (bit_or a b) i ≡ true → (is_in a i ≡ true) ⊎ (is_in b i ≡ true)
in_or a b i h =
    let e : bit_or a b / 2 ^ i % 2 ≡ max (a / 2 ^ i % 2) (b / 2 ^ i % 2) = ap (λ (x : ℕ). x % 2) (or_shr a b i) ∙ or_low (a / 2 ^ i) (b / 2 ^ i) in
    go (digit (a / 2 ^ i)) (digit (b / 2 ^ i)) (sym e ∙ eqb-true _ 1 h)
  where
    go : (a / 2 ^ i % 2 ≡ 0) ⊎ (a / 2 ^ i % 2 ≡ 1) → (b / 2 ^ i % 2 ≡ 0) ⊎ (b / 2 ^ i % 2 ≡ 1) → max (a / 2 ^ i % 2) (b / 2 ^ i % 2) ≡ 1
        → (is_in a i ≡ true) ⊎ (is_in b i ≡ true)
    go (inr x) y e = inl (eq-eqb _ 1 x)
    go (inl x) (inr y) e = inr (eq-eqb _ 1 y)
    go (inl x) (inl y) e = absurd (let z : ◌≡◌ {A = ℕ} 0 1 = rw (x, y) at e in omega arith)

pub in_zero : (i : ℕ) → is_in 0 i ≡ true → ⊥
in_zero i h = let z : 0 / 2 ^ i % 2 ≡ 1 = eqb-true _ 1 h in let y : 0 / 2 ^ i ≡ 0 = zero-div (2 ^ i) in let x : ◌≡◌ {A = ℕ} 0 1 = rw y at z in omega arith

-- a member but the lowest
in_half : (mask i : ℕ) → is_in mask (suc i) ≡ true → is_in (mask / 2) i ≡ true
in_half mask i h = rw (halves mask i) h

in_first : (mask : ℕ) → is_in mask 0 ≡ true → mask % 2 ≡ 1
in_first mask h = let z : mask / 1 % 2 ≡ 1 = eqb-true _ 1 h in rw (div-one mask) at z

-- one member alone
pub in_only : (m i : ℕ) → is_in (2 ^ m) i ≡ true → i ≡ m
in_only zero zero h = refl
in_only zero (suc i) h = absurd (in_zero i (in_half 1 i h))
in_only (suc m) zero h = absurd (let z = in_first (2 ^ suc m) h in let y : 2 ^ suc m ≡ 2 ^ m * 2 = pow-suc 2 m in omega arith)
in_only (suc m) (suc i) h =
    let y : 2 ^ suc m ≡ 2 ^ m * 2 = pow-suc 2 m in
    let e : 2 ^ suc m / 2 ≡ 2 ^ m = omega arith in
    ap suc (in_only m i (rw e at (in_half (2 ^ suc m) i h)))

-- a mask within another
pub within_in : (a b i : ℕ) → bit_and a b ≡ a → is_in a i ≡ true → is_in b i ≡ true
within_in a b i e h = (in_and a b i (rw e h)).1

and_half : (a b : ℕ) → bit_and a b / 2 ≡ bit_and (a / 2) (b / 2)
and_half a b = and_shr a b 1

or_half : (a b : ℕ) → bit_or a b / 2 ≡ bit_or (a / 2) (b / 2)
or_half a b = or_shr a b 1

spread : (a b c : ℕ) → min (max (a % 2) (b % 2)) (c % 2) ≡ max (min (a % 2) (c % 2)) (min (b % 2) (c % 2))
spread a b c = go (digit a) (digit b) (digit c)
  where
    go : (a % 2 ≡ 0) ⊎ (a % 2 ≡ 1) → (b % 2 ≡ 0) ⊎ (b % 2 ≡ 1) → (c % 2 ≡ 0) ⊎ (c % 2 ≡ 1)
        → min (max (a % 2) (b % 2)) (c % 2) ≡ max (min (a % 2) (c % 2)) (min (b % 2) (c % 2))
    go (inl x) (inl y) (inl z) = rw (x, y, z)
    go (inl x) (inl y) (inr z) = rw (x, y, z)
    go (inl x) (inr y) (inl z) = rw (x, y, z)
    go (inl x) (inr y) (inr z) = rw (x, y, z)
    go (inr x) (inl y) (inl z) = rw (x, y, z)
    go (inr x) (inl y) (inr z) = rw (x, y, z)
    go (inr x) (inr y) (inl z) = rw (x, y, z)
    go (inr x) (inr y) (inr z) = rw (x, y, z)

pub and_or : (a b c : ℕ) → bit_and (bit_or a b) c ≡ bit_or (bit_and a c) (bit_and b c)
and_or a =
    bin_ind (λ (n : ℕ). (b c : ℕ) → bit_and (bit_or n b) c ≡ bit_or (bit_and n c) (bit_and b c)) (λ b c. refl)
    (λ n ih b c.
    and_step (bit_or n b) c
    ∙ ap₂ (λ (x y : ℕ). bit_and x (c / 2) * 2 + min y (c % 2)) (or_half n b) (or_low n b)
    ∙ ap₂ (λ (x y : ℕ). x * 2 + y) (ih (b / 2) (c / 2)) (spread n b c)
    ∙ sym
    (or_step (bit_and n c) (bit_and b c)
    ∙ ap₂ (λ (x y : ℕ). x * 2 + y) (ap₂ bit_or (and_half n c) (and_half b c)) (ap₂ max (and_low n c) (and_low b c)))) a

grouped : (a b c : ℕ) → max (max (a % 2) (b % 2)) (c % 2) ≡ max (a % 2) (max (b % 2) (c % 2))
grouped a b c = go (digit a) (digit b) (digit c)
  where
    go : (a % 2 ≡ 0) ⊎ (a % 2 ≡ 1) → (b % 2 ≡ 0) ⊎ (b % 2 ≡ 1) → (c % 2 ≡ 0) ⊎ (c % 2 ≡ 1) → max (max (a % 2) (b % 2)) (c % 2) ≡ max (a % 2) (max (b % 2) (c % 2))
    go (inl x) (inl y) (inl z) = rw (x, y, z)
    go (inl x) (inl y) (inr z) = rw (x, y, z)
    go (inl x) (inr y) (inl z) = rw (x, y, z)
    go (inl x) (inr y) (inr z) = rw (x, y, z)
    go (inr x) (inl y) (inl z) = rw (x, y, z)
    go (inr x) (inl y) (inr z) = rw (x, y, z)
    go (inr x) (inr y) (inl z) = rw (x, y, z)
    go (inr x) (inr y) (inr z) = rw (x, y, z)

pub or_assoc : (a b c : ℕ) → bit_or (bit_or a b) c ≡ bit_or a (bit_or b c)
or_assoc a =
    bin_ind (λ (n : ℕ). (b c : ℕ) → bit_or (bit_or n b) c ≡ bit_or n (bit_or b c)) (λ b c. ap (λ (x : ℕ). bit_or x c) (or_zero_l b) ∙ sym (or_zero_l (bit_or b c)))
    (λ n ih b c.
    or_step (bit_or n b) c
    ∙ ap₂ (λ (x y : ℕ). bit_or x (c / 2) * 2 + max y (c % 2)) (or_half n b) (or_low n b)
    ∙ ap₂ (λ (x y : ℕ). x * 2 + y) (ih (b / 2) (c / 2)) (grouped n b c)
    ∙ sym (or_step n (bit_or b c) ∙ ap₂ (λ (x y : ℕ). bit_or (n / 2) x * 2 + max (n % 2) y) (or_half b c) (or_low b c))) a

-- one member of a mask is within it
pub only_within : (m mask : ℕ) → is_in mask m ≡ true → bit_and (2 ^ m) mask ≡ 2 ^ m
only_within zero mask h = and_step 1 mask ∙ rw (in_first mask h)
only_within (suc m) mask h =
    let y : 2 ^ suc m ≡ 2 ^ m * 2 = pow-suc 2 m in
    let e : 2 ^ suc m / 2 ≡ 2 ^ m = omega arith in
    let o : 2 ^ suc m % 2 ≡ 0 = omega arith in
    and_step (2 ^ suc m) mask ∙ rw (e, o, zero-min (mask % 2), only_within m (mask / 2) (in_half mask m h)) (omega arith)

-- with one member more a mask is within it still
pub more_within : (a m mask : ℕ) → bit_and a mask ≡ a → is_in mask m ≡ true → bit_and (bit_or a (2 ^ m)) mask ≡ bit_or a (2 ^ m)
more_within a m mask e h = and_or a (2 ^ m) mask ∙ ap₂ bit_or e (only_within m mask h)

-- the lowest member of a mask that has one
low_from : (k mask r : ℕ) → mask % 2 ≡ r → (r ≡ 0 → is_in (mask / 2) (count_trailing_zeros k (mask / 2)) ≡ true) → is_in mask (under r (count_trailing_zeros k (mask / 2))) ≡ true
low_from k mask zero e f = rw (← (halves mask (count_trailing_zeros k (mask / 2)))) (f refl)
low_from k mask (suc r) e f = rw (div-one mask) (eq-eqb (mask % 2) 1 (let z = mod-lt mask (zero-lt-suc 1) in omega arith))

low_in : (k mask : ℕ) → 0 < mask → mask < 2 ^ k → is_in mask (count_trailing_zeros k mask) ≡ true
unfolding count_trailing_zeros
low_in zero mask lo h = absurd (let z = lt-one h in omega arith)
low_in (suc k) mask lo h = low_from k mask (mask % 2) refl (λ e. low_in k (mask / 2) (omega arith) (half_lt k h))

pub lowest_in : (mask : ℕ) → 0 < mask → mask < 2 ^ members_most → is_in mask (lowest mask) ≡ true
lowest_in = low_in members_most

-- a mask has no members beyond the most, and its lowest is one of them
pub in_beyond : (mask i : ℕ) → mask < 2 ^ members_most → members_most ≤ i → is_in mask i ≡ false
in_beyond mask i h m =
    let e : mask / 2 ^ i ≡ 0 = div-eq_of_lt (lt_of_lt_of_le h (pow_mono {i = members_most} {j = i} m)) in
    rw e

pub in_lt : (mask i : ℕ) → mask < 2 ^ members_most → is_in mask i ≡ true → i < members_most
in_lt mask i h e = lt_of_not-le (λ m. false≢true (sym (in_beyond mask i h m) ∙ e))

pub lowest_lt : (mask : ℕ) → 0 < mask → mask < 2 ^ members_most → lowest mask < members_most
lowest_lt mask lo h = in_lt mask (lowest mask) h (lowest_in mask lo h)

-- a turn of finding the lowest members one by one, and the last
pub lowest_turn : (found mask k : ℕ) → mask ≢ 0 → bit_or (bit_or found (2 ^ lowest mask)) (lowest_of k (without_lowest mask)) ≡ bit_or found (lowest_of (suc k) mask)
unfolding lowest_of
lowest_turn found mask k z =
    or_assoc found (2 ^ lowest mask) (lowest_of k (without_lowest mask))
    ∙ ap (λ (x : ℕ). bit_or found x) (when_ne mask 0 _ 0 _ z refl)

pub lowest_none : (found k : ℕ) → bit_or found (lowest_of k 0) ≡ found
unfolding lowest_of when◌then◌else◌
lowest_none found zero = or_zero_r found
lowest_none found (suc k) = or_zero_r found

pub none_lowest : (k : ℕ) → lowest_of k 0 ≡ 0
none_lowest k = sym (or_zero_l (lowest_of k 0)) ∙ lowest_none 0 k

-- 1 shifted left by less than a number's width
pub one_shifted : (m w : ℕ) → m < w → (1 * 2 ^ m) % 2 ^ w ≡ 2 ^ m
one_shifted m w h = shl_exact {a = 1} 1 m w (omega arith) (omega arith) ∙ one-mul (2 ^ m)

pub without_lt : (mask : ℕ) → mask < 2 ^ members_most → without_lowest mask < 2 ^ members_most
without_lt mask h = lt_of_le_of_lt (and_le_l mask (mask - 1)) h

-- the lowest members of a mask are below the same power, and in it
pub lowest_lt_all : (k mask : ℕ) → mask < 2 ^ members_most → lowest_of k mask < 2 ^ members_most
unfolding lowest_of
lowest_lt_all zero mask h = pow_pos members_most
lowest_lt_all (suc k) mask h =
    when_elim (λ (x : ℕ). x < 2 ^ members_most) (mask =? 0) (λ z. pow_pos members_most)
    (λ z. or_lt members_most (2 ^ lowest mask) (lowest_of k (without_lowest mask))
    (pow-lt {i = lowest mask} {j = members_most} (lowest_lt mask (let q = eqb-false mask 0 z in omega arith) h))
    (lowest_lt_all k (without_lowest mask) (without_lt mask h)))

pub lowest_within : (k mask i : ℕ) → mask < 2 ^ members_most → is_in (lowest_of k mask) i ≡ true → is_in mask i ≡ true
unfolding lowest_of
lowest_within zero mask i h = λ e. absurd (in_zero i e)
lowest_within (suc k) mask i h =
    when_elim (λ (x : ℕ). is_in x i ≡ true → is_in mask i ≡ true) (mask =? 0) (λ z e. absurd (in_zero i e))
    (λ z e. go (eqb-false mask 0 z) (lowest_within k (without_lowest mask) i (without_lt mask h)) (in_or (2 ^ lowest mask) (lowest_of k (without_lowest mask)) i e))
  where
    go : mask ≢ 0 → (is_in (lowest_of k (without_lowest mask)) i ≡ true → is_in (without_lowest mask) i ≡ true) → (is_in (2 ^ lowest mask) i ≡ true) ⊎ (is_in (lowest_of k (without_lowest mask)) i ≡ true) → is_in mask i ≡ true
    go z f (inl e) = rw (in_only (lowest mask) i e) (lowest_in mask (omega arith) h)
    go z f (inr e) = (in_and mask (mask - 1) i (f e)).0

-- all of n members
pub in_all : (n i : ℕ) → i < n → is_in (2 ^ n - 1) i ≡ true
in_all zero i h = absurd (omega arith)
in_all (suc n) zero h =
    let y : 2 ^ suc n ≡ 2 ^ n * 2 = pow-suc 2 n in
    let p = pow_pos n in
    rw (div-one (2 ^ suc n - 1)) (eq-eqb ((2 ^ suc n - 1) % 2) 1 (omega arith))
in_all (suc n) (suc i) h =
    let y : 2 ^ suc n ≡ 2 ^ n * 2 = pow-suc 2 n in
    let p = pow_pos n in
    let e : (2 ^ suc n - 1) / 2 ≡ 2 ^ n - 1 = omega arith in
    rw (← (halves (2 ^ suc n - 1) i), e) (in_all n i (omega arith))

pub all_in : (n i : ℕ) → is_in (2 ^ n - 1) i ≡ true → i < n
all_in zero i h = absurd (in_zero i h)
all_in (suc n) zero h = zero-lt-suc n
all_in (suc n) (suc i) h =
    let y : 2 ^ suc n ≡ 2 ^ n * 2 = pow-suc 2 n in
    let p = pow_pos n in
    let e : (2 ^ suc n - 1) / 2 ≡ 2 ^ n - 1 = omega arith in
    let z = all_in n i (rw e at (in_half (2 ^ suc n - 1) i h)) in
    omega arith

-- a member's power is at most a mask that has it
in_least : (m mask : ℕ) → is_in mask m ≡ true → 2 ^ m ≤ mask
in_least zero mask h = let z = in_first mask h in omega arith
in_least (suc m) mask h =
    let y : 2 ^ suc m ≡ 2 ^ m * 2 = pow-suc 2 m in
    let z = in_least m (mask / 2) (in_half mask m h) in
    omega arith

half_in : (mask i : ℕ) → is_in (mask / 2) i ≡ true → is_in mask (suc i) ≡ true
half_in mask i h = rw (← (halves mask i)) h

first_in : (mask : ℕ) → mask % 2 ≡ 1 → is_in mask 0 ≡ true
first_in mask h = rw (div-one mask) (eq-eqb (mask % 2) 1 h)

-- a mask without one of its members
pub in_less : (m mask i : ℕ) → is_in mask m ≡ true → is_in (mask - 2 ^ m) i ≡ true → (is_in mask i ≡ true) × (i ≢ m)
in_less zero mask zero e h = absurd (let a = in_first mask e in let b = in_first (mask - 1) h in omega arith)
in_less zero mask (suc i) e h =
    let a = in_first mask e in
    let z : (mask - 1) / 2 ≡ mask / 2 = omega arith in
    (half_in mask i (rw z at (in_half (mask - 1) i h)), λ q. omega arith)
in_less (suc m) mask zero e h =
    let y : 2 ^ suc m ≡ 2 ^ m * 2 = pow-suc 2 m in
    let l = in_least (suc m) mask e in
    let b = in_first (mask - 2 ^ suc m) h in
    (first_in mask (omega arith), λ q. omega arith)
in_less (suc m) mask (suc i) e h =
    let y : 2 ^ suc m ≡ 2 ^ m * 2 = pow-suc 2 m in
    let l = in_least (suc m) mask e in
    let z : (mask - 2 ^ suc m) / 2 ≡ mask / 2 - 2 ^ m = omega arith in
    let x = in_less m (mask / 2) i (in_half mask m e) (rw z at (in_half (mask - 2 ^ suc m) i h)) in
    (half_in mask i x.0, λ q. x.1 (omega arith))

pub less_in : (m mask i : ℕ) → is_in mask m ≡ true → is_in mask i ≡ true → i ≢ m → is_in (mask - 2 ^ m) i ≡ true
less_in zero mask zero e h q = absurd (q refl)
less_in zero mask (suc i) e h q =
    let a = in_first mask e in
    let z : (mask - 1) / 2 ≡ mask / 2 = omega arith in
    half_in (mask - 1) i (rw z (in_half mask i h))
less_in (suc m) mask zero e h q =
    let y : 2 ^ suc m ≡ 2 ^ m * 2 = pow-suc 2 m in
    let l = in_least (suc m) mask e in
    let b = in_first mask h in
    first_in (mask - 2 ^ suc m) (omega arith)
less_in (suc m) mask (suc i) e h q =
    let y : 2 ^ suc m ≡ 2 ^ m * 2 = pow-suc 2 m in
    let l = in_least (suc m) mask e in
    let z : (mask - 2 ^ suc m) / 2 ≡ mask / 2 - 2 ^ m = omega arith in
    half_in (mask - 2 ^ suc m) i (rw z (less_in m (mask / 2) i (in_half mask m e) (in_half mask i h) (λ r. q (omega arith))))

-- the facts of a sound description
pub record Standing (group : Group) : Type 0 where
  pub n_least : 1 ≤ group.n
  pub n_most : group.n ≤ members_most
  pub resilient : group.resilience < group.n
  pub within : bit_and group.survivors (all_of group.n) ≡ group.survivors
  pub elected_in : is_in group.survivors (elected_of group).0 ≡ true

module _ (group : Group) where
  pub standing_of : group_sound group ≡ true → Standing group
  unfolding group_sound
  standing_of e =
      record {
        n_least = search says depth 9;
        n_most = search says depth 9;
        resilient = search says depth 9;
        within = search says depth 9;
        elected_in = search says depth 9;
      }

  pub of_standing : Standing group → group_sound group ≡ true
  unfolding group_sound
  of_standing f =
      both_hold _ _ (le-leb 1 group.n f.n_least)
      (both_hold _ _ (le-leb group.n members_most f.n_most)
      (both_hold _ _ (lt-ltb group.resilience group.n f.resilient)
      (both_hold _ _ (eq-eqb _ group.survivors f.within) f.elected_in)))

-- a fresh group's description is sound
pub fresh_standing : (n number resilience : ℕ) → 1 ≤ n → n ≤ members_most → resilience < n → Standing (description_of n number resilience)
fresh_standing n number resilience low high less =
    record { n_least = low; n_most = high; resilient = less; within = and_self (all_of n); elected_in = in_all n 0 low }

module _ (group : Group) (standing : Standing group) where
  -- a survivor is a member
  pub survivor_lt : (i : ℕ) → is_in group.survivors i ≡ true → i < group.n
  survivor_lt i h = all_in group.n i (within_in group.survivors (all_of group.n) i standing.within h)

  pub survivors_lt : group.survivors < 2 ^ members_most
  survivors_lt =
      let a = and_le_r group.survivors (all_of group.n) in
      let b = standing.within in
      let z = pow_mono {i = group.n} {j = members_most} standing.n_most in
      let p = pow_pos group.n in
      omega arith

  -- the others: the survivors but the elected
  pub in_others : (i : ℕ) → is_in group.survivors i ≡ true → i ≢ (elected_of group).0 → is_in (others_of group) i ≡ true
  unfolding others_of
  in_others i h q = less_in (elected_of group).0 group.survivors i standing.elected_in h q

  pub others_in : (i : ℕ) → is_in (others_of group) i ≡ true → (is_in group.survivors i ≡ true) × (i ≢ (elected_of group).0)
  unfolding others_of
  others_in i h = in_less (elected_of group).0 group.survivors i standing.elected_in h

  pub others_lt : others_of group < 2 ^ members_most
  unfolding others_of
  others_lt = let z = survivors_lt in omega arith

  -- the expected are others
  pub expected_others : (i : ℕ) → is_in (expected_of group) i ≡ true → is_in (others_of group) i ≡ true
  unfolding expected_of
  expected_others i = lowest_within group.resilience (others_of group) i others_lt

  -- all others, of whom something holds, are as many as have to confirm
  pub others_count : (p : ℕ → Bool) → ((i : ℕ) → p i ≡ true) → needed_of group ≤ count group.n (λ i. is_in (others_of group) i and p i)
  unfolding needed_of expected_of
  others_count p h =
      rw (ones_count members_most (expected_of group) (lowest_lt_all group.resilience (others_of group) others_lt))
      (count_within members_most group.n (is_in (expected_of group)) (λ i. is_in (others_of group) i and p i)
      (λ i e. let o = expected_others i e in (survivor_lt i (others_in i o).0, both_hold _ _ o (h i))))

-- none is expected where none has to confirm
ones_none : (mask : ℕ) → ones mask ≡ 0 → mask ≡ 0
ones_none = bin_ind (λ (n : ℕ). ones n ≡ 0 → n ≡ 0) (λ e. refl) (λ n ih e. let s = ones_step n in let z = ih (omega arith) in omega arith)

pub expected_none : (group : Group) → needed_of group ≡ 0 → expected_of group ≡ 0
unfolding needed_of
expected_none group e = ones_none (expected_of group) e

pub none_expected : (group : Group) (i : ℕ) → is_in (expected_of group) i ≡ true → 1 ≤ needed_of group
none_expected group i h =
    eq_or (needed_of group) 0 (λ e. absurd (in_zero i (rw (expected_none group e) at h))) (λ q. omega arith)
