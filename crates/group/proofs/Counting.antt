-- Counting the numbers below k of which something holds, and the members of a mask. Assumes nothing.
use mathlib.Core.Path.{◌≡◌, refl, sym, ap, ap₂, ◌∙◌}
use mathlib.Core.Bool.{Bool, true, false, false≢true}
use Prim.Native.Nat.{ℕ, zero, suc, ◌+◌, ◌*◌, ◌/◌, ◌%◌, ◌^◌, ◌≤◌, ◌<◌}
use native.Mathlib.Nat.{le_refl, mod-lt, not-suc-le-zero, zero-lt-suc, div-div-eq-div-mul, pow-suc, mul_comm, div-one}
use native.Mathlib.Omega.{arith}
use lib.Arith.{lt-one}
use lib.Count.{ones, ones_step}
use Rattle.group.specs.Choice.{◌=?◌}
use Rattle.group.specs.Members.{is_in}

unfoldable pub one : Bool → ℕ
one true = 1
one false = 0

-- how many of 0 to k - 1
unfoldable pub count : ℕ → (ℕ → Bool) → ℕ
count zero p = 0
count (suc k) p = one (p 0) + count k (λ i. p (suc i))

pub one_mono : (a b : Bool) → (a ≡ true → b ≡ true) → one a ≤ one b
unfolding one
one_mono true true f = le_refl 1
one_mono true false f = absurd (false≢true (f refl))
one_mono false true f = omega arith
one_mono false false f = le_refl 0

pub one_false : (a : Bool) → (a ≡ true → ⊥) → one a ≡ 0
unfolding one
one_false true f = absurd (f refl)
one_false false f = refl

pub one_true : (a : Bool) → a ≡ true → one a ≡ 1
unfolding one
one_true a e = rw e

-- counts are monotone, also where what is counted lies below n
pub count_within : (k n : ℕ) (p q : ℕ → Bool) → ((i : ℕ) → p i ≡ true → (i < n) × (q i ≡ true)) → count k p ≤ count n q
unfolding count
count_within zero n p q h = omega arith
count_within (suc k) zero p q h =
    let z = count_within k zero (λ i. p (suc i)) (λ i. q (suc i)) (λ i b. absurd (not-suc-le-zero (h (suc i) b).0)) in
    let y = one_false (p 0) (λ b. not-suc-le-zero (h 0 b).0) in
    omega arith
count_within (suc k) (suc n) p q h =
    let z = count_within k n (λ i. p (suc i)) (λ i. q (suc i)) (λ i b. let w = h (suc i) b in (omega arith, w.1)) in
    let y = one_mono (p 0) (q 0) (λ b. (h 0 b).1) in
    omega arith

pub count_mono : (k : ℕ) (p q : ℕ → Bool) → ((i : ℕ) → i < k → p i ≡ true → q i ≡ true) → count k p ≤ count k q
unfolding count
count_mono zero p q h = le_refl 0
count_mono (suc k) p q h =
    let z = count_mono k (λ i. p (suc i)) (λ i. q (suc i)) (λ i b. h (suc i) (omega arith)) in
    let y = one_mono (p 0) (q 0) (h 0 (omega arith)) in
    omega arith

-- all of them
pub count_all : (k : ℕ) (p : ℕ → Bool) → ((i : ℕ) → i < k → p i ≡ true) → count k p ≡ k
unfolding count
count_all zero p h = refl
count_all (suc k) p h =
    let z = count_all k (λ i. p (suc i)) (λ i b. h (suc i) (omega arith)) in
    let y = one_true (p 0) (h 0 (omega arith)) in
    omega arith

-- a larger count has a number outside the smaller
abbrev pub Outside : ℕ → (ℕ → Bool) → (ℕ → Bool) → Type 0
Outside k p q = (i : ℕ) × (i < k) × (p i ≡ true) × (q i ≡ false)

behind : (k : ℕ) (p q : ℕ → Bool) → Outside k (λ i. p (suc i)) (λ i. q (suc i)) → Outside (suc k) p q
behind k p q x = (suc x.0, (let z = x.1 in omega arith), x.2, x.3)

first_or : (k x y : ℕ) (p q : ℕ → Bool) (a b : Bool) → p 0 ≡ a → q 0 ≡ b → one b + y < one a + x → (y < x → Outside k (λ i. p (suc i)) (λ i. q (suc i))) → Outside (suc k) p q
unfolding one
first_or k x y p q true false ea eb h rest = (0, zero-lt-suc k, ea, eb)
first_or k x y p q true true ea eb h rest = behind k p q (rest (omega arith))
first_or k x y p q false true ea eb h rest = behind k p q (rest (omega arith))
first_or k x y p q false false ea eb h rest = behind k p q (rest (omega arith))

pub count_more : (k : ℕ) (p q : ℕ → Bool) → count k q < count k p → Outside k p q
unfolding count
count_more zero p q h = absurd (not-suc-le-zero h)
count_more (suc k) p q h = first_or k _ _ p q (p 0) (q 0) refl refl h (count_more k (λ i. p (suc i)) (λ i. q (suc i)))

pub half_lt : {n : ℕ} (k : ℕ) → n < 2 ^ suc k → n / 2 < 2 ^ k
half_lt {n} k h = let z : 2 ^ suc k ≡ 2 ^ k * 2 = pow-suc 2 k in omega arith

bit : (r : ℕ) → r < 2 → one (r =? 1) ≡ r
unfolding one
bit zero h = refl
bit (suc zero) h = refl
bit (suc (suc r)) h = absurd (omega arith)

-- a member of a mask but for its lowest digit
pub halves : (mask i : ℕ) → mask / 2 / 2 ^ i ≡ mask / 2 ^ suc i
halves mask i = div-div-eq-div-mul mask 2 (2 ^ i) ∙ ap (λ (x : ℕ). mask / x) (mul_comm 2 (2 ^ i) ∙ sym (pow-suc 2 i))

-- a mask's ones are its members
pub ones_count : (k mask : ℕ) → mask < 2 ^ k → ones mask ≡ count k (is_in mask)
unfolding count ones
ones_count zero mask h = ap ones (lt-one h)
ones_count (suc k) mask h =
    ones_step mask
    ∙ ap₂ ◌+◌ (sym (bit (mask % 2) (mod-lt mask (zero-lt-suc 1))) ∙ ap (λ (x : ℕ). one (x % 2 =? 1)) (sym (div-one mask))) (ones_count k (mask / 2) (half_lt k h) ∙ ap (count k) (λ j i. halves mask i j % 2 =? 1))
