-- Sums over terminals 0 to n - 1: from the front, with one summand more or less than the others, and beside another sum. Assumes nothing.
use mathlib.Core.Path.{◌≡◌, refl, ap, ◌∙◌}
use mathlib.Core.Logic.{◌≢◌}
use Prim.Native.Nat.{ℕ, zero, suc, ◌+◌, ◌*◌, ◌≤◌, ◌<◌}
use native.Mathlib.Nat.{le_refl, not-suc-le-zero}
use native.Mathlib.Omega.{arith}
use Rattle.group.proofs.Lists.{eq_or, le_or}
use Rattle.model.specs.Claim.{sum}

-- the first summand, then the others
pub sum_first : (n : ℕ) (f : ℕ → ℕ) → sum (suc n) f ≡ f 0 + sum n (λ i. f (suc i))
unfolding sum
sum_first zero f = omega arith
sum_first (suc n) f = let z = sum_first n f in omega arith

-- nothing is added
pub sum_none : (n : ℕ) → sum n (λ i. 0) ≡ 0
unfolding sum
sum_none zero = refl
sum_none (suc n) = let z = sum_none n in omega arith

-- equal summands
pub sum_same : (n : ℕ) (f g : ℕ → ℕ) → ((i : ℕ) → i < n → f i ≡ g i) → sum n f ≡ sum n g
unfolding sum
sum_same zero f g h = refl
sum_same (suc n) f g h = let z = sum_same n f g (λ i b. h i (omega arith)) in let y = h n (le_refl _) in omega arith

-- one summand is more by 1, the others are equal
pub sum_more : (n o : ℕ) (f g : ℕ → ℕ) → o < n → f o ≡ g o + 1 → ((i : ℕ) → i ≢ o → f i ≡ g i) → sum n f ≡ sum n g + 1
unfolding sum
sum_more zero o f g b one others = absurd (not-suc-le-zero b)
sum_more (suc n) o f g b one others =
    eq_or o n
    (λ e. let z = sum_same n f g (λ i c. others i (λ q. omega arith)) in let y : f n ≡ g n + 1 = rw (← e) one in omega arith)
    (λ e. let z = sum_more n o f g (omega arith) one others in let y = others n (λ q. e (omega arith)) in omega arith)

-- each summand is more by at most 1
pub sum_near : (n : ℕ) (f g : ℕ → ℕ) → ((i : ℕ) → i < n → f i ≤ g i + 1) → sum n f ≤ sum n g + n
unfolding sum
sum_near zero f g h = omega arith
sum_near (suc n) f g h = let z = sum_near n f g (λ i b. h i (omega arith)) in let y = h n (le_refl _) in omega arith

-- all summands are at most c
sum_most : (n c : ℕ) (f : ℕ → ℕ) → ((i : ℕ) → i < n → f i ≤ c) → sum n f ≤ c * n
unfolding sum
sum_most zero c f h = omega arith
sum_most (suc n) c f h = let z = sum_most n c f (λ i b. h i (omega arith)) in let y = h n (le_refl _) in omega arith

-- and one of them is at most b
pub sum_one : (n c b j : ℕ) (f : ℕ → ℕ) → j < n → ((i : ℕ) → i < n → f i ≤ c) → f j ≤ b → sum n f + c ≤ c * n + b
unfolding sum
sum_one zero c b j f l h one = absurd (not-suc-le-zero l)
sum_one (suc n) c b j f l h one =
    eq_or j n
    (λ e. let z = sum_most n c f (λ i q. h i (omega arith)) in let y : f n ≤ b = rw (← e) one in omega arith)
    (λ e. let z = sum_one n c b j f (omega arith) (λ i q. h i (omega arith)) one in let y = h n (le_refl _) in omega arith)

-- of n numbers one is largest
pub largest_of : (n : ℕ) (f : ℕ → ℕ) → 1 ≤ n → (j : ℕ) × (j < n) × ((i : ℕ) → i < n → f i ≤ f j)
largest_of zero f h = absurd (not-suc-le-zero h)
largest_of (suc zero) f h = (0, omega arith, λ i b. let e : i ≡ 0 = omega arith in rw e (le_refl _))
largest_of (suc (suc n)) f h =
    let z = largest_of (suc n) f (omega arith) in
    le_or (f (suc n)) (f z.0)
    (λ le. (z.0, omega arith, λ i b. eq_or i (suc n) (λ e. rw e le) (λ e. z.2 i (omega arith))))
    (λ lt. (suc n, omega arith, λ i b. eq_or i (suc n) (λ e. rw e (le_refl _)) (λ e. let y = z.2 i (omega arith) in omega arith)))
