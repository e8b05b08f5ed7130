-- How many have to confirm: r members, or all others where they are fewer. Assumes nothing.
use mathlib.Core.Path.{◌≡◌, refl, sym, ap, ◌∙◌, subst}
use mathlib.Core.Logic.{◌≢◌}
use mathlib.Core.Bool.{Bool, true, false}
use Prim.Native.Nat.{ℕ, zero, suc, ◌+◌, ◌-◌, ◌*◌, ◌/◌, ◌%◌, ◌^◌, ◌≤◌, ◌<◌}
use native.Mathlib.Nat.{pow-suc, mod-lt, zero-lt-suc, suc-ne-zero}
use native.Mathlib.Omega.{arith}
use borrow.Author.Tests.{eqb-true, eqb-false}
use lib.Bits.{bit_and, bit_or, and_step, and_self, or_comm}
use lib.Count.{count_trailing_zeros, under}
use Rattle.group.proofs.Counting.{one, count, one_mono, one_false, one_true, count_mono, half_lt, ones_count}
use Rattle.group.proofs.Lists.{when_elim}
use Rattle.group.proofs.Members.{in_less, less_in, lowest_in, lowest_lt, lowest_within, lowest_lt_all, without_lt, Standing, others_lt}
use Rattle.group.specs.Choice.{◌=?◌}
use Rattle.group.specs.Limits.{members_most}
use Rattle.group.specs.Members.{is_in, lowest, without_lowest, lowest_of, others_of, expected_of, needed_of}
use Rattle.group.specs.declared.Group.{Group}
use Rattle.recovery.proofs.Masks.{only_in, or_in}

-- a part without one is smaller, and by one at most
pub count_less : (n l : ℕ) (p q : ℕ → Bool) → ((i : ℕ) → q i ≡ true → p i ≡ true) → p l ≡ true → (q l ≡ true → ⊥) → l < n → count n q < count n p
unfolding count
count_less zero l p q h e f b = absurd (omega arith)
count_less (suc n) zero p q h e f b =
    let x = one_true (p 0) e in
    let y = one_false (q 0) f in
    let z = count_mono n (λ i. q (suc i)) (λ i. p (suc i)) (λ i _. h (suc i)) in
    omega arith
count_less (suc n) (suc l) p q h e f b =
    let x = one_mono (q 0) (p 0) (h 0) in
    let z = count_less n l (λ i. p (suc i)) (λ i. q (suc i)) (λ i. h (suc i)) e f (omega arith) in
    omega arith

one_most : (b : Bool) → one b ≤ 1
unfolding one
one_most true = omega arith
one_most false = omega arith

pub count_plus : (n l : ℕ) (p q : ℕ → Bool) → ((i : ℕ) → p i ≡ true → i ≢ l → q i ≡ true) → count n p ≤ count n q + 1
unfolding count
count_plus zero l p q h = omega arith
count_plus (suc n) zero p q h =
    let x = one_most (p 0) in
    let z = count_mono n (λ i. p (suc i)) (λ i. q (suc i)) (λ i _ e. h (suc i) e (suc-ne-zero i)) in
    omega arith
count_plus (suc n) (suc l) p q h =
    let x = one_mono (p 0) (q 0) (λ e. h 0 e (λ z. suc-ne-zero l (sym z))) in
    let z = count_plus n l (λ i. p (suc i)) (λ i. q (suc i)) (λ i e f. h (suc i) e (λ z. f (let y : suc i ≡ suc l = z in omega arith))) in
    omega arith

-- a mask without its lowest member
without_from : (k mask r : ℕ) → mask % 2 ≡ r → 0 < mask → (r ≡ 0 → bit_and (mask / 2) (mask / 2 - 1) ≡ mask / 2 - 2 ^ count_trailing_zeros k (mask / 2))
    → bit_and mask (mask - 1) ≡ mask - 2 ^ under r (count_trailing_zeros k (mask / 2))
without_from k mask zero e lo f =
    let x : ℕ = count_trailing_zeros k (mask / 2) in
    let half : (mask - 1) / 2 ≡ mask / 2 - 1 = omega arith in
    let y : 2 ^ suc x ≡ 2 ^ x * 2 = pow-suc 2 x in
    let s = and_step mask (mask - 1) in
    let g = f refl in
    let h : bit_and (mask / 2) ((mask - 1) / 2) ≡ mask / 2 - 2 ^ x = ap (λ (j : ℕ). bit_and (mask / 2) j) half ∙ g in
    omega arith
without_from k mask (suc r) e lo f =
    let z = mod-lt mask (zero-lt-suc 1) in
    let half : (mask - 1) / 2 ≡ mask / 2 = omega arith in
    let h : bit_and (mask / 2) ((mask - 1) / 2) ≡ mask / 2 = ap (λ (j : ℕ). bit_and (mask / 2) j) half ∙ and_self (mask / 2) in
    let s = and_step mask (mask - 1) in
    omega arith

without_is : (k mask : ℕ) → 0 < mask → mask < 2 ^ k → bit_and mask (mask - 1) ≡ mask - 2 ^ count_trailing_zeros k mask
unfolding count_trailing_zeros
without_is zero mask lo h = absurd (omega arith)
without_is (suc k) mask lo h = without_from k mask (mask % 2) refl lo (λ e. without_is k (mask / 2) (omega arith) (half_lt k h))

-- the k lowest members are k, or all
lowest_count : (k mask j : ℕ) → mask < 2 ^ members_most → j ≤ k → j ≤ count members_most (is_in mask) → j ≤ count members_most (is_in (lowest_of k mask))
unfolding lowest_of
lowest_count zero mask j h a b = omega arith
lowest_count (suc k) mask j h a b =
    when_elim (λ (x : ℕ). j ≤ count members_most (is_in x)) (mask =? 0) (λ z. subst (λ (x : ℕ). j ≤ count members_most (is_in x)) (eqb-true mask 0 z) b) (λ z. more (λ le. lowest_count k (without_lowest mask) (j - 1) (without_lt mask h) (omega arith) le) (eqb-false mask 0 z))
  where
    more : (j - 1 ≤ count members_most (is_in (without_lowest mask)) → j - 1 ≤ count members_most (is_in (lowest_of k (without_lowest mask)))) → mask ≢ 0
        → j ≤ count members_most (is_in (bit_or (2 ^ lowest mask) (lowest_of k (without_lowest mask))))
    more again q =
        let l : ℕ = lowest mask in
        let rest : ℕ = lowest_of k (without_lowest mask) in
        let lo : 0 < mask = omega arith in
        let is : without_lowest mask ≡ mask - 2 ^ l = without_is members_most mask lo h in
        let there = lowest_in mask lo h in
        let down = count_plus members_most l (is_in mask) (is_in (without_lowest mask)) (λ i e f. subst (λ (x : ℕ). is_in x i ≡ true) (sym is) (less_in l mask i there e f)) in
        let up = again (omega arith) in
        let grows = count_less members_most l (is_in (bit_or (2 ^ l) rest)) (is_in rest)
        (λ i e. subst (λ (x : ℕ). is_in x i ≡ true) (or_comm rest (2 ^ l)) (or_in rest (2 ^ l) i e))
        (or_in (2 ^ l) rest l (only_in l))
        (λ e. (in_less l mask l there (subst (λ (x : ℕ). is_in x l ≡ true) is (lowest_within k (without_lowest mask) l (without_lt mask h) e))).1 refl)
        (lowest_lt mask lo h) in
        omega arith

pub needed_least : (group : Group) → Standing group → (j : ℕ) → j ≤ group.resilience → j ≤ count members_most (is_in (others_of group)) → j ≤ needed_of group
unfolding needed_of expected_of
needed_least group standing j a b =
    let lt = others_lt group standing in
    let size = ones_count members_most (lowest_of group.resilience (others_of group)) (lowest_lt_all group.resilience (others_of group) lt) in
    let z = lowest_count group.resilience (others_of group) j lt a b in
    omega arith
