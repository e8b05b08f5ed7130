-- Members of a mask that is joined of two. Assumes nothing.
use mathlib.Core.Path.{◌≡◌, refl, sym, ap, ◌∙◌}
use mathlib.Core.Bool.{Bool, true, false, false≢true}
use Prim.Native.Nat.{ℕ, ◌+◌, ◌*◌, ◌/◌, ◌%◌, ◌^◌, max}
use native.Mathlib.Nat.{div_self, mod-lt, zero-lt-suc}
use native.Mathlib.Omega.{arith}
use borrow.Author.Tests.{eqb-true, eq-eqb}
use lib.Bits.{bit_or, or_shr, or_step, or_comm}
use lib.Pow.{pow_pos}
use Rattle.group.specs.Members.{is_in}

-- a member is in the mask of it alone
pub only_in : (m : ℕ) → is_in (2 ^ m) m ≡ true
only_in m = let e : 2 ^ m / 2 ^ m ≡ 1 = div_self (pow_pos m) in rw e

or_low : (a b : ℕ) → bit_or a b % 2 ≡ max (a % 2) (b % 2)
or_low a b =
    let step : bit_or a b ≡ bit_or (a / 2) (b / 2) * 2 + max (a % 2) (b % 2) = or_step a b in
    let x = mod-lt a (zero-lt-suc 1) in
    let y = mod-lt b (zero-lt-suc 1) in
    omega arith

-- who is in a mask is in it with others, and one who is not in both is in neither
pub or_in : (a b i : ℕ) → is_in a i ≡ true → is_in (bit_or a b) i ≡ true
or_in a b i h =
    let e : bit_or a b / 2 ^ i % 2 ≡ max (a / 2 ^ i % 2) (b / 2 ^ i % 2) = ap (λ (x : ℕ). x % 2) (or_shr a b i) ∙ or_low (a / 2 ^ i) (b / 2 ^ i) in
    let x : a / 2 ^ i % 2 ≡ 1 = eqb-true _ 1 h in
    let y = mod-lt (b / 2 ^ i) (zero-lt-suc 1) in
    let z : max (a / 2 ^ i % 2) (b / 2 ^ i % 2) ≡ 1 = rw x (omega arith) in
    eq-eqb _ 1 (e ∙ z)

pub in_or_right : (a m : ℕ) → is_in (bit_or a (2 ^ m)) m ≡ true
in_or_right a m = rw (or_comm a (2 ^ m)) (or_in (2 ^ m) a m (only_in m))

pub not_or : (a b i : ℕ) → is_in (bit_or a b) i ≡ false → is_in a i ≡ false
not_or a b i f = go (is_in a i) refl
  where
    go : (x : Bool) → is_in a i ≡ x → x ≡ false
    go true e = absurd (false≢true (sym f ∙ or_in a b i e))
    go false e = refl
