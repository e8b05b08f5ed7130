-- The bytes from an index on, joined by `|`, are zero exactly if all are, one byte at a time. Assumes nothing.
use mathlib.Core.Path.{◌≡◌, refl, sym, ap, ◌∙◌}
use mathlib.Core.Bool.{Bool, true, false}
use mathlib.Core.List.{List, [], ◌∷◌, ◌++◌}
use Prim.Native.Nat.{ℕ, ◌+◌, ◌-◌, ◌≤◌, ◌<◌}
use native.Mathlib.Numerals.{add-one}
use native.Mathlib.Omega.{arith}
use borrow.Author.Tests.{eq-eqb, ne_eqb, eqb-true, eqb-false}
use lib.Bits.{bit_and, bit_or, or_add_and, and_le_l, and_le_r}
use lib.ListN.{length, get_or, take, drop, drop_of_length-le}
use Rattle.std.proofs.lemmas.List.{take_more}
use lib.Seq.{drop-cons}
use Rattle.group.specs.Choice.{when◌then◌else◌, ◌and◌, ◌=?◌}
use Rattle.group.proofs.Choice.{both_hold, first_fails, then_fails}
use Rattle.group.proofs.Lists.{le_or}
use Rattle.message.specs.Message.{all_zero}

pub and_assoc : (a b c : Bool) → (a and b) and c ≡ a and (b and c)
unfolding when◌then◌else◌
and_assoc true b c = refl
and_assoc false b c = refl

pub and_true : (a : Bool) → a and true ≡ a
unfolding when◌then◌else◌
and_true true = refl
and_true false = refl

-- two bytes joined by `|` are zero exactly if both are
pub or_zero : (a b : ℕ) → (bit_or a b =? 0) ≡ a =? 0 and b =? 0
or_zero a b = go (a =? 0) refl (b =? 0) refl
  where
    -- neither byte is above the two joined
    sum : bit_or a b + bit_and a b ≡ a + b
    sum = or_add_and a b

    go : (t : Bool) → (a =? 0) ≡ t → (u : Bool) → (b =? 0) ≡ u → (bit_or a b =? 0) ≡ a =? 0 and b =? 0
    go true p true q =
        eq-eqb (bit_or a b) 0 (let x = eqb-true a 0 p in let y = eqb-true b 0 q in omega (arith, sum)) ∙ sym (both_hold (a =? 0) (b =? 0) p q)
    go true p false q =
        ne_eqb (bit_or a b) 0 (λ z. eqb-false b 0 q (let l = and_le_l a b in let x = eqb-true a 0 p in omega (arith, sum)))
        ∙ sym (then_fails (a =? 0) (b =? 0) q)
    go false p u q =
        ne_eqb (bit_or a b) 0 (λ z. eqb-false a 0 p (let l = and_le_r a b in omega (arith, sum))) ∙ sym (first_fails (a =? 0) (b =? 0) p)

pub zero_append : (xs ys : List ℕ) → all_zero (xs ++ ys) ≡ all_zero xs and all_zero ys
unfolding all_zero when◌then◌else◌
zero_append [] ys = refl
zero_append (x ∷ xs) ys = ap (λ (b : Bool). x =? 0 and b) (zero_append xs ys) ∙ sym (and_assoc (x =? 0) (all_zero xs) (all_zero ys))

-- bytes joined by `|`, and one more
pub zero_joined : (seen b : ℕ) (bytes : List ℕ) → (seen =? 0) ≡ all_zero bytes → (bit_or seen b =? 0) ≡ all_zero (bytes ++ (b ∷ []))
unfolding all_zero
zero_joined seen b bytes e =
    rw (or_zero seen b, zero_append bytes (b ∷ []), e, and_true (b =? 0)) refl

-- the next of them
pub zero_next : (bytes : List ℕ) (i seen : ℕ) → i < length bytes → (seen =? 0) ≡ all_zero (take i bytes) → (bit_or seen (get_or bytes i 0) =? 0) ≡ all_zero (take (i + 1) bytes)
zero_next bytes i seen h e = rw (take_more bytes i 0 h) (zero_joined seen (get_or bytes i 0) (take i bytes) e)

either_true : (t u : Bool) → u ≡ true → (when t then true else u) ≡ true
unfolding when◌then◌else◌
either_true true u e = refl
either_true false u e = e

either_first : (t u : Bool) → u ≡ false → (when t then true else u) ≡ t
unfolding when◌then◌else◌
either_first true u e = refl
either_first false u e = e

-- The bytes from an index `from` on, after the loop has passed the first i: `seen` is those that count, joined by `|`, and what is
-- left are the bytes from the larger of i and `from` on.
module _ (bytes : List ℕ) (from seen i : ℕ) (inv : seen =? 0 and all_zero (drop (i + (from - i)) bytes) ≡ all_zero (drop from bytes)) where
  -- a byte before the index counts as zero
  skipped : (s : ℕ) → i < from → (s =? 0) ≡ (when get_or bytes i 0 =? 0 then true else (i + 1 - from =? 0))
      → bit_or seen s =? 0 and all_zero (drop (i + 1 + (from - (i + 1))) bytes) ≡ all_zero (drop from bytes)
  skipped s h c =
      let o : (i + 1 - from =? 0) ≡ true = eq-eqb (i + 1 - from) 0 (omega arith) in
      let z : (s =? 0) ≡ true = c ∙ either_true (get_or bytes i 0 =? 0) (i + 1 - from =? 0) o in
      let k : i + 1 + (from - (i + 1)) ≡ i + (from - i) = omega arith in
      rw (k, or_zero seen s, z, and_true (seen =? 0)) inv

  -- one behind it counts
  counted : (s : ℕ) → from ≤ i → i < length bytes → (s =? 0) ≡ (when get_or bytes i 0 =? 0 then true else (i + 1 - from =? 0))
      → bit_or seen s =? 0 and all_zero (drop (i + 1 + (from - (i + 1))) bytes) ≡ all_zero (drop from bytes)
  unfolding all_zero
  counted s h b c =
      let o : (i + 1 - from =? 0) ≡ false = ne_eqb (i + 1 - from) 0 (λ z. omega arith) in
      let z : (s =? 0) ≡ (get_or bytes i 0 =? 0) = c ∙ either_first (get_or bytes i 0 =? 0) (i + 1 - from =? 0) o in
      let k : i + 1 + (from - (i + 1)) ≡ i + 1 = omega arith in
      let l : i + (from - i) ≡ i = omega arith in
      let now : seen =? 0 and all_zero (drop i bytes) ≡ all_zero (drop from bytes) = rw l at inv in
      rw (k, or_zero seen s, z)
      (and_assoc (seen =? 0) (get_or bytes i 0 =? 0) (all_zero (drop (i + 1) bytes))
      ∙ ap (λ (b : Bool). seen =? 0 and b) (sym (ap all_zero (drop-cons bytes i 0 b) ∙ rw add-one))
      ∙ now)

  pub zero_on : (s : ℕ) → i < length bytes → (s =? 0) ≡ (when get_or bytes i 0 =? 0 then true else (i + 1 - from =? 0))
      → bit_or seen s =? 0 and all_zero (drop (i + 1 + (from - (i + 1))) bytes) ≡ all_zero (drop from bytes)
  zero_on s b c = le_or from i (λ h. counted s h b c) (λ h. skipped s h c)

  pub zero_done : length bytes ≤ i → (seen =? 0) ≡ all_zero (drop from bytes)
  unfolding all_zero
  zero_done h =
      sym (and_true (seen =? 0))
      ∙ ap (λ (b : Bool). seen =? 0 and b) (sym (ap all_zero (drop_of_length-le bytes {i = i + (from - i)} (omega arith))))
      ∙ inv
