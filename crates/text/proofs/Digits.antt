-- What digits come to, one character or one pair at a time. Assumes nothing.
use mathlib.Core.Path.{◌≡◌, refl, sym, ap, ◌∙◌}
use mathlib.Core.Bool.{Bool, true, false, ◌&&◌}
use mathlib.Core.List.{List, [], ◌∷◌, ◌++◌, append-nil}
use Rattle.std.specs.Prelude.{None, Some}
use Prim.Native.Nat.{ℕ, zero, suc, ◌+◌, ◌*◌, ◌/◌, ◌%◌, ◌≤◌, ◌<◌}
use native.Mathlib.Numerals.{add-one}
use native.Mathlib.Nat.{le_refl}
use native.Mathlib.Omega.{arith}
use borrow.Author.Tests.{ltb-true, eqb-true}
use lib.ListN.{length, get_or, take, drop, set, drop_of_length-le, take-append-drop}
use lib.Seq.{drop-cons, take-suc-set, drop-set-lt, append_snoc, drop-drop}
use Rattle.std.specs.List.{list_all}
use Rattle.group.specs.Choice.{when◌then◌else◌, ◌and◌, ◌<?◌, ◌≤?◌, ◌=?◌}
use Rattle.group.specs.Fold.{all}
use Rattle.group.specs.Lent.{front}
use Rattle.group.specs.Limits.{largest_number}
use Rattle.group.proofs.Choice.{when_true, when_false, when_le, when_nle, both_first, both_then}
use Rattle.text.specs.Text.{dash, digit_of}
use Rattle.text.specs.Field.{letter_of, is_letter, digits_of, value_from, up_to_largest, pairs_of, is_hex, hex_bytes}

-- digits bring no value down
value_grows : (l : List ℕ) (v : ℕ) → v ≤ value_from v l
unfolding value_from
value_grows [] v = le_refl v
value_grows (c ∷ l) v = let h = value_grows l (v * 10 + digit_of c) in omega arith

-- the loop over digits, where those passed came to v: a turn, a value past the largest, and the end
module _ (l : List ℕ) (v i : ℕ) (inv : value_from 0 l ≡ value_from v (drop i l)) where
  pub value_on : (d : ℕ) → i < length l → d ≡ digit_of (get_or l i 0) → value_from 0 l ≡ value_from (v * 10 + d) (drop (i + 1) l)
  unfolding value_from
  value_on d h e = inv ∙ rw (drop-cons l i 0 h, add-one, e)

  pub value_past : (d : ℕ) → i < length l → d ≡ digit_of (get_or l i 0) → largest_number < v * 10 + d → None ≡ up_to_largest (value_from 0 l)
  unfolding up_to_largest
  value_past d h e p =
      let g = value_grows (drop (i + 1) l) (v * 10 + d) in
      let w = value_on d h e in
      when_nle (value_from 0 l) largest_number None (Some (value_from 0 l)) None (omega arith) refl

  pub value_end : length l ≤ i → v ≤ largest_number → Some v ≡ up_to_largest (value_from 0 l)
  unfolding value_from up_to_largest
  value_end h p =
      let e : value_from 0 l ≡ v = inv ∙ rw (drop_of_length-le l h) in
      rw e (when_le v largest_number (Some v) (Some v) None p refl)

-- a chain asks each character what the definition asks
pub all_each : (test : ℕ → Bool) (i : ℕ) (l : List ℕ) → list_all test l ≡ all (λ i c. test c) i l
unfolding all when◌then◌else◌
all_each test i [] = refl
all_each test i (c ∷ l) = rw (all_each test (i + 1) l) (go (test c) _)
  where
    go : (a b : Bool) → (a && b) ≡ a and b
    go true b = refl
    go false b = refl

-- where every character is a digit, each is
pub digit_at : (base i : ℕ) (l : List ℕ) (k : ℕ) → all (λ i c. digit_of c <? base) k l ≡ true → i < length l → digit_of (get_or l i 0) < base
unfolding all
digit_at base i [] k e h = absurd (omega arith)
digit_at base zero (c ∷ l) k e h = ltb-true (digit_of c) base (both_first _ (all (λ i c. digit_of c <? base) (k + 1) l) e)
digit_at base (suc i) (c ∷ l) k e h =
    digit_at base i l (k + 1) (both_then (digit_of c <? base) (all (λ i c. digit_of c <? base) (k + 1) l) e) (omega arith)

-- the byte of a pair, then those of the rest
module _ (l : List ℕ) (i : ℕ) where
  pub pairs_step : 2 * i + 1 < length l
      → pairs_of (drop (2 * i) l) ≡ (digit_of (get_or l (2 * i) 0) * 16 + digit_of (get_or l (2 * i + 1) 0)) ∷ pairs_of (drop (2 * (i + 1)) l)
  unfolding pairs_of
  pairs_step h =
      let e : 2 * (i + 1) ≡ suc (suc (2 * i)) = omega arith in
      let f : 2 * i + 1 ≡ suc (2 * i) = omega arith in
      rw (e, f, drop-cons l (2 * i) 0 (omega arith), drop-cons l (suc (2 * i)) 0 (omega arith))

  pub pairs_end : length l ≤ 2 * i → pairs_of (drop (2 * i) l) ≡ []
  unfolding pairs_of
  pairs_end h = rw (drop_of_length-le l h)

pub pairs_length : (l : List ℕ) → length (pairs_of l) ≡ length l / 2
unfolding pairs_of
pairs_length [] = refl
pairs_length (c ∷ []) = refl
pairs_length (c ∷ (d ∷ l)) = let e = pairs_length l in omega arith

-- the loop that lays the bytes of pairs: what it laid so far, before the bytes to come; the rest keeps its value
module _ (field lent payload : List ℕ) (i : ℕ) (laid : take i payload ++ pairs_of (drop (2 * i) field) ≡ pairs_of field)
    (rest : drop i payload ≡ drop i lent) (i<n : i < length payload)
  where
    pub pairs_laid : (byte : ℕ) → 2 * i + 1 < length field → byte ≡ digit_of (get_or field (2 * i) 0) * 16 + digit_of (get_or field (2 * i + 1) 0)
        → take (i + 1) (set payload i byte) ++ pairs_of (drop (2 * (i + 1)) field) ≡ pairs_of field
    pairs_laid byte h e =
        rw (add-one i, take-suc-set payload i byte i<n, append_snoc, e, ← add-one i) (rw (pairs_step field i h) at laid)

    pub pairs_rest : (byte : ℕ) → drop (i + 1) (set payload i byte) ≡ drop (i + 1) lent
    pairs_rest byte = drop-set-lt (i + 1) payload i byte (omega arith) ∙ sym (drop-drop 1 i payload) ∙ ap (drop 1) rest ∙ drop-drop 1 i lent

-- and its end
pub pairs_done : (field lent payload : List ℕ) (i : ℕ) → length field ≡ 2 * i
    → take i payload ++ pairs_of (drop (2 * i) field) ≡ pairs_of field → drop i payload ≡ drop i lent → payload ≡ front (pairs_of field) lent
pairs_done field lent payload i n laid rest =
    let t : take i payload ≡ pairs_of field = sym (append-nil (take i payload)) ∙ ap (λ (l : List ℕ). take i payload ++ l) (sym (pairs_end field i (omega arith))) ∙ laid in
    let e : length (pairs_of field) ≡ i = pairs_length field ∙ omega arith in
    sym (take-append-drop i payload) ∙ rw (t, rest, e)

-- a payload in hex: `-`, or pairs of digits
module _ (field : List ℕ) where
  pub hex_dash : is_letter dash (letter_of field) ≡ true → hex_bytes field ≡ []
  unfolding hex_bytes
  hex_dash h = sym (when_true (is_letter dash (letter_of field)) [] [] (pairs_of field) h refl)

  pub hex_pairs : (is_letter dash (letter_of field) ≡ false) → hex_bytes field ≡ pairs_of field
  unfolding hex_bytes
  hex_pairs h = sym (when_false (is_letter dash (letter_of field)) (pairs_of field) [] (pairs_of field) h refl)

  pub hex_digits : is_hex field ≡ true → (is_letter dash (letter_of field) ≡ false) → (digits_of 16 field ≡ true) × (length field % 2 ≡ 0)
  unfolding is_hex
  hex_digits e h =
      let p : 1 ≤? length field and length field % 2 =? 0 and digits_of 16 field ≡ true =
      when_false (is_letter dash (letter_of field)) (1 ≤? length field and length field % 2 =? 0 and digits_of 16 field) true (1 ≤? length field and length field % 2 =? 0 and digits_of 16 field) h refl ∙ e
      in
      let q = both_then (1 ≤? length field) (length field % 2 =? 0 and digits_of 16 field) p in
      (both_then (length field % 2 =? 0) (digits_of 16 field) q, eqb-true (length field % 2) 0 (both_first (length field % 2 =? 0) (digits_of 16 field) q))
