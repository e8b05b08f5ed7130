-- The laws of specs/Laws.antt: a digit is worth what it was written for, and so is a run of them; the lines of an input are its
-- parts that a line feed ends. Assumes nothing.
use mathlib.Core.Path.{◌≡◌, refl, sym, ap, ◌∙◌}
use mathlib.Core.Bool.{true, false}
use mathlib.Core.List.{List, [], ◌∷◌, ◌++◌}
use Rattle.std.specs.Prelude.{None, Some}
use Prim.Native.Char.{code}
use Prim.Native.Nat.{ℕ, zero, suc, ◌+◌, ◌-◌, ◌*◌, ◌/◌, ◌%◌, ◌≤◌, ◌<◌}
use native.Mathlib.Numerals.{add-one}
use native.Mathlib.Omega.{arith}
use borrow.Author.Rules.{rules}
use borrow.Author.Tests.{lt-ltb, ltb-true, le-leb, eq-eqb}
use lib.ListN.{length, length-append}
use Rattle.group.specs.Choice.{when◌then◌else◌, ◌<?◌, ◌≤?◌, ◌=?◌}
use Rattle.group.specs.Fold.{all}
use Rattle.group.specs.Limits.{largest_number}
use Rattle.group.proofs.Choice.{choices, when_true, when_false, when_lt, when_nlt, when_le, when_nle, both_hold, both_first, both_then}
use Rattle.group.proofs.Lists.{eq_or, le_or}
use Rattle.text.specs.Text.{line_feed, dash, digit_of, glyph_of}
use Rattle.text.specs.Field.{before, lines_of, letter_of, is_letter, digits_of, value_from, up_to_largest, number_in, pairs_of, is_hex, hex_bytes, hex_in}
use Rattle.text.specs.Laws.{NumberBack, PayloadBack, LinesGoOn, LinesEnd}
use Rattle.text.specs.Written.{decimal_digits, decimal_of, hex_of, payload_text}
use Rattle.text.proofs.Decimal.{digits_step, decimal_zero, decimal_digits_lem}
use Rattle.text.proofs.Hex.{payload_hex}
use Rattle.text.proofs.Split.{parts_one, parts_more}

-- what the two kinds of digit are worth
figure_worth : (c : ℕ) → code "0" ≤ c → c ≤ code "9" → c - code "0" ≡ digit_of c
unfolding digit_of
figure_worth c h k = search (choices, rules) depth 9

letter_worth : (c : ℕ) → code "a" ≤ c → c ≤ code "f" → c - code "a" + 10 ≡ digit_of c
unfolding digit_of
letter_worth c h k = when_nlt c (code "0") _ _ _ (omega arith) (when_nle c (code "9") _ _ _ (omega arith) (search (choices, rules) depth 9))

-- a digit is worth what it was written for
glyph_worth : (d : ℕ) → d < 16 → digit_of (glyph_of d) ≡ d
unfolding glyph_of
glyph_worth d h =
    le_or 10 d (λ k. let e : glyph_of d ≡ code "a" + (d - 10) = sym (when_nlt d 10 _ (code "0" + d) (code "a" + (d - 10)) k refl) in
    rw e (sym (letter_worth (code "a" + (d - 10)) (omega arith) (omega arith)) ∙ omega arith))
    (λ k. let e : glyph_of d ≡ code "0" + d = sym (when_lt d 10 _ (code "0" + d) (code "a" + (d - 10)) k refl) in
    rw e (sym (figure_worth (code "0" + d) (omega arith) (omega arith)) ∙ omega arith))

-- one digit behind others
value_behind : (l : List ℕ) (v c : ℕ) → value_from v (l ++ (c ∷ [])) ≡ value_from v l * 10 + digit_of c
unfolding value_from
value_behind [] v c = refl
value_behind (d ∷ l) v c = value_behind l (v * 10 + digit_of d) c

digits_behind : (base : ℕ) (l : List ℕ) (i c : ℕ) → all (λ i c. digit_of c <? base) i l ≡ true → digit_of c < base → all (λ i c. digit_of c <? base) i (l ++ (c ∷ [])) ≡ true
unfolding all
digits_behind base [] i c e h = both_hold (digit_of c <? base) true (lt-ltb _ _ h) refl
digits_behind base (d ∷ l) i c e h =
    both_hold (digit_of d <? base) (all (λ i c. digit_of c <? base) (i + 1) (l ++ (c ∷ []))) (both_first (digit_of d <? base) (all (λ i c. digit_of c <? base) (i + 1) l) e)
    (digits_behind base l (i + 1) c (both_then (digit_of d <? base) (all (λ i c. digit_of c <? base) (i + 1) l) e) h)

-- the digits of a number come to the number
digits_value : (k n : ℕ) → n ≤ k → (value_from 0 (decimal_digits n n) ≡ n) × (digits_of 10 (decimal_digits n n) ≡ true)
unfolding decimal_digits value_from all
digits_value zero n h = let e : n ≡ 0 = omega arith in rw e (refl, refl)
digits_value (suc k) n h =
    le_or n 0 (λ z. let e : n ≡ 0 = omega arith in rw e (refl, refl))
    (λ p. let v = digits_value k (n / 10) (omega arith) in
    let d : digit_of (glyph_of (n % 10)) ≡ n % 10 = glyph_worth (n % 10) (omega arith) in
    rw (digits_step n p)
    (value_behind (decimal_digits (n / 10) (n / 10)) 0 (glyph_of (n % 10)) ∙ rw (v.0, d) (omega arith), digits_behind 10 (decimal_digits (n / 10) (n / 10)) 0 (glyph_of (n % 10)) v.1 (omega arith)))

decimal_value : (n : ℕ) → (1 ≤ length (decimal_of n)) × (digits_of 10 (decimal_of n) ≡ true) × (value_from 0 (decimal_of n) ≡ n)
unfolding glyph_of digit_of value_from all when◌then◌else◌
decimal_value n =
    eq_or n 0 (λ e. rw (e, decimal_zero) (omega arith, refl, refl))
    (λ e. let v = digits_value n n (omega arith) in
    let s = ap length (digits_step n (omega arith)) ∙ length-append (decimal_digits (n / 10) (n / 10)) (glyph_of (n % 10) ∷ []) in
    rw (decimal_digits_lem n e) (omega arith, v.1, v.0))

pub number_back : NumberBack
unfolding number_in up_to_largest
number_back n h =
    let v = decimal_value n in
    sym
    (when_le 1 (length (decimal_of n)) _ _ _ v.0
    (when_true (digits_of 10 (decimal_of n)) _ _ _ v.1 (rw v.2 (when_le n largest_number _ _ _ h refl))))

-- pairs of digits come to the bytes that they were written for
module _ (b : ℕ) (b<256 : b < 256) where
  high_worth : digit_of (glyph_of (b / 16)) ≡ b / 16
  high_worth = glyph_worth (b / 16) (omega arith)

  low_worth : digit_of (glyph_of (b % 16)) ≡ b % 16
  low_worth = glyph_worth (b % 16) (omega arith)

hex_length : (l : List ℕ) → length (hex_of l) ≡ 2 * length l
unfolding hex_of
hex_length [] = refl
hex_length (b ∷ l) = let e = hex_length l in omega arith

hex_back : (l : List ℕ) (i j : ℕ) → all (λ i b. b <? 256) i l ≡ true → (pairs_of (hex_of l) ≡ l) × (all (λ i c. digit_of c <? 16) j (hex_of l) ≡ true)
unfolding hex_of pairs_of all
hex_back [] i j e = (refl, refl)
hex_back (b ∷ l) i j e =
    let h : b < 256 = ltb-true b 256 (both_first (b <? 256) (all (λ i b. b <? 256) (i + 1) l) e) in
    let r = hex_back l (i + 1) (j + 1 + 1) (both_then (b <? 256) (all (λ i b. b <? 256) (i + 1) l) e) in
    let p = high_worth b h in
    let q = low_worth b h in
    let w : digit_of (glyph_of (b / 16)) * 16 + digit_of (glyph_of (b % 16)) ≡ b = rw (p, q) (omega arith) in
    let u : (digit_of (glyph_of (b / 16)) <? 16) ≡ true = lt-ltb (digit_of (glyph_of (b / 16))) 16 (omega arith) in
    let v : (digit_of (glyph_of (b % 16)) <? 16) ≡ true = lt-ltb (digit_of (glyph_of (b % 16))) 16 (omega arith) in
    (rw (w, r.0), both_hold _ _ u (both_hold _ _ v r.1))

-- several bytes are no single character
hex_letter : (b : ℕ) (l : List ℕ) → is_letter dash (letter_of (hex_of (b ∷ l))) ≡ false
unfolding hex_of letter_of is_letter
hex_letter b l = refl

module _ (b : ℕ) (l : List ℕ) (e : all (λ i b. b <? 256) 0 (b ∷ l) ≡ true) where
  hex_is : is_hex (hex_of (b ∷ l)) ≡ true
  unfolding is_hex
  hex_is =
      let n = hex_length (b ∷ l) in
      let t = hex_of (b ∷ l) in
      let u : (1 ≤? length t) ≡ true = le-leb 1 (length t) (omega arith) in
      let v : (length t % 2 =? 0) ≡ true = eq-eqb (length t % 2) 0 (omega arith) in
      sym (when_false (is_letter dash (letter_of t)) true true _ (hex_letter b l) (sym (both_hold _ _ u (both_hold _ _ v (hex_back (b ∷ l) 0 0 e).1))))

  hex_bytes_lem : hex_bytes (hex_of (b ∷ l)) ≡ b ∷ l
  unfolding hex_bytes
  hex_bytes_lem = sym (when_false (is_letter dash (letter_of (hex_of (b ∷ l)))) (b ∷ l) [] _ (hex_letter b l) (sym (hex_back (b ∷ l) 0 0 e).0))

empty_back : hex_in (payload_text []) ≡ Some []
unfolding is_hex hex_bytes payload_text letter_of is_letter when◌then◌else◌
empty_back = refl

pub payload_back : PayloadBack
payload_back [] e = empty_back
payload_back (b ∷ l) e =
    rw (payload_hex (b ∷ l) (λ z. omega arith)) (sym (when_true (is_hex (hex_of (b ∷ l))) _ _ None (hex_is b l e) (ap Some (sym (hex_bytes_lem b l e)))))

pub lines_go_on : LinesGoOn
unfolding lines_of before
lines_go_on input e h =
    let p : e ≡ 0 + e = omega arith in
    parts_more line_feed lines_of (λ c l. refl) (λ c. refl) input 0 e (h ∙ ap Some p) ∙ rw add-one

pub lines_end : LinesEnd
unfolding lines_of before
lines_end [] h n = absurd (omega arith)
lines_end (c ∷ input) h n = parts_one line_feed lines_of (λ c l. refl) (λ c. refl) input 0 c h
