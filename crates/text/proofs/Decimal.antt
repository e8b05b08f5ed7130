-- The digits of a number from its last on, and how many they are at most. Assumes nothing.
use mathlib.Core.Path.{◌≡◌, refl, sym, ap, ◌∙◌}
use mathlib.Core.List.{List, [], ◌∷◌, ◌++◌, append_assoc}
use Prim.Native.Nat.{ℕ, zero, suc, ◌-◌, ◌*◌, ◌/◌, ◌%◌, ◌^◌, ◌≤◌, ◌<◌, zero-le}
use native.Mathlib.Nat.{pow-suc}
use native.Mathlib.Omega.{arith}
use lib.ListN.{length, take, drop, set, length-append}
use lib.Seq.{length-take-le, drop_at, set_split}
use Rattle.group.specs.Choice.{when◌then◌else◌}
use Rattle.group.proofs.Choice.{when_ne}
use Rattle.group.proofs.Lists.{eq_or, le_or}
use Rattle.text.specs.Text.{glyph_of}
use Rattle.text.specs.Written.{decimal_digits, decimal_of}

-- of 0 there is no digit
digits_none : (k : ℕ) → decimal_digits k 0 ≡ []
unfolding decimal_digits when◌then◌else◌
digits_none zero = refl
digits_none (suc k) = refl

-- the last digit of a number above 0, behind the others
digits_last : (k n : ℕ) → 0 < n → decimal_digits (suc k) n ≡ decimal_digits k (n / 10) ++ (glyph_of (n % 10) ∷ [])
unfolding decimal_digits
digits_last k n h = sym (when_ne n 0 _ [] (decimal_digits k (n / 10) ++ (glyph_of (n % 10) ∷ [])) (λ e. omega arith) refl)

-- whatever bound on their count is given
digits_same : (k j n : ℕ) → n ≤ k → n ≤ j → decimal_digits k n ≡ decimal_digits j n
digits_same zero j n h g = let e : n ≡ 0 = omega arith in rw e (digits_none 0 ∙ sym (digits_none j))
digits_same (suc k) zero n h g = let e : n ≡ 0 = omega arith in rw e (digits_none (suc k) ∙ sym (digits_none 0))
digits_same (suc k) (suc j) n h g =
    le_or n 0 (λ z. let e : n ≡ 0 = omega arith in rw e (digits_none (suc k) ∙ sym (digits_none (suc j))))
    (λ p. digits_last k n p
    ∙ ap (λ (l : List ℕ). l ++ (glyph_of (n % 10) ∷ [])) (digits_same k j (n / 10) (omega arith) (omega arith))
    ∙ sym (digits_last j n p))

pub digits_step : (n : ℕ) → 0 < n → decimal_digits n n ≡ decimal_digits (n / 10) (n / 10) ++ (glyph_of (n % 10) ∷ [])
digits_step zero h = absurd (omega arith)
digits_step (suc n) h =
    digits_last n (suc n) h ∙ ap (λ (l : List ℕ). l ++ (glyph_of (suc n % 10) ∷ [])) (digits_same n (suc n / 10) (suc n / 10) (omega arith) (omega arith))

-- a number below the j-th power of ten has at most j digits
pub digits_most : (j n : ℕ) → n < 10 ^ j → length (decimal_digits n n) ≤ j
digits_most zero n h = let e : n ≡ 0 = omega arith in rw (e, digits_none 0) zero-le
digits_most (suc j) n h =
    le_or n 0 (λ z. let e : n ≡ 0 = omega arith in rw (e, digits_none 0) zero-le)
    (λ p. let q : 10 ^ suc j ≡ 10 ^ j * 10 = pow-suc 10 j in
    let i = digits_most j (n / 10) (omega arith) in
    rw (digits_step n p, length-append) (omega arith))

-- the loop that spells a number, where `start` digits are to come at the most: a turn, and its end
module _ (n rest start : ℕ) (digits : List ℕ) (room : length (decimal_digits rest rest) ≤ start)
    (laid : decimal_digits rest rest ++ drop start digits ≡ decimal_digits n n)
  where
    pub spell_room : 0 < rest → 1 ≤ start
    spell_room h = let e = ap length (digits_step rest h) ∙ length-append (decimal_digits (rest / 10) (rest / 10)) (glyph_of (rest % 10) ∷ []) in omega arith

    pub spell_fewer : 0 < rest → length (decimal_digits (rest / 10) (rest / 10)) ≤ start - 1
    spell_fewer h = let e = ap length (digits_step rest h) ∙ length-append (decimal_digits (rest / 10) (rest / 10)) (glyph_of (rest % 10) ∷ []) in omega arith

    pub spell_on : (d : ℕ) → 0 < rest → start ≤ length digits → d ≡ glyph_of (rest % 10)
        → decimal_digits (rest / 10) (rest / 10) ++ drop (start - 1) (set digits (start - 1) d) ≡ decimal_digits n n
    spell_on d h k e =
        let r = spell_room h in
        let s : suc (start - 1) ≡ start = omega arith in
        let w : drop (start - 1) (set digits (start - 1) d) ≡ d ∷ drop start digits =
        rw (set_split digits (start - 1) d (omega arith), s) (drop_at (take (start - 1) digits) (d ∷ drop start digits) (start - 1) (length-take-le (start - 1) digits (omega arith)))
        in
        rw (w, e) (sym (append_assoc (decimal_digits (rest / 10) (rest / 10)) (glyph_of (rest % 10) ∷ []) (drop start digits)) ∙ rw (← digits_step rest h) laid)

    pub spell_done : rest ≤ 0 → drop start digits ≡ decimal_digits n n
    spell_done h = let e : rest ≡ 0 = omega arith in rw (e, digits_none 0) at laid

-- a number in base ten: 0 is one digit, any other has those above
pub decimal_zero : decimal_of 0 ≡ glyph_of 0 ∷ []
unfolding decimal_of when◌then◌else◌
decimal_zero = refl

pub decimal_digits_lem : (n : ℕ) → (n ≡ 0 → ⊥) → decimal_of n ≡ decimal_digits n n
unfolding decimal_of
decimal_digits_lem n h = sym (when_ne n 0 (decimal_digits n n) (glyph_of 0 ∷ []) (decimal_digits n n) h refl)

pub decimal_most : (j n : ℕ) → 1 ≤ j → n < 10 ^ j → length (decimal_of n) ≤ j
decimal_most j n o h = eq_or n 0 (λ e. rw (e, decimal_zero) o) (λ e. rw (decimal_digits_lem n e) (digits_most j n h))
