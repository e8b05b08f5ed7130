-- Where a character first stands, one character at a time, and the parts of a text that it ends. Assumes nothing.
use mathlib.Core.Path.{◌≡◌, refl, sym, ap, ◌∙◌}
use mathlib.Core.Bool.{Bool, true, false}
use mathlib.Core.List.{List, [], ◌∷◌}
use Rattle.std.specs.Prelude.{Option, None, Some, eqb}
use Rattle.std.specs.Option.{option_eq}
use Prim.Native.Nat.{ℕ, zero, suc, ◌+◌, ◌-◌, ◌≤◌, ◌<◌}
use native.Mathlib.Numerals.{add-one}
use native.Mathlib.Omega.{arith}
use lib.ListN.{length, get_or, take, drop, length-drop, drop_of_length-le}
use lib.Seq.{drop-cons, drop-drop}
use Rattle.group.specs.Choice.{when◌then◌else◌, ◌=?◌}
use Rattle.group.proofs.Choice.{when_eq, when_ne}
use Rattle.text.specs.Text.{space}
use Rattle.text.specs.Field.{first_from, before, fields_of, letter_of, is_letter}

-- the loop that looks for a character: here, further on, and the end
module _ (character : ℕ) (l : List ℕ) (i : ℕ) (whole : Option ℕ) (inv : whole ≡ first_from character i (drop i l)) where
  first_step : i < length l → whole ≡ when get_or l i 0 =? character then Some i else first_from character (i + 1) (drop (i + 1) l)
  unfolding first_from
  first_step h = inv ∙ rw (drop-cons l i 0 h, add-one)

  pub first_here : i < length l → get_or l i 0 ≡ character → Some i ≡ whole
  first_here h e = when_eq (get_or l i 0) character (Some i) (Some i) _ e refl ∙ sym (first_step h)

  pub first_on : i < length l → (get_or l i 0 ≡ character → ⊥) → whole ≡ first_from character (i + 1) (drop (i + 1) l)
  first_on h e = first_step h ∙ sym (when_ne (get_or l i 0) character _ (Some i) _ e refl)

  pub first_done : length l ≤ i → None ≡ whole
  unfolding first_from
  first_done h = sym (inv ∙ rw (drop_of_length-le l h))

nothing_at : {e : ℕ} → None ≡ Some e → ⊥
nothing_at h = let z : ◌≡◌ {A = ℕ} 0 1 = cc in omega arith

-- what is found stands in the text, from where it was looked for on
found_in : (character : ℕ) (l : List ℕ) (i e : ℕ) → first_from character i l ≡ Some e → (i ≤ e) × (e < i + length l)
unfolding first_from when◌then◌else◌
found_in character [] i e h = absurd (nothing_at h)
found_in character (c ∷ l) i e h = go (c =? character) (found_in character l (i + 1) e) h
  where
    go : (t : Bool) → (first_from character (i + 1) l ≡ Some e → (i + 1 ≤ e) × (e < i + 1 + length l)) → when t then Some i else first_from character (i + 1) l ≡ Some e
        → (i ≤ e) × (e < i + suc (length l))
    go true further h = let z : i ≡ e = cc in (omega arith, omega arith)
    go false further h = let k = further h in (omega arith, omega arith)

pub found_from : (character : ℕ) (l : List ℕ) (i e : ℕ) → i ≤ length l → first_from character i (drop i l) ≡ Some e → (i ≤ e) × (e < length l)
found_from character l i e b h =
    let k = found_in character (drop i l) i e h in
    let n = length-drop i l in
    (k.0, omega arith)

-- the parts of a text that a character ends: for the fields of a line and for the lines of an input
module _ (mark : ℕ) (parts : List ℕ → List (List ℕ))
    (goes : (c : ℕ) (l : List ℕ) → parts (c ∷ l) ≡ when c =? mark then [] ∷ parts l else before c (parts l))
    (ends : (c : ℕ) → before c (parts []) ≡ (c ∷ []) ∷ [])
  where
    -- without the character the whole is one
    pub parts_one : (l : List ℕ) (i c : ℕ) → first_from mark i (c ∷ l) ≡ None → parts (c ∷ l) ≡ (c ∷ l) ∷ []
    unfolding first_from when◌then◌else◌ before
    parts_one [] i c h = goes c [] ∙ go (c =? mark) h
      where
        go : (t : Bool) → when t then Some i else None ≡ None → when t then [] ∷ parts [] else before c (parts []) ≡ (c ∷ []) ∷ []
        go true h = absurd (nothing_at (sym h))
        go false h = ends c
    parts_one (d ∷ l) i c h = goes c (d ∷ l) ∙ go (c =? mark) (parts_one l (i + 1) d) h
      where
        go : (t : Bool) → (first_from mark (i + 1) (d ∷ l) ≡ None → parts (d ∷ l) ≡ (d ∷ l) ∷ []) → when t then Some i else first_from mark (i + 1) (d ∷ l) ≡ None
            → when t then [] ∷ parts (d ∷ l) else before c (parts (d ∷ l)) ≡ (c ∷ (d ∷ l)) ∷ []
        go true further h = absurd (nothing_at (sym h))
        go false further h = ap (before c) (further h)

    -- the first part stands before the character, the others behind it
    pub parts_more : (l : List ℕ) (i k : ℕ) → first_from mark i l ≡ Some (i + k) → parts l ≡ take k l ∷ parts (drop (suc k) l)
    unfolding first_from when◌then◌else◌ before
    parts_more [] i k h = absurd (nothing_at h)
    parts_more (c ∷ l) i k h = goes c l ∙ go (c =? mark) k (parts_more l (i + 1)) h
      where
        go : (t : Bool) (k : ℕ) → ((k : ℕ) → first_from mark (i + 1) l ≡ Some (i + 1 + k) → parts l ≡ take k l ∷ parts (drop (suc k) l))
            → when t then Some i else first_from mark (i + 1) l ≡ Some (i + k) → when t then [] ∷ parts l else before c (parts l) ≡ take k (c ∷ l) ∷ parts (drop (suc k) (c ∷ l))
        go true zero further h = refl
        go true (suc k) further h = let z : i ≡ i + suc k = cc in absurd (omega arith)
        go false zero further h = let z = found_in mark l (i + 1) (i + 0) h in absurd (omega arith)
        go false (suc k) further h = let e : i + suc k ≡ i + 1 + k = omega arith in ap (before c) (further k (h ∙ ap Some e))

-- the fields of a line from an index on
module _ (l : List ℕ) (i : ℕ) where
  pub fields_one : first_from space i (drop i l) ≡ None → fields_of (drop i l) ≡ drop i l ∷ []
  unfolding fields_of before
  fields_one h = go (drop i l) h
    where
      go : (r : List ℕ) → first_from space i r ≡ None → fields_of r ≡ r ∷ []
      go [] h = refl
      go (c ∷ r) h = parts_one space fields_of (λ c l. refl) (λ c. refl) r i c h

  pub fields_more : (e : ℕ) → i ≤ length l → first_from space i (drop i l) ≡ Some e → fields_of (drop i l) ≡ take (e - i) (drop i l) ∷ fields_of (drop (e + 1) l)
  unfolding fields_of before
  fields_more e b h =
      let k = found_from space l i e b h in
      let n : e ≡ i + (e - i) = omega arith in
      let m : i + suc (e - i) ≡ e + 1 = omega arith in
      parts_more space fields_of (λ c l. refl) (λ c. refl) (drop i l) i (e - i) (h ∙ ap Some n)
      ∙ rw (drop-drop, m)

-- a field of one character, of none, and of several
pub letter_one : (l : List ℕ) → 1 ≤ length l → length l < 2 → Some (get_or l 0 0) ≡ letter_of l
unfolding letter_of
letter_one [] h g = absurd (omega arith)
letter_one (c ∷ []) h g = refl
letter_one (c ∷ (d ∷ l)) h g = absurd (omega arith)

pub letter_none : (l : List ℕ) → length l < 1 → None ≡ letter_of l
unfolding letter_of
letter_none [] h = refl
letter_none (c ∷ l) h = absurd (omega arith)

pub letter_several : (l : List ℕ) → 2 ≤ length l → None ≡ letter_of l
unfolding letter_of
letter_several [] h = absurd (omega arith)
letter_several (c ∷ []) h = absurd (omega arith)
letter_several (c ∷ (d ∷ l)) h = refl

-- the test of a letter is equality with it
pub letter_is : (character : ℕ) (letter : Option ℕ) → option_eq eqb letter (Some character) ≡ is_letter character letter
unfolding is_letter
letter_is character None = refl
letter_is character (Some c) = refl
