-- Ways past a choice: one law for each test that the code can have made, by which `search` goes down a nest of choices.
-- Assumes nothing.
use mathlib.Core.Bool.{Bool, true, false}
use mathlib.Core.Path.{◌≡◌, refl, sym, ◌∙◌}
use Prim.Native.Nat.{ℕ, ◌≤◌, ◌<◌}
use borrow.Author.Tests.{lt-ltb, le-ltb, le-leb, lt-leb, eq-eqb, ne_eqb, ltb-true, leb-true, eqb-true}
use Rattle.group.specs.Choice.{when◌then◌else◌, ◌<?◌, ◌≤?◌, ◌=?◌}

module _ {A : Type 0} where
  pub when_true : (t : Bool) (x y z : A) → t ≡ true → x ≡ y → x ≡ when t then y else z
  unfolding when◌then◌else◌
  when_true t x y z h e = rw h e

  pub when_false : (t : Bool) (x y z : A) → t ≡ false → x ≡ z → x ≡ when t then y else z
  unfolding when◌then◌else◌
  when_false t x y z h e = rw h e

  pub when_lt : (a b : ℕ) (x y z : A) → a < b → x ≡ y → x ≡ when a <? b then y else z
  when_lt a b x y z h e = when_true _ x y z (lt-ltb a b h) e

  pub when_nlt : (a b : ℕ) (x y z : A) → b ≤ a → x ≡ z → x ≡ when a <? b then y else z
  when_nlt a b x y z h e = when_false _ x y z (le-ltb a b h) e

  pub when_le : (a b : ℕ) (x y z : A) → a ≤ b → x ≡ y → x ≡ when a ≤? b then y else z
  when_le a b x y z h e = when_true _ x y z (le-leb a b h) e

  pub when_nle : (a b : ℕ) (x y z : A) → b < a → x ≡ z → x ≡ when a ≤? b then y else z
  when_nle a b x y z h e = when_false _ x y z (lt-leb a b h) e

  pub when_eq : (a b : ℕ) (x y z : A) → a ≡ b → x ≡ y → x ≡ when a =? b then y else z
  when_eq a b x y z h e = when_true _ x y z (eq-eqb a b h) e

  pub when_ne : (a b : ℕ) (x y z : A) → (a ≡ b → ⊥) → x ≡ z → x ≡ when a =? b then y else z
  when_ne a b x y z h e = when_false _ x y z (ne_eqb a b h) e

  -- the test's value, or the number tested, stands in a local that a call gave
  pub when_true_of : (t u : Bool) (x y z : A) → u ≡ t → u ≡ true → x ≡ y → x ≡ when t then y else z
  when_true_of t u x y z d h e = when_true t x y z (sym d ∙ h) e

  pub when_false_of : (t u : Bool) (x y z : A) → u ≡ t → u ≡ false → x ≡ z → x ≡ when t then y else z
  when_false_of t u x y z d h e = when_false t x y z (sym d ∙ h) e

  pub when_eq_of : (a b q : ℕ) (x y z : A) → q ≡ a → q ≡ b → x ≡ y → x ≡ when a =? b then y else z
  when_eq_of a b q x y z d h e = when_eq a b x y z (sym d ∙ h) e

  pub when_ne_of : (a b q : ℕ) (x y z : A) → q ≡ a → (q ≡ b → ⊥) → x ≡ z → x ≡ when a =? b then y else z
  when_ne_of a b q x y z d h e = when_ne a b x y z (λ w. h (d ∙ w)) e

  -- a choice that is not its second value was made by a test that holds
  pub when_was : (t : Bool) (x y z : A) → when t then x else y ≡ z → (y ≡ z → ⊥) → (t ≡ true) × (x ≡ z)
  unfolding when◌then◌else◌
  when_was true x y z e n = (refl, e)
  when_was false x y z e n = absurd (n e)

-- a test that is two: both hold, or one does not
pub both_hold : (s t : Bool) → s ≡ true → t ≡ true → when s then t else false ≡ true
unfolding when◌then◌else◌
both_hold s t h k = rw h k

pub first_fails : (s t : Bool) → s ≡ false → when s then t else false ≡ false
unfolding when◌then◌else◌
first_fails s t h = rw h

pub then_fails : (s t : Bool) → t ≡ false → when s then t else false ≡ false
unfolding when◌then◌else◌
then_fails true t h = h
then_fails false t h = refl

-- a test and another, where both hold
pub both_first : (t x : Bool) → when t then x else false ≡ true → t ≡ true
unfolding when◌then◌else◌
both_first true x e = refl
both_first false x e = e

pub both_then : (t x : Bool) → when t then x else false ≡ true → x ≡ true
unfolding when◌then◌else◌
both_then true x e = e
both_then false x e = let z : false ≡ true = e in cc

-- forwards, out of a chain of tests that all hold, to what each says
pub ruleset says = (both_first, both_then, ltb-true, leb-true, eqb-true)

-- down a nest of choices
pub ruleset choices = (when_lt, when_nlt, when_le, when_nle, when_eq, when_ne, when_true, when_false, when_true_of, when_false_of, when_eq_of, when_ne_of)

-- the same where a test is two
pub ruleset tests = (both_hold, first_fails, then_fails, lt-ltb, le-ltb, le-leb, lt-leb, eq-eqb, ne_eqb)
