-- Lists whose elements are numbered from 1, lists of facts, and the ways past a choice of any kind. Assumes nothing.
use mathlib.Core.Path.{◌≡◌, refl, ap, subst}
use mathlib.Core.Logic.{◌≢◌, ◌⊎◌, inl, inr}
use mathlib.Core.Bool.{Bool, true, false}
use mathlib.Core.Option.{Option, none, some}
use mathlib.Core.List.{List, [], ◌∷◌, ◌++◌}
use Prim.Native.Nat.{ℕ, zero, suc, ◌≤◌, ◌<◌, suc-le-suc, zero-le}
use native.Mathlib.Nat.{le_of_suc-le-suc, not-suc-le-zero}
use borrow.Author.Tests.{eqb-true, eqb-false, leb-true, leb-false}
use lib.ListN.{length, get_or, set, take, drop, get_elem?}
use lib.Seq.{get_or-set_same, get_or-set_other}
use Rattle.group.specs.Choice.{when◌then◌else◌, ◌≤?◌, ◌=?◌}
use Rattle.group.specs.Question.{judged}
use Rattle.group.specs.declared.Refusal.{Refusal}
use Rattle.std.specs.Prelude.{Ok, Err}
use Rattle.group.specs.Question.{Verdict, all_yes}

-- a claim of a choice: one proof for each way the test goes
pub when_elim : {A : Type 0} (P : A → Type 0) (t : Bool) {x y : A} → (t ≡ true → P x) → (t ≡ false → P y) → P (when t then x else y)
unfolding when◌then◌else◌
when_elim P true f g = f refl
when_elim P false f g = g refl

-- a claim of what a verdict comes to
pub judged_elim : {A : Type 0} (P : A → Type 0) (v : Verdict) {f : Refusal → A} {x : A} → ((r : Refusal) → v ≡ Err r → P (f r)) → (v ≡ all_yes → P x) → P (judged v f x)
unfolding judged
judged_elim P (Ok _) f g = g refl
judged_elim P (Err r) f g = f r refl

-- two numbers are equal or they are not
pub eq_or : {B : Type 0} (m n : ℕ) → (m ≡ n → B) → (m ≢ n → B) → B
eq_or {B} m n f g = when_elim (λ (x : ℕ). B) (m =? n) {x = 0} {y = 0} (λ t. f (eqb-true m n t)) (λ t. g (eqb-false m n t))

-- one number is at most the other, or it is above it
pub le_or : {B : Type 0} (m n : ℕ) → (m ≤ n → B) → (n < m → B) → B
le_or {B} m n f g = when_elim (λ (x : ℕ). B) (m ≤? n) {x = 0} {y = 0} (λ t. f (leb-true m n t)) (λ t. g (leb-false m n t))

pub none≢some : {A : Type 0} {x : A} → none ≡ some x → ⊥
none≢some e = cc

module _ {A : Type 0} where
  -- the element that is numbered s, from 1
  abbrev pub at : List A → ℕ → Option A
  at l zero = none
  at l (suc j) = get_elem? l j

  pub get_lt : (l : List A) (j : ℕ) {x : A} → get_elem? l j ≡ some x → j < length l
  get_lt [] j e = absurd (none≢some e)
  get_lt (y ∷ l) zero e = suc-le-suc zero-le
  get_lt (y ∷ l) (suc j) e = suc-le-suc (get_lt l j e)

  pub get_append : (l r : List A) (j : ℕ) {x : A} → get_elem? l j ≡ some x → get_elem? (l ++ r) j ≡ some x
  get_append [] r j e = absurd (none≢some e)
  get_append (y ∷ l) r zero e = e
  get_append (y ∷ l) r (suc j) e = get_append l r j e

  pub get_last : (l : List A) (x : A) → get_elem? (l ++ (x ∷ [])) (length l) ≡ some x
  get_last [] x = refl
  get_last (y ∷ l) x = get_last l x

  -- what l ++ (x ∷ []) has is x at the end, or l's
  pub get_snoc : (l : List A) (x : A) (j : ℕ) {y : A} → get_elem? (l ++ (x ∷ [])) j ≡ some y → (get_elem? l j ≡ some y) ⊎ ((j ≡ length l) × (x ≡ y))
  get_snoc [] x zero e = inr (refl, (cc))
  get_snoc [] x (suc j) e = absurd (none≢some e)
  get_snoc (z ∷ l) x zero e = inl e
  get_snoc (z ∷ l) x (suc j) {y} e = up (get_snoc l x j e)
    where
      up : (get_elem? l j ≡ some y) ⊎ ((j ≡ length l) × (x ≡ y)) → (get_elem? l j ≡ some y) ⊎ ((suc j ≡ suc (length l)) × (x ≡ y))
      up (inl h) = inl h
      up (inr h) = inr (ap suc h.0, h.1)

  pub get_some : (l : List A) (j : ℕ) → j < length l → (x : A) × (get_elem? l j ≡ some x)
  get_some [] j h = absurd (not-suc-le-zero h)
  get_some (y ∷ l) zero h = (y, refl)
  get_some (y ∷ l) (suc j) h = get_some l j (le_of_suc-le-suc h)

  pub at_pos : (l : List A) (s : ℕ) {x : A} → at l s ≡ some x → 1 ≤ s
  at_pos l zero e = absurd (none≢some e)
  at_pos l (suc j) e = suc-le-suc zero-le

  pub at_le : (l : List A) (s : ℕ) {x : A} → at l s ≡ some x → s ≤ length l
  at_le l zero e = zero-le
  at_le l (suc j) e = get_lt l j e

  pub at_append : (l r : List A) (s : ℕ) {x : A} → at l s ≡ some x → at (l ++ r) s ≡ some x
  at_append l r zero e = absurd (none≢some e)
  at_append l r (suc j) e = get_append l r j e

  pub at_last : (l : List A) (x : A) → at (l ++ (x ∷ [])) (suc (length l)) ≡ some x
  at_last l x = get_last l x

  pub at_snoc : (l : List A) (x : A) (s : ℕ) {y : A} → at (l ++ (x ∷ [])) s ≡ some y → (at l s ≡ some y) ⊎ ((s ≡ suc (length l)) × (x ≡ y))
  at_snoc l x zero e = inl e
  at_snoc l x (suc j) {y} e = up (get_snoc l x j e)
    where
      up : (get_elem? l j ≡ some y) ⊎ ((j ≡ length l) × (x ≡ y)) → (get_elem? l j ≡ some y) ⊎ ((suc j ≡ suc (length l)) × (x ≡ y))
      up (inl h) = inl h
      up (inr h) = inr (ap suc h.0, h.1)

  pub at_some : (l : List A) (s : ℕ) → 1 ≤ s → s ≤ length l → (x : A) × (at l s ≡ some x)
  at_some l zero h k = absurd (not-suc-le-zero h)
  at_some l (suc j) h k = get_some l j k

  pub at_nil : (s : ℕ) {x : A} → at [] s ≡ some x → ⊥
  at_nil zero e = none≢some e
  at_nil (suc s) e = none≢some e

  -- one more: the first suc j are the first j and number suc j
  pub take_at_suc : (l : List A) (j : ℕ) {x : A} → at l (suc j) ≡ some x → take (suc j) l ≡ take j l ++ (x ∷ [])
  take_at_suc [] j e = absurd (none≢some e)
  take_at_suc (y ∷ l) zero {x} e = let h : y ≡ x = cc in ap (λ (z : A). z ∷ []) h
  take_at_suc (y ∷ l) (suc j) e = ap (λ (r : List A). y ∷ r) (take_at_suc l j e)

  -- the first k have what the list has up to number k, and nothing else
  pub at_taken : (k : ℕ) (l : List A) (s : ℕ) {x : A} → at (take k l) s ≡ some x → (s ≤ k) × (at l s ≡ some x)
  at_taken zero l s e = absurd (at_nil s e)
  at_taken (suc k) [] s e = absurd (at_nil s e)
  at_taken (suc k) (y ∷ l) zero e = absurd (none≢some e)
  at_taken (suc k) (y ∷ l) (suc zero) e = (suc-le-suc zero-le, e)
  at_taken (suc k) (y ∷ l) (suc (suc j)) e = let z = at_taken k l (suc j) e in (suc-le-suc z.0, z.1)

  pub at_take : (k : ℕ) (l : List A) (s : ℕ) {x : A} → s ≤ k → at l s ≡ some x → at (take k l) s ≡ some x
  at_take k l zero h e = e
  at_take zero l (suc j) h e = absurd (not-suc-le-zero h)
  at_take (suc k) [] (suc j) h e = absurd (at_nil (suc j) e)
  at_take (suc k) (y ∷ l) (suc zero) h e = e
  at_take (suc k) (y ∷ l) (suc (suc j)) h e = at_take k l (suc j) (le_of_suc-le-suc h) e

  pub drop_at_suc : (l : List A) (j : ℕ) {x : A} → at l (suc j) ≡ some x → drop j l ≡ x ∷ drop (suc j) l
  drop_at_suc [] j e = absurd (none≢some e)
  drop_at_suc (y ∷ l) zero {x} e = let h : y ≡ x = cc in ap (λ (z : A). z ∷ l) h
  drop_at_suc (y ∷ l) (suc j) e = drop_at_suc l j e

  -- a fact of every element
  abbrev pub All : (A → Type 0) → List A → Type 0
  All P [] = Unit {0}
  All P (x ∷ l) = P x × All P l

  pub all_append : (P : A → Type 0) (l r : List A) → All P l → All P r → All P (l ++ r)
  all_append P [] r h k = k
  all_append P (x ∷ l) r h k = (h.0, all_append P l r h.1 k)

  pub all_map : (P Q : A → Type 0) → ((x : A) → P x → Q x) → (l : List A) → All P l → All Q l
  all_map P Q f [] h = tt
  all_map P Q f (x ∷ l) h = (f x h.0, all_map P Q f l h.1)

  pub all_get : (P : A → Type 0) (l : List A) (k : ℕ) {x : A} → All P l → get_elem? l k ≡ some x → P x
  all_get P [] k h e = absurd (none≢some e)
  all_get P (y ∷ l) zero {x} h e = let z : y ≡ x = cc in subst P z h.0
  all_get P (y ∷ l) (suc k) h e = all_get P l k h.1 e

  -- a family of facts, one for each index, when one element is replaced
  pub set_each : (P : ℕ → A → Type 0) (l : List A) (j : ℕ) (x d : A) (i : ℕ)
      → (i ≡ j → P i x) → (i ≢ j → P i (get_or l i d)) → j < length l → P i (get_or (set l j x) i d)
  set_each P l j x d i same other h =
      eq_or i j (λ q. rw q (rw (get_or-set_same l j x d h) (rw q at (same q)))) (λ q. rw (get_or-set_other l j i x d q) (other q))
