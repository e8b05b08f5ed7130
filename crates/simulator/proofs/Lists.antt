-- The laws of a list that is read off a function, and of lists of equal length at an index. Assumes nothing.
use mathlib.Core.Path.{◌≡◌, refl, sym, ap, ◌∙◌}
use mathlib.Core.Option.{none, some}
use mathlib.Core.List.{List, [], ◌∷◌, ◌++◌}
use Prim.Native.Nat.{ℕ, zero, suc, ◌+◌, ◌≤◌, ◌<◌}
use native.Mathlib.Numerals.{add-one}
use native.Mathlib.Nat.{zero-add}
use native.Mathlib.Omega.{arith}
use lib.ListN.{length, get_or, set, take, get_elem?}
use Rattle.simulator.specs.Whole.{list_of}

module _ {A : Type 0} where
  pub length_list : (f : ℕ → A) (i k : ℕ) → length (list_of f i k) ≡ k
  unfolding list_of
  length_list f i zero = refl
  length_list f i (suc k) = ap suc (length_list f (i + 1) k)

  -- functions that agree there
  list_same : (f g : ℕ → A) (i k : ℕ) → ((j : ℕ) → i ≤ j → j < i + k → g j ≡ f j) → list_of g i k ≡ list_of f i k
  unfolding list_of
  list_same f g i zero h = refl
  list_same f g i (suc k) h =
      let a : g i ≡ f i = h i (omega arith) (omega arith) in
      let b = list_same f g (i + 1) k (λ j p q. h j (omega arith) (omega arith)) in λ t. a t ∷ b t

  pub lists_same : (f g : ℕ → A) (k : ℕ) → ((j : ℕ) → j < k → g j ≡ f j) → list_of g 0 k ≡ list_of f 0 k
  lists_same f g k h = list_same f g 0 k (λ j _ q. h j (omega arith))

  -- functions that agree but at one number
  list_set : (f g : ℕ → A) (x : A) (i k j : ℕ) → j < k → g (i + j) ≡ x → ((m : ℕ) → (m ≡ i + j → ⊥) → g m ≡ f m) → list_of g i k ≡ set (list_of f i k) j x
  unfolding list_of
  list_set f g x i zero j h e o = absurd (omega arith)
  list_set f g x i (suc k) zero h e o =
      let z : i ≡ i + 0 = omega arith in
      let a : g i ≡ x = ap g z ∙ e in
      let b = list_same f g (i + 1) k (λ m p _. o m (λ c. omega arith)) in λ t. a t ∷ b t
  list_set f g x i (suc k) (suc j) h e o =
      let a : g i ≡ f i = o i (λ c. omega arith) in
      let z : i + 1 + j ≡ i + suc j = omega arith in
      let b = list_set f g x (i + 1) k j (omega arith) (ap g z ∙ e) (λ m n. o m (λ c. n (omega arith))) in λ t. a t ∷ b t

  pub lists_set : (f g : ℕ → A) (x : A) (k j : ℕ) → j < k → g j ≡ x → ((m : ℕ) → (m ≡ j → ⊥) → g m ≡ f m) → list_of g 0 k ≡ set (list_of f 0 k) j x
  lists_set f g x k j h e o = list_set f g x 0 k j h (ap g (zero-add j) ∙ e) (λ m n. o m (λ c. n (c ∙ sym (zero-add j))))

  -- one more
  list_snoc : (f : ℕ → A) (i k : ℕ) → list_of f i (suc k) ≡ list_of f i k ++ (f (i + k) ∷ [])
  unfolding list_of
  list_snoc f i zero = let e : i ≡ i + 0 = omega arith in ap (λ (j : ℕ). f j ∷ []) e
  list_snoc f i (suc k) =
      let e : i + 1 + k ≡ i + suc k = omega arith in
      ap (λ (l : List A). f i ∷ l) (list_snoc f (i + 1) k ∙ ap (λ (j : ℕ). list_of f (i + 1) k ++ (f j ∷ [])) e)

  pub lists_snoc : (f : ℕ → A) (k : ℕ) → list_of f 0 (k + 1) ≡ list_of f 0 k ++ (f k ∷ [])
  lists_snoc f k = ap (list_of f 0) (add-one k) ∙ list_snoc f 0 k ∙ ap (λ (j : ℕ). list_of f 0 k ++ (f j ∷ [])) (zero-add k)

  -- what is read inside
  list_get : (f : ℕ → A) (d : A) (i k j : ℕ) → j < k → get_or (list_of f i k) j d ≡ f (i + j)
  unfolding list_of
  list_get f d i zero j h = absurd (omega arith)
  list_get f d i (suc k) zero h = let e : i ≡ i + 0 = omega arith in ap f e
  list_get f d i (suc k) (suc j) h = let e : i + 1 + j ≡ i + suc j = omega arith in list_get f d (i + 1) k j (omega arith) ∙ ap f e

  pub lists_get : (f : ℕ → A) (d : A) (k j : ℕ) → j < k → get_or (list_of f 0 k) j d ≡ f j
  lists_get f d k j h = list_get f d 0 k j h ∙ ap f (zero-add j)

  list_there : (f : ℕ → A) (i k j : ℕ) → j < k → get_elem? (list_of f i k) j ≡ some (f (i + j))
  unfolding list_of
  list_there f i zero j h = absurd (omega arith)
  list_there f i (suc k) zero h = let e : i ≡ i + 0 = omega arith in ap (λ (j : ℕ). some (f j)) e
  list_there f i (suc k) (suc j) h = let e : i + 1 + j ≡ i + suc j = omega arith in list_there f (i + 1) k j (omega arith) ∙ ap (λ (j : ℕ). some (f j)) e

  pub lists_there : (f : ℕ → A) (k j : ℕ) → j < k → get_elem? (list_of f 0 k) j ≡ some (f j)
  lists_there f k j h = list_there f 0 k j h ∙ ap (λ (j : ℕ). some (f j)) (zero-add j)

  list_absent : (f : ℕ → A) (i k j : ℕ) → k ≤ j → get_elem? (list_of f i k) j ≡ none
  unfolding list_of
  list_absent f i zero j h = refl
  list_absent f i (suc k) zero h = absurd (omega arith)
  list_absent f i (suc k) (suc j) h = list_absent f (i + 1) k j (omega arith)

  pub lists_absent : (f : ℕ → A) (k j : ℕ) → k ≤ j → get_elem? (list_of f 0 k) j ≡ none
  lists_absent f k j h = list_absent f 0 k j h

  -- the first of them
  list_take : (f : ℕ → A) (i k m : ℕ) → k ≤ m → take k (list_of f i m) ≡ list_of f i k
  unfolding list_of
  list_take f i zero m h = refl
  list_take f i (suc k) zero h = absurd (omega arith)
  list_take f i (suc k) (suc m) h = ap (λ (l : List A). f i ∷ l) (list_take f (i + 1) k m (omega arith))

  pub lists_take : (f : ℕ → A) (k m : ℕ) → k ≤ m → take k (list_of f 0 m) ≡ list_of f 0 k
  lists_take f k m h = list_take f 0 k m h

-- what stands inside a list does not depend on what is read past its end
pub get_d-inside : {A : Type 0} (l : List A) (i : ℕ) (d d' : A) → i < length l → get_or l i d ≡ get_or l i d'
get_d-inside [] i d d' h = absurd (omega arith)
get_d-inside (x ∷ l) zero d d' h = refl
get_d-inside (x ∷ l) (suc i) d d' h = get_d-inside l i d d' (omega arith)
