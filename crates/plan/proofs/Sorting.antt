-- Numbers put in order rise, and are the same numbers; there is one such list. Assumes nothing.
use mathlib.Core.Path.{◌≡◌, refl, sym, ap, subst, ◌∙◌}
use mathlib.Core.Bool.{false}
use mathlib.Core.Logic.{◌⊎◌, inl, inr, ◌≢◌}
use mathlib.Core.List.Memᴰ
use mathlib.Core.List.{List, [], ◌∷◌}
use Prim.Native.Nat.{ℕ, zero, suc, ◌≤◌, ◌<◌}
use native.Mathlib.Omega.{arith}
use native.Mathlib.Numerals.{add-one}
use borrow.Author.Tests.{eq-eqb, ne_eqb}
use lib.Dec.{eqb}
use lib.ListN.{length-map}
use Rattle.std.specs.List.{AllByRecursion, IsDistinct}
use Rattle.std.specs.List.{Contains}
use Rattle.std.specs.List.Sorted.{IsPermutation, IsNonDecreasing, IsNonDecreasingBy}
use Rattle.std.proofs.lemmas.Bool.Decides.{nat_tests}
use Rattle.std.proofs.lemmas.List.{get_or-map}
use Rattle.std.proofs.lemmas.List.Sorted.{IsPermutation-sym, IsPermutation-map, Contains-permutation}
use Rattle.std.proofs.lemmas.Map.Keys.{IsDistinct-IsPermutation}
use Rattle.group.proofs.Choice.{when_lt, when_nlt}
use Rattle.group.proofs.Lists.{eq_or, le_or}
use Rattle.plan.specs.Laws.{◌among◌, Rises}
use Rattle.plan.specs.Table.{place_of, inserted, starts_of}
use Rattle.plan.specs.Pack.{Apart, sorted}
use Rattle.plan.specs.declared.Row.{Row}

abbrev pub same : ℕ → ℕ
same n = n

-- a number where it belongs
abbrev among_with : ℕ → List ℕ → List ℕ
among_with x l = inserted (place_of x l) x l

module _ (x y : ℕ) (l : List ℕ) where
  with_below : y < x → among_with x (y ∷ l) ≡ y ∷ among_with x l
  unfolding place_of
  with_below h = let e : place_of x (y ∷ l) ≡ suc (place_of x l) = sym (when_lt y x _ _ _ h (sym (add-one _))) in ap (λ (i : ℕ). inserted i x (y ∷ l)) e

  with_above : x ≤ y → among_with x (y ∷ l) ≡ x ∷ y ∷ l
  unfolding place_of
  with_above h = let e : place_of x (y ∷ l) ≡ 0 = sym (when_nlt y x _ _ _ h refl) in ap (λ (i : ℕ). inserted i x (y ∷ l)) e

  with_elim : (P : List ℕ → Type 0) → (y < x → P (y ∷ among_with x l)) → (x ≤ y → P (x ∷ y ∷ l)) → P (among_with x (y ∷ l))
  with_elim P f g = le_or x y (λ h. subst P (sym (with_above h)) (g h)) (λ h. subst P (sym (with_below h)) (f h))

with_from : (x : ℕ) (l : List ℕ) (z : ℕ) → z among among_with x l → (z ≡ x) ⊎ (z among l)
unfolding place_of
with_from x [] z (Memᴰ.head e) = inl e
with_from x [] z (Memᴰ.tail i) = absurd (Memᴰ.not-nil i)
with_from x (y ∷ l) z i = (with_elim x y l (λ r. z among r → (z ≡ x) ⊎ (z among (y ∷ l))) (λ h. below (with_from x l z)) (λ h. above)) i
  where
    below : (z among among_with x l → (z ≡ x) ⊎ (z among l)) → z among (y ∷ among_with x l) → (z ≡ x) ⊎ (z among (y ∷ l))
    below f (Memᴰ.head e) = inr (Memᴰ.head e)
    below f (Memᴰ.tail i) = later (f i)
      where
        later : (z ≡ x) ⊎ (z among l) → (z ≡ x) ⊎ (z among (y ∷ l))
        later (inl e) = inl e
        later (inr i) = inr (Memᴰ.tail i)

    above : z among (x ∷ y ∷ l) → (z ≡ x) ⊎ (z among (y ∷ l))
    above (Memᴰ.head e) = inl e
    above (Memᴰ.tail i) = inr i

with_here : (x : ℕ) (l : List ℕ) → x among among_with x l
unfolding place_of
with_here x [] = Memᴰ.head refl
with_here x (y ∷ l) = with_elim x y l (λ r. x among r) (λ h. Memᴰ.tail (with_here x l)) (λ h. Memᴰ.head refl)

with_keeps : (x : ℕ) (l : List ℕ) (z : ℕ) → z among l → z among among_with x l
with_keeps x [] z i = absurd (Memᴰ.not-nil i)
with_keeps x (y ∷ l) z i = with_elim x y l (λ r. z among r) (λ h. go (with_keeps x l z) i) (λ h. Memᴰ.tail i)
  where
    go : (z among l → z among among_with x l) → z among (y ∷ l) → z among (y ∷ among_with x l)
    go f (Memᴰ.head e) = Memᴰ.head e
    go f (Memᴰ.tail i) = Memᴰ.tail (f i)

with_rises : (x : ℕ) (l : List ℕ) → Rises same l → ((y : ℕ) → y among l → x ≢ y) → Rises same (among_with x l)
unfolding Rises place_of
with_rises x [] r d = (λ y i. absurd (Memᴰ.not-nil i), tt)
with_rises x (y ∷ l) r d =
    with_elim x y l (Rises same)
    (λ h. (λ z i. below h z (with_from x l z i), with_rises x l r.1 (λ z i. d z (Memᴰ.tail i))))
    (λ h. (λ z i. above h z i, r))
  where
    below : y < x → (z : ℕ) → (z ≡ x) ⊎ (z among l) → y < z
    below h z (inl e) = omega arith
    below h z (inr i) = r.0 z i

    above : x ≤ y → (z : ℕ) → z among (y ∷ l) → x < z
    above h z (Memᴰ.head e) = le_or z x (λ k. absurd (d y (Memᴰ.head refl) (omega arith))) (λ k. k)
    above h z (Memᴰ.tail i) = let k = r.0 z i in omega arith

-- all of them
sorted_rises : (done xs : List ℕ) → Rises same done → Apart xs → ((x y : ℕ) → x among xs → y among done → x ≢ y) → Rises same (sorted done xs)
unfolding sorted Apart
sorted_rises done [] r a d = r
sorted_rises done (x ∷ xs) r a d =
    sorted_rises (among_with x done) xs (with_rises x done r (λ y i. d x y (Memᴰ.head refl) i)) a.1 (λ z y i j. apart z i y (with_from x done y j))
  where
    apart : (z : ℕ) → z among xs → (y : ℕ) → (y ≡ x) ⊎ (y among done) → z ≢ y
    apart z i y (inl e) q = a.0 z i (sym e ∙ sym q)
    apart z i y (inr j) q = d z y (Memᴰ.tail i) j q

sorted_from : (done xs : List ℕ) (z : ℕ) → z among sorted done xs → (z among done) ⊎ (z among xs)
unfolding sorted
sorted_from done [] z i = inl i
sorted_from done (x ∷ xs) z i = go (sorted_from (among_with x done) xs z i)
  where
    first : (z ≡ x) ⊎ (z among done) → (z among done) ⊎ (z among (x ∷ xs))
    first (inl e) = inr (Memᴰ.head e)
    first (inr i) = inl i

    go : (z among among_with x done) ⊎ (z among xs) → (z among done) ⊎ (z among (x ∷ xs))
    go (inl i) = first (with_from x done z i)
    go (inr i) = inr (Memᴰ.tail i)

sorted_keeps : (done xs : List ℕ) (z : ℕ) → z among done → z among sorted done xs
unfolding sorted
sorted_keeps done [] z i = i
sorted_keeps done (x ∷ xs) z i = sorted_keeps (among_with x done) xs z (with_keeps x done z i)

sorted_has : (done xs : List ℕ) (z : ℕ) → z among xs → z among sorted done xs
unfolding sorted
sorted_has done [] z i = absurd (Memᴰ.not-nil i)
sorted_has done (x ∷ xs) z i = go (sorted_has (among_with x done) xs z) i
  where
    go : (z among xs → z among sorted (among_with x done) xs) → z among (x ∷ xs) → z among sorted (among_with x done) xs
    go f (Memᴰ.head e) = sorted_keeps (among_with x done) xs z (subst (λ (n : ℕ). n among among_with x done) (sym e) (with_here x done))
    go f (Memᴰ.tail i) = f i

-- rising lists of the same numbers are one
one_list : (xs ys : List ℕ) → Rises same xs → Rises same ys → ((z : ℕ) → z among xs → z among ys) → ((z : ℕ) → z among ys → z among xs) → xs ≡ ys
unfolding Rises
one_list [] [] r q f g = refl
one_list [] (y ∷ ys) r q f g = absurd (Memᴰ.not-nil (g y (Memᴰ.head refl)))
one_list (x ∷ xs) [] r q f g = absurd (Memᴰ.not-nil (f x (Memᴰ.head refl)))
one_list (x ∷ xs) (y ∷ ys) r q f g =
    let e : x ≡ y = first (f x (Memᴰ.head refl)) (g y (Memᴰ.head refl)) in
    ap (λ (n : ℕ). n ∷ xs) e
    ∙ ap (λ (l : List ℕ). y ∷ l)
    (one_list xs ys r.1 q.1 (λ z i. left e z (r.0 z i) (f z (Memᴰ.tail i))) (λ z i. right e z (q.0 z i) (g z (Memᴰ.tail i))))
  where
    first : x among (y ∷ ys) → y among (x ∷ xs) → x ≡ y
    first (Memᴰ.head e) j = e
    first (Memᴰ.tail i) (Memᴰ.head e) = sym e
    first (Memᴰ.tail i) (Memᴰ.tail j) = let a = q.0 x i in let b = r.0 y j in absurd (omega arith)

    left : x ≡ y → (z : ℕ) → x < z → z among (y ∷ ys) → z among ys
    left e z h (Memᴰ.head k) = absurd (omega arith)
    left e z h (Memᴰ.tail i) = i

    right : x ≡ y → (z : ℕ) → y < z → z among (x ∷ xs) → z among xs
    right e z h (Memᴰ.head k) = absurd (omega arith)
    right e z h (Memᴰ.tail i) = i

pub sorted_is : (xs ys : List ℕ) → Apart xs → Rises same ys → ((z : ℕ) → z among xs → z among ys) → ((z : ℕ) → z among ys → z among xs) → sorted [] xs ≡ ys
unfolding Rises
sorted_is xs ys a r f g =
    one_list (sorted [] xs) ys (sorted_rises [] xs tt a (λ x y i j. absurd (Memᴰ.not-nil j))) r (λ z i. go z (sorted_from [] xs z i)) (λ z i. sorted_has [] xs z (g z i))
  where
    go : (z : ℕ) → (z among []) ⊎ (z among xs) → z among ys
    go z (inl i) = absurd (Memᴰ.not-nil i)
    go z (inr i) = f z i

-- one of a list, by its index
among_at : (l : List ℕ) (z : ℕ) → z among l → Contains l z
among_at [] z i = absurd (Memᴰ.not-nil i)
among_at (x ∷ l) z i = go (among_at l z) i
  where
    go : (z among l → Contains l z) → z among (x ∷ l) → Contains (x ∷ l) z
    go f (Memᴰ.head e) = (0, omega arith, sym e)
    go f (Memᴰ.tail i) = let (k, h, e) = f i in (suc k, omega arith, e)

at_among : (l : List ℕ) (z : ℕ) → Contains l z → z among l
at_among [] z (k, h, e) = absurd (omega arith)
at_among (x ∷ l) z (zero, h, e) = Memᴰ.head (sym e)
at_among (x ∷ l) z (suc k, h, e) = Memᴰ.tail (at_among l z (k, omega arith, e))

-- numbers of which no two are equal do not fall: they rise
each_apart : (x : ℕ) (l : List ℕ) → ((y : ℕ) → y among l → x ≢ y) → AllByRecursion (λ (y : ℕ). eqb x y ≡ false) l
each_apart x [] f = tt
each_apart x (y ∷ l) f = (ne_eqb x y (f y (Memᴰ.head refl)), each_apart x l (λ z i. f z (Memᴰ.tail i)))

distinct : (l : List ℕ) → Apart l → IsDistinct eqb l
unfolding Apart IsDistinct
distinct [] a = tt
distinct (x ∷ l) a = (each_apart x l a.0, distinct l a.1)

apart_each : (x : ℕ) (l : List ℕ) → AllByRecursion (λ (y : ℕ). eqb x y ≡ false) l → (y : ℕ) → y among l → x ≢ y
apart_each x [] d y i = absurd (Memᴰ.not-nil i)
apart_each x (z ∷ l) d y i = go (apart_each x l d.1 y) i
  where
    first : x ≡ z → ⊥
    first q = let t = eq-eqb x z q in let f = d.0 in let w : ◌≡◌ {A = ℕ} 0 1 = cc in omega arith

    go : (y among l → x ≢ y) → y among (z ∷ l) → x ≢ y
    go f (Memᴰ.head e) = λ q. first (q ∙ e)
    go f (Memᴰ.tail i) = f i

rises_from : (l : List ℕ) → IsDistinct eqb l → IsNonDecreasing l → Rises same l
unfolding Rises IsDistinct
rises_from [] d up = tt
rises_from (x ∷ l) d up = (
  λ y i. let (k, h, e) = among_at l y i in let u = up 0 (suc k) y (omega arith) (omega arith) in let n = apart_each x l d.0 y i in eq_or x y (λ q. absurd (n q)) (λ q. omega arith),
  rises_from l d.1 (λ i j z h k. up (suc i) (suc j) z (omega arith) (omega arith)),
)

-- what the library's sort makes of such numbers is the list in order
pub sorted_so : (xs ys : List ℕ) → Apart xs → IsPermutation xs ys → IsNonDecreasing ys → ys ≡ sorted [] xs
sorted_so xs ys a p up =
    let d = IsDistinct-IsPermutation eqb eqb_flips xs ys p (distinct xs a) in
    let q = IsPermutation-sym xs ys p in
    sym (sorted_is xs ys a (rises_from ys d up) (λ z i. at_among ys z (Contains-permutation xs ys z p (among_at xs z i)))
    (λ z i. at_among xs z (Contains-permutation ys xs z q (among_at ys z i))))
  where
    eqb_flips : (x y : ℕ) → eqb x y ≡ eqb y x
    eqb_flips x y = grind (arith, nat_tests)

pub starts_sorted : (rows rows' : List Row) → Apart (starts_of rows) → IsPermutation rows rows' → IsNonDecreasingBy (λ (row : Row). row.start) rows'
    → starts_of rows' ≡ sorted [] (starts_of rows)
starts_sorted rows rows' a p up =
    sorted_so (starts_of rows) (starts_of rows') a (IsPermutation-map (λ (row : Row). row.start) rows rows' p) (starts_up rows' up)
  where
    starts_up : (l : List Row) → IsNonDecreasingBy (λ (row : Row). row.start) l → IsNonDecreasing (starts_of l)
    starts_up l up i j z h k =
        let d : Row = record { unit = 0; start = z } in
        let n = length-map l (λ (row : Row). row.start) in
        let a = get_or-map (λ (row : Row). row.start) l i d z (omega arith) in
        let b = get_or-map (λ (row : Row). row.start) l j d z (omega arith) in
        let u = up i j d h (omega arith) in
        omega arith
