-- A message in its unit's place is one row of the table: the one found, or a new one. Assumes nothing.
use mathlib.Core.Path.{◌≡◌, refl, sym, ap, subst, ◌∙◌}
use mathlib.Core.List.Memᴰ
use mathlib.Core.List.{List, [], ◌∷◌, map}
use Prim.Native.Nat.{ℕ, zero, suc, ◌≤◌, ◌<◌}
use native.Mathlib.Omega.{arith}
use native.Mathlib.Numerals.{add-one}
use lib.ListN.{length, get_or, set, take, length-map}
use lib.Seq.{length-take-le, take-set-lt}
use Rattle.std.specs.Prelude.{Result, Ok, Err, MatchResult}
use Rattle.std.specs.List.Sorted.{IsSearchInRange, IsBinarySearchResult, IsNonDecreasingBy}
use Rattle.std.specs.Ordering.{nat_cmp, ordering_index}
use Rattle.std.proofs.lemmas.Bool.Decides.{nat_tests}
use Rattle.std.proofs.lemmas.Cmp.{ranked}
use Rattle.std.proofs.lemmas.List.{map-set}
use Rattle.group.specs.declared.Refusal.TheVariants.{ManyUnits}
use Rattle.group.proofs.Choice.{when_lt, when_nlt}
use Rattle.group.proofs.Lists.{eq_or}
use Rattle.message.specs.Order.{Ordered}
use Rattle.plan.specs.Units.{unit_of, placed}
use Rattle.plan.specs.Laws.{◌among◌, Rises}
use Rattle.plan.specs.Table.{units_most, place_of, Rising, inserted, row_for, Noted}
use Rattle.plan.specs.declared.Row.{Row}
use Rattle.plan.proofs.Placing.{order_or, placed_below, placed_same, placed_above}
use Rattle.plan.proofs.Tables.{Bounds, place_is}

pub map_inserted : {A B : Type 0} (f : A → B) (i : ℕ) (x : A) (l : List A) → map f (inserted i x l) ≡ inserted i (f x) (map f l)
map_inserted f zero x l = refl
map_inserted f (suc i) x [] = refl
map_inserted {B = B} f (suc i) x (y ∷ l) = ap (λ (r : List B). f y ∷ r) (map_inserted f i x l)

module _ {A : Type 0} (f : A → ℕ) where
  at_among : (l : List A) (i : ℕ) (n : ℕ) → i < length l → ((y : A) → y among l → n < f y) → n < get_or (map f l) i 0
  at_among [] i n h less = absurd (omega arith)
  at_among (y ∷ l) zero n h less = less y (Memᴰ.head refl)
  at_among (y ∷ l) (suc i) n h less = at_among l i n (omega arith) (λ z k. less z (Memᴰ.tail k))

  -- the values of rows that rise are a rising list
  pub rising : (l : List A) → Rises f l → Rising (map f l)
  unfolding Rises
  rising [] r i j h k = absurd (omega arith)
  rising (y ∷ l) r zero zero h k = absurd (omega arith)
  rising (y ∷ l) r zero (suc j) h k = let n = length-map l f in at_among l j (f y) (omega arith) r.0
  rising (y ∷ l) r (suc i) zero h k = absurd (omega arith)
  rising (y ∷ l) r (suc i) (suc j) h k = rising l r.1 i j (omega arith) (omega arith)

-- where a message is placed, by the units alone
abbrev pub index_of : Ordered → List Ordered → ℕ
index_of m rows = place_of (unit_of m) (map unit_of rows)

module _ (m row : Ordered) (rest : List Ordered) where
  pub index_below : unit_of row < unit_of m → index_of m (row ∷ rest) ≡ suc (index_of m rest)
  unfolding place_of
  index_below h = sym (when_lt (unit_of row) (unit_of m) _ _ _ h (sym (add-one _)))

  pub index_here : unit_of m ≤ unit_of row → index_of m (row ∷ rest) ≡ 0
  unfolding place_of
  index_here h = sym (when_nlt (unit_of row) (unit_of m) _ _ _ (omega arith) refl)

pub placed_over : (m : Ordered) (rows : List Ordered) → index_of m rows < length rows → get_or (map unit_of rows) (index_of m rows) 0 ≡ unit_of m
    → placed m rows ≡ set rows (index_of m rows) m
placed_over m [] h e = absurd (omega arith)
placed_over m (row ∷ rest) h e =
    order_or (unit_of row) (unit_of m)
    (λ q.
    let i = index_below m row rest q in
    rw (placed_below m row rest q, i) (ap (λ (l : List Ordered). row ∷ l) (placed_over m rest (let z = rw i at h in omega arith) (rw i at e))))
    (λ q. let i = index_here m row rest (omega arith) in rw (placed_same m row rest q, i))
    (λ q. let i = index_here m row rest (omega arith) in let z : unit_of row ≡ unit_of m = rw i at e in absurd (omega arith))

pub placed_into : (m : Ordered) (rows : List Ordered) → (index_of m rows < length rows → get_or (map unit_of rows) (index_of m rows) 0 ≡ unit_of m → ⊥)
    → placed m rows ≡ inserted (index_of m rows) m rows
unfolding placed place_of
placed_into m [] d = refl
placed_into m (row ∷ rest) d =
    order_or (unit_of row) (unit_of m)
    (λ q.
    let i = index_below m row rest q in
    let d' : index_of m rest < length rest → get_or (map unit_of rest) (index_of m rest) 0 ≡ unit_of m → ⊥ =
    λ h e. d (rw i (omega arith)) (rw i e) in
    rw (placed_below m row rest q, i) (ap (λ (l : List Ordered). row ∷ l) (placed_into m rest d')))
    (λ q. let i = index_here m row rest (omega arith) in absurd (d (rw i (omega arith)) (rw i q)))
    (λ q. let i = index_here m row rest (omega arith) in rw (placed_above m row rest q, i))

pub inserted_length : {A : Type 0} (i : ℕ) (x : A) (l : List A) → length (inserted i x l) ≡ suc (length l)
inserted_length zero x l = refl
inserted_length (suc i) x [] = refl
inserted_length (suc i) x (y ∷ l) = ap suc (inserted_length i x l)

-- a row in a table of some rows, and among them
entry : (rows : List Ordered) (i : ℕ) (d : Row) → i < length rows → (get_or (map row_for rows) i d).unit ≡ get_or (map unit_of rows) i 0
entry [] i d h = absurd (omega arith)
entry (m ∷ rows) zero d h = refl
entry (m ∷ rows) (suc i) d h = entry rows i d (omega arith)

-- a search by unit among rows ends at the row of a message's unit, or at the place for one
module _ (rows : List Ordered) (rise : Rises unit_of rows) (m : Ordered) (table : List Row) (is : table ≡ map row_for rows) where
  sized : length table ≡ length rows
  sized = ap length is ∙ length-map rows row_for

  unit_at : (i : ℕ) (d : Row) → i < length rows → (get_or table i d).unit ≡ get_or (map unit_of rows) i 0
  unit_at i d h = ap (λ (t : List Row). (get_or t i d).unit) is ∙ entry rows i d h

  units_rise : (i j : ℕ) (d : Row) → i ≤ j → j < length table → (get_or table i d).unit ≤ (get_or table j d).unit
  units_rise i j d h k =
      let n = sized in
      let l = length-map rows unit_of in
      let u = unit_at i d (omega arith) in
      let v = unit_at j d (omega arith) in
      eq_or i j (λ e. let w = ap (λ (a : ℕ). get_or (map unit_of rows) a 0) e in omega arith)
      (λ e. let w = rising unit_of rows rise i j (omega arith) (omega arith) in omega arith)

  compared : IsNonDecreasingBy (λ (y : Row). ordering_index (nat_cmp y.unit (unit_of m))) table
  compared i j d h k = let w = units_rise i j d h k in grind (arith, nat_tests)

  pub searched : (r : Result ℕ ℕ) → IsSearchInRange r (length table) → IsBinarySearchResult (λ (y : Row). nat_cmp y.unit (unit_of m)) table r
      → MatchResult r (λ i. (i < length rows) × (placed m rows ≡ set rows i m)) (λ i. (i ≤ length rows) × (placed m rows ≡ inserted i m rows))
  searched (Ok i) low found =
      let n = sized in
      let l = length-map rows unit_of in
      let e : get_or (map unit_of rows) i 0 ≡ unit_of m = sym (unit_at i (row_for m) (omega arith)) ∙ ranked _ (unit_of m) _ (sym (found (row_for m))) in
      let b : Bounds (unit_of m) (map unit_of rows) i i =
      record {
        below = λ k h. let w = rising unit_of rows rise k i h (omega arith) in omega arith;
        above = λ k h x. eq_or i k (λ q. rw q at (let w : unit_of m ≤ get_or (map unit_of rows) i 0 = omega arith in w)) (λ q. let w = rising unit_of rows rise i k (omega arith) x in omega arith);
      } in
      let same : i ≡ index_of m rows = place_is (unit_of m) (map unit_of rows) i (omega arith) b in
      (omega arith, rw (← same) at (placed_over m rows (omega arith) (rw (← same) e)))
  searched (Err i) low parted =
      let n = sized in
      let l = length-map rows unit_of in
      let (under, over) = parted compared in
      let b : Bounds (unit_of m) (map unit_of rows) i i =
      record {
        below = λ k h. rw (unit_at k (row_for m) (omega arith)) at (ranked _ (unit_of m) _ (sym (under k (row_for m) (omega arith) h)));
        above = λ k h x. let w = ranked _ (unit_of m) _ (sym (over k (row_for m) h (omega arith))) in let v = unit_at k (row_for m) (omega arith) in omega arith;
      } in
      let same : i ≡ index_of m rows = place_is (unit_of m) (map unit_of rows) i (omega arith) b in
      let none : i < length rows → get_or (map unit_of rows) i 0 ≡ unit_of m → ⊥ =
      λ h q. let w = ranked _ (unit_of m) _ (sym (over i (row_for m) (omega arith) (omega arith))) in let v = unit_at i (row_for m) h in omega arith in
      (omega arith, rw (← same) at (placed_into m rows (rw (← same) none)))

-- noting a row, where the search among those that are used gave that
module _ (table : List Row) (count : ℕ) (row : Row) (fits : count ≤ length table) where
  abbrev Search : Result ℕ ℕ → Type 0
  Search r = IsSearchInRange r (length (take count table)) × IsBinarySearchResult (λ (y : Row). nat_cmp y.unit row.unit) (take count table) r

  found : (r : Result ℕ ℕ) → Search r → (rows : List Ordered) (m : Ordered) → Rises unit_of rows → take count table ≡ map row_for rows → row ≡ row_for m
      → MatchResult r (λ i. (i < length rows) × (placed m rows ≡ set rows i m)) (λ i. (i ≤ length rows) × (placed m rows ≡ inserted i m rows))
  found r s rows m rise is e =
      searched rows rise m (take count table) is r s.0 (subst (λ (u : ℕ). IsBinarySearchResult (λ (y : Row). nat_cmp y.unit u) (take count table) r) (ap (λ (x : Row). x.unit) e) s.1)

  many : (rows : List Ordered) → take count table ≡ map row_for rows → length rows ≡ count
  many rows is = sym (length-map rows row_for) ∙ sym (ap length is) ∙ length-take-le count table fits

  pub noted_over : (i : ℕ) → Search (Ok i) → Noted (take count table) row (Ok tt) (take count (set table i row))
  noted_over i s =
      record {
        held = λ rows m rise is e.
            let (h, p) = found (Ok i) s rows m rise is e in
            let n = many rows is in
            take-set-lt count table i row (omega arith) ∙ ap (λ (l : List Row). set l i row) is ∙ ap (set (map row_for rows) i) e
            ∙ sym (map-set row_for rows i m) ∙ ap (map row_for) (sym p);
      }

  pub noted_full : (i : ℕ) → Search (Err i) → count ≡ units_most → Noted (take count table) row (Err ManyUnits) (take count table)
  noted_full i s full =
      record {
        held = λ rows m rise is e.
            let (h, p) = found (Err i) s rows m rise is e in
            let n = many rows is in
            let l = ap length p ∙ inserted_length i m rows in
            (refl, omega arith);
      }

  pub noted_new : (i : ℕ) → Search (Err i) → {after : List Row} → after ≡ inserted i row (take count table) → Noted (take count table) row (Ok tt) after
  noted_new i s made =
      record {
        held = λ rows m rise is e.
            let (h, p) = found (Err i) s rows m rise is e in
            let n = many rows is in
            made ∙ ap (λ (l : List Row). inserted i row l) is ∙ ap (λ (x : Row). inserted i x (map row_for rows)) e
            ∙ sym (map_inserted row_for i m rows) ∙ ap (map row_for) (sym p);
      }
