-- The rows of the latest messages: they rise, each is the highest of its unit, every unit has one. Assumes nothing.
use mathlib.Core.Path.{◌≡◌, refl, sym, ap, ◌∙◌}
use mathlib.Core.Logic.{◌⊎◌, inl, inr}
use mathlib.Core.Bool.{true, false}
use mathlib.Core.List.Memᴰ
use mathlib.Core.List.{List, [], ◌∷◌}
use Prim.Native.Nat.{ℕ, ◌≤◌}
use native.Mathlib.Omega.{arith}
use Rattle.message.specs.Order.{Ordered}
use Rattle.plan.specs.Units.{sets, unit_of, placed, latest_from, latest}
use Rattle.plan.specs.Laws.{◌among◌, Rises, UnitsRise, HighestWins, EveryUnit}
use Rattle.plan.proofs.Placing.{bool_or, placed_here, placed_from, placed_stays, placed_rises, one_by}
use Rattle.plan.proofs.Keeping.{latest_set, latest_not}

-- a claim of the rows, one message on
latest_elim : (P : List Ordered → Type 0) (rows : List Ordered) (m : Ordered) (ms : List Ordered) → (sets m ≡ true → P (latest_from (placed m rows) ms))
    → (sets m ≡ false → P (latest_from rows ms)) → P (latest_from rows (m ∷ ms))
latest_elim P rows m ms f g = bool_or (sets m) (λ s. rw (latest_set m ms rows s) (f s)) (λ s. rw (latest_not m ms rows s) (g s))

rises_from : (rows ms : List Ordered) → Rises unit_of rows → Rises unit_of (latest_from rows ms)
unfolding latest_from
rises_from rows [] r = r
rises_from rows (m ∷ ms) r =
    latest_elim (Rises unit_of) rows m ms (λ s. rises_from (placed m rows) ms (placed_rises m rows r)) (λ s. rises_from rows ms r)

pub units_rise : UnitsRise
unfolding Rises
units_rise ms = rises_from [] ms tt

-- a row was one before, or is a message that sets its unit
row_from : (rows ms : List Ordered) (y : Ordered) → y among latest_from rows ms → (y among rows) ⊎ ((y among ms) × (sets y ≡ true))
unfolding latest_from
row_from rows [] y i = inl i
row_from rows (m ∷ ms) y i =
    (latest_elim (λ l. y among l → (y among rows) ⊎ ((y among (m ∷ ms)) × (sets y ≡ true))) rows m ms
    (λ s i. placing s (row_from (placed m rows) ms y i)) (λ s i. later (row_from rows ms y i))) i
  where
    later : (y among rows) ⊎ ((y among ms) × (sets y ≡ true)) → (y among rows) ⊎ ((y among (m ∷ ms)) × (sets y ≡ true))
    later (inl i) = inl i
    later (inr i) = inr (Memᴰ.tail i.0, i.1)

    before : sets m ≡ true → (y ≡ m) ⊎ (y among rows) → (y among rows) ⊎ ((y among (m ∷ ms)) × (sets y ≡ true))
    before s (inl e) = inr (Memᴰ.head e, ap sets e ∙ s)
    before s (inr i) = inl i

    placing : sets m ≡ true → (y among placed m rows) ⊎ ((y among ms) × (sets y ≡ true)) → (y among rows) ⊎ ((y among (m ∷ ms)) × (sets y ≡ true))
    placing s (inl i) = before s (placed_from m rows y i)
    placing s (inr i) = inr (Memᴰ.tail i.0, i.1)

-- every row is one of the messages, and sets a unit
pub row_of : (ms : List Ordered) (y : Ordered) → y among latest ms → (y among ms) × (sets y ≡ true)
row_of ms y i = go (row_from [] ms y i)
  where
    go : (y among []) ⊎ ((y among ms) × (sets y ≡ true)) → (y among ms) × (sets y ≡ true)
    go (inl i) = absurd (Memᴰ.not-nil i)
    go (inr i) = i

-- a message has at most the number of its unit's row
highest_from : (rows ms : List Ordered) → Rises unit_of rows → Rises (λ m. m.number) ms → (row : Ordered) → row among latest_from rows ms
    → (m : Ordered) → m among ms → sets m ≡ true → unit_of m ≡ unit_of row → m.number ≤ row.number
unfolding latest_from Rises
highest_from rows [] r n row i m j s e = absurd (Memᴰ.not-nil j)
highest_from rows (x ∷ ms) r n row i m j s e =
    (latest_elim (λ l. row among l → m.number ≤ row.number) rows x ms
    (λ t i. setting (highest_from (placed x rows) ms (placed_rises x rows r) n.1 row i m) i j)
    (λ t i. other t (highest_from rows ms r n.1 row i m) j)) i
  where
    other : sets x ≡ false → (m among ms → sets m ≡ true → unit_of m ≡ unit_of row → m.number ≤ row.number) → m among (x ∷ ms) → m.number ≤ row.number
    other t f (Memᴰ.head q) = let w = ap sets q in let z : ◌≡◌ {A = ℕ} 0 1 = cc in absurd (omega arith)
    other t f (Memᴰ.tail j) = f j s e

    first : m ≡ x → (row among placed x rows) ⊎ ((row among ms) × (sets row ≡ true)) → m.number ≤ row.number
    first q (inl i) =
        let w : row ≡ x = one_by unit_of (placed x rows) (placed_rises x rows r) row x i (placed_here x rows) (sym e ∙ ap unit_of q) in
        let z : m.number ≡ row.number = ap (λ (y : Ordered). y.number) (q ∙ sym w) in
        omega arith
    first q (inr i) =
        let w = n.0 row i.0 in
        let z : m.number ≡ x.number = ap (λ (y : Ordered). y.number) q in
        omega arith

    setting : (m among ms → sets m ≡ true → unit_of m ≡ unit_of row → m.number ≤ row.number) → row among latest_from (placed x rows) ms → m among (x ∷ ms)
        → m.number ≤ row.number
    setting f i (Memᴰ.head q) = first q (row_from (placed x rows) ms row i)
    setting f i (Memᴰ.tail j) = f j s e

pub highest_wins : HighestWins
unfolding Rises
highest_wins ms n row i =
    let h = row_of ms row i in
    record { one = h.0; setting = h.1; highest = highest_from [] ms tt n row i }

-- a unit that has a row keeps one
row_stays : (rows ms : List Ordered) (y : Ordered) → y among rows → (row : Ordered) × (row among latest_from rows ms) × (unit_of row ≡ unit_of y)
unfolding latest_from
row_stays rows [] y i = (y, i, refl)
row_stays rows (m ∷ ms) y i =
    latest_elim (λ l. (row : Ordered) × (row among l) × (unit_of row ≡ unit_of y)) rows m ms
    (λ s.
    let p = placed_stays m rows y i in
    let r = row_stays (placed m rows) ms p.0 p.1 in
    (r.0, r.1, r.2 ∙ p.2))
    (λ s. row_stays rows ms y i)

every_from : (rows ms : List Ordered) (m : Ordered) → m among ms → sets m ≡ true → (row : Ordered) × (row among latest_from rows ms) × (unit_of row ≡ unit_of m)
unfolding latest_from
every_from rows [] m i h = absurd (Memᴰ.not-nil i)
every_from rows (x ∷ ms) m i h =
    latest_elim (λ l. (row : Ordered) × (row among l) × (unit_of row ≡ unit_of m)) rows x ms
    (λ s. setting (every_from (placed x rows) ms m) i) (λ s. other s (every_from rows ms m) i)
  where
    setting : (m among ms → sets m ≡ true → (row : Ordered) × (row among latest_from (placed x rows) ms) × (unit_of row ≡ unit_of m)) → m among (x ∷ ms)
        → (row : Ordered) × (row among latest_from (placed x rows) ms) × (unit_of row ≡ unit_of m)
    setting f (Memᴰ.head q) =
        let r = row_stays (placed x rows) ms x (placed_here x rows) in
        (r.0, r.1, r.2 ∙ ap unit_of (sym q))
    setting f (Memᴰ.tail j) = f j h

    other : sets x ≡ false → (m among ms → sets m ≡ true → (row : Ordered) × (row among latest_from rows ms) × (unit_of row ≡ unit_of m)) → m among (x ∷ ms)
        → (row : Ordered) × (row among latest_from rows ms) × (unit_of row ≡ unit_of m)
    other s f (Memᴰ.head q) = let w = ap sets q in let z : ◌≡◌ {A = ℕ} 0 1 = cc in absurd (omega arith)
    other s f (Memᴰ.tail j) = f j h

pub every_unit : EveryUnit
every_unit ms m i h = every_from [] ms m i h
