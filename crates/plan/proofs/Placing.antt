-- Where a message is placed among rows: by what its unit's number is to theirs. Assumes nothing.
use mathlib.Core.Path.{◌≡◌, refl, sym, ap, ◌∙◌}
use mathlib.Core.Logic.{◌≢◌, ◌⊎◌, inl, inr}
use mathlib.Core.Bool.{Bool, true, false}
use mathlib.Core.List.Memᴰ
use mathlib.Core.List.{List, [], ◌∷◌}
use Prim.Native.Nat.{ℕ, suc, ◌<◌}
use native.Mathlib.Omega.{arith}
use lib.ListN.{length}
use Rattle.group.proofs.Choice.{when_lt, when_nlt, when_eq, when_ne}
use Rattle.group.proofs.Lists.{eq_or, le_or}
use Rattle.message.specs.Order.{Ordered}
use Rattle.plan.specs.Units.{unit_of, placed}
use Rattle.plan.specs.Laws.{◌among◌, Rises}

-- a test holds or it does not
pub bool_or : {B : Type 0} (t : Bool) → (t ≡ true → B) → (t ≡ false → B) → B
bool_or true f g = f refl
bool_or false f g = g refl

-- one number is below the other, equal to it, or above it
pub order_or : {B : Type 0} (m n : ℕ) → (m < n → B) → (m ≡ n → B) → (n < m → B) → B
order_or m n f g h = eq_or m n g (λ q. le_or m n (λ l. f (omega arith)) h)

module _ (m row : Ordered) (rest : List Ordered) where
  pub placed_below : unit_of row < unit_of m → placed m (row ∷ rest) ≡ row ∷ placed m rest
  unfolding placed
  placed_below h = sym (when_lt (unit_of row) (unit_of m) _ _ _ h refl)

  pub placed_same : unit_of row ≡ unit_of m → placed m (row ∷ rest) ≡ m ∷ rest
  unfolding placed
  placed_same h = sym (when_nlt (unit_of row) (unit_of m) _ _ _ (omega arith) (when_eq (unit_of row) (unit_of m) _ _ _ h refl))

  pub placed_above : unit_of m < unit_of row → placed m (row ∷ rest) ≡ m ∷ row ∷ rest
  unfolding placed
  placed_above h = sym (when_nlt (unit_of row) (unit_of m) _ _ _ (omega arith) (when_ne (unit_of row) (unit_of m) _ _ _ (λ q. omega arith) refl))

  -- a claim of rows among which a message is placed
  pub placed_elim : (P : List Ordered → Type 0) → (unit_of row < unit_of m → P (row ∷ placed m rest)) → (unit_of row ≡ unit_of m → P (m ∷ rest))
      → (unit_of m < unit_of row → P (m ∷ row ∷ rest)) → P (placed m (row ∷ rest))
  placed_elim P f g h =
      order_or (unit_of row) (unit_of m) (λ q. rw (placed_below q) (f q)) (λ q. rw (placed_same q) (g q)) (λ q. rw (placed_above q) (h q))

-- of two messages of one unit the second replaces the first
pub placed_again : (m x : Ordered) → unit_of m ≡ unit_of x → (rows : List Ordered) → placed x (placed m rows) ≡ placed x rows
unfolding placed
placed_again m x e [] = placed_same x m [] e
placed_again m x e (row ∷ rest) =
    order_or (unit_of row) (unit_of m)
    (λ q. cc (placed_below m row rest q, placed_below x row (placed m rest) (omega arith), placed_below x row rest (omega arith), placed_again m x e rest))
    (λ q. cc (placed_same m row rest q, placed_same x m rest e, placed_same x row rest (q ∙ e)))
    (λ q. cc (placed_above m row rest q, placed_same x m (row ∷ rest) e, placed_above x row rest (omega arith)))

-- messages of two units can be placed in either order
placed_swap : (m x : Ordered) → unit_of m < unit_of x → (rows : List Ordered) → placed m (placed x rows) ≡ placed x (placed m rows)
unfolding placed
placed_swap m x h [] = cc (placed_above m x [] h, placed_below x m [] h)
placed_swap m x h (row ∷ rest) =
    order_or (unit_of row) (unit_of m)
    (λ q. cc (placed_below x row rest (omega arith), placed_below m row (placed x rest) q, placed_below m row rest q, placed_below x row (placed m rest) (omega arith), placed_swap m x h rest))
    (λ q. cc (placed_below x row rest (omega arith), placed_same m row (placed x rest) q, placed_same m row rest q, placed_below x m rest h))
    (λ q. first q ∙ sym (cc (placed_above m row rest q, placed_below x m (row ∷ rest) h)))
  where
    first : unit_of m < unit_of row → placed m (placed x (row ∷ rest)) ≡ m ∷ placed x (row ∷ rest)
    first q =
        placed_elim x row rest (λ l. placed m l ≡ m ∷ l) (λ k. placed_above m row (placed x rest) q) (λ k. placed_above m x rest h)
        (λ k. placed_above m x (row ∷ rest) h)

pub placed_either : (m x : Ordered) → unit_of m ≢ unit_of x → (rows : List Ordered) → placed m (placed x rows) ≡ placed x (placed m rows)
placed_either m x d rows =
    order_or (unit_of m) (unit_of x) (λ h. placed_swap m x h rows) (λ h. absurd (d h)) (λ h. sym (placed_swap x m h rows))

-- which messages stand among the rows, then
pub placed_here : (m : Ordered) (rows : List Ordered) → m among placed m rows
unfolding placed
placed_here m [] = Memᴰ.head refl
placed_here m (row ∷ rest) =
    placed_elim m row rest (λ l. m among l) (λ q. Memᴰ.tail (placed_here m rest)) (λ q. Memᴰ.head refl) (λ q. Memᴰ.head refl)

pub placed_from : (m : Ordered) (rows : List Ordered) (y : Ordered) → y among placed m rows → (y ≡ m) ⊎ (y among rows)
unfolding placed
placed_from m [] y i = only i
  where
    only : y among (m ∷ []) → (y ≡ m) ⊎ (y among [])
    only (Memᴰ.head e) = inl e
    only (Memᴰ.tail i) = inr i
placed_from m (row ∷ rest) y i =
    (placed_elim m row rest (λ l. y among l → (y ≡ m) ⊎ (y among (row ∷ rest))) (λ q. below (placed_from m rest y)) (λ q. same) (λ q. above)) i
  where
    up : (y ≡ m) ⊎ (y among rest) → (y ≡ m) ⊎ (y among (row ∷ rest))
    up (inl e) = inl e
    up (inr i) = inr (Memᴰ.tail i)

    below : (y among placed m rest → (y ≡ m) ⊎ (y among rest)) → y among (row ∷ placed m rest) → (y ≡ m) ⊎ (y among (row ∷ rest))
    below f (Memᴰ.head e) = inr (Memᴰ.head e)
    below f (Memᴰ.tail i) = up (f i)

    same : y among (m ∷ rest) → (y ≡ m) ⊎ (y among (row ∷ rest))
    same (Memᴰ.head e) = inl e
    same (Memᴰ.tail i) = inr (Memᴰ.tail i)

    above : y among (m ∷ row ∷ rest) → (y ≡ m) ⊎ (y among (row ∷ rest))
    above (Memᴰ.head e) = inl e
    above (Memᴰ.tail i) = inr i

-- another unit's row stays, and a unit that has a row keeps one
pub placed_stays : (m : Ordered) (rows : List Ordered) (y : Ordered) → y among rows → (row : Ordered) × (row among placed m rows) × (unit_of row ≡ unit_of y)
unfolding placed
placed_stays m [] y i = absurd (Memᴰ.not-nil i)
placed_stays m (row ∷ rest) y i =
    (placed_elim m row rest (λ l. y among (row ∷ rest) → (r : Ordered) × (r among l) × (unit_of r ≡ unit_of y)) (λ q. below (placed_stays m rest y)) same
    (λ q i. (y, Memᴰ.tail i, refl))) i
  where
    below : (y among rest → (r : Ordered) × (r among placed m rest) × (unit_of r ≡ unit_of y)) → y among (row ∷ rest)
        → (r : Ordered) × (r among (row ∷ placed m rest)) × (unit_of r ≡ unit_of y)
    below f (Memᴰ.head e) = (y, Memᴰ.head e, refl)
    below f (Memᴰ.tail i) = let r = f i in (r.0, Memᴰ.tail r.1, r.2)

    same : unit_of row ≡ unit_of m → y among (row ∷ rest) → (r : Ordered) × (r among (m ∷ rest)) × (unit_of r ≡ unit_of y)
    same q (Memᴰ.head e) = (m, Memᴰ.head refl, sym q ∙ ap unit_of (sym e))
    same q (Memᴰ.tail i) = (y, Memᴰ.tail i, refl)

-- rows that rise still do
pub placed_rises : (m : Ordered) (rows : List Ordered) → Rises unit_of rows → Rises unit_of (placed m rows)
unfolding placed Rises
placed_rises m [] r = (λ y i. absurd (Memᴰ.not-nil i), tt)
placed_rises m (row ∷ rest) r =
    placed_elim m row rest (λ l. Rises unit_of l)
    (λ q. (λ y i. below q y (placed_from m rest y i), placed_rises m rest r.1))
    (λ q. (λ y i. let z = r.0 y i in omega arith, r.1))
    (λ q. (λ y i. above q y i, r))
  where
    below : unit_of row < unit_of m → (y : Ordered) → (y ≡ m) ⊎ (y among rest) → unit_of row < unit_of y
    below q y (inl e) = rw e q
    below q y (inr i) = r.0 y i

    above : unit_of m < unit_of row → (y : Ordered) → y among (row ∷ rest) → unit_of m < unit_of y
    above q y (Memᴰ.head e) = rw e q
    above q y (Memᴰ.tail i) = let z = r.0 y i in omega arith

-- a message of a new unit is one row more
pub placed_new : (m : Ordered) (rows : List Ordered) → ((y : Ordered) → y among rows → unit_of y ≢ unit_of m) → length (placed m rows) ≡ suc (length rows)
unfolding placed
placed_new m [] d = refl
placed_new m (row ∷ rest) d =
    let h = placed_new m rest (λ y i. d y (Memᴰ.tail i)) in
    placed_elim m row rest (λ l. length l ≡ suc (length (row ∷ rest))) (λ q. ap suc h) (λ q. absurd (d row (Memᴰ.head refl) q)) (λ q. refl)

-- what rises has one element for a value
pub one_by : (f : Ordered → ℕ) (l : List Ordered) → Rises f l → (x y : Ordered) → x among l → y among l → f x ≡ f y → x ≡ y
unfolding Rises
one_by f [] r x y i j e = absurd (Memᴰ.not-nil i)
one_by f (m ∷ rest) r x y i j e = go (one_by f rest r.1 x y) i j
  where
    go : (x among rest → y among rest → f x ≡ f y → x ≡ y) → x among (m ∷ rest) → y among (m ∷ rest) → x ≡ y
    go k (Memᴰ.head a) (Memᴰ.head b) = a ∙ sym b
    go k (Memᴰ.head a) (Memᴰ.tail j) = let z = r.0 y j in let w = ap f a in absurd (omega arith)
    go k (Memᴰ.tail i) (Memᴰ.head b) = let z = r.0 x i in let w = ap f b in absurd (omega arith)
    go k (Memᴰ.tail i) (Memᴰ.tail j) = k i j e
