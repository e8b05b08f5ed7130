-- What is kept is in its order, one message for each row, and no more than there were. Assumes nothing.
use mathlib.Core.Path.{◌≡◌, sym, ap, ◌∙◌}
use mathlib.Core.Logic.{◌⊎◌, inl, inr}
use mathlib.Core.Bool.{true}
use mathlib.Core.List.Memᴰ
use mathlib.Core.List.{List, [], ◌∷◌}
use Prim.Native.Nat.{ℕ, ◌+◌, ◌≤◌}
use native.Mathlib.Omega.{arith}
use lib.ListN.{length}
use Rattle.group.proofs.Lists.{eq_or}
use Rattle.message.specs.Order.{Ordered}
use Rattle.plan.specs.Units.{sets, unit_of, placed, latest_from}
use Rattle.plan.specs.Kept.{not_in, last_ones}
use Rattle.plan.specs.Laws.{◌among◌, Rises, StillRises, OneEach, NoMore}
use Rattle.plan.proofs.Placing.{bool_or, placed_from, placed_new}
use Rattle.plan.proofs.Keeping.{latest_set, latest_not, in_first, in_other, in_not, keep_last, drop_set, drop_not, kept_elim, covered}

-- what is kept is one of the messages
pub kept_from : (ms : List Ordered) (y : Ordered) → y among last_ones ms → y among ms
unfolding last_ones
kept_from [] y i = i
kept_from (m ∷ ms) y i =
    (kept_elim m ms (λ l. y among l → y among (m ∷ ms)) (λ s n. here (kept_from ms y)) (λ s n i. Memᴰ.tail (kept_from ms y i))
    (λ s i. Memᴰ.tail (kept_from ms y i))) i
  where
    here : (y among last_ones ms → y among ms) → y among (m ∷ last_ones ms) → y among (m ∷ ms)
    here f (Memᴰ.head e) = Memᴰ.head e
    here f (Memᴰ.tail i) = Memᴰ.tail (f i)

pub still_rises : StillRises
unfolding last_ones Rises
still_rises [] r = r
still_rises (m ∷ ms) r =
    kept_elim m ms (λ l. Rises (λ x. x.number) l) (λ s n. (λ y i. r.0 y (kept_from ms y i), still_rises ms r.1)) (λ s n. still_rises ms r.1)
    (λ s. still_rises ms r.1)

-- rows of which no message sets the unit, and a row for each message that is kept
counted : (rows ms : List Ordered) → ((y : Ordered) → y among rows → not_in (unit_of y) ms ≡ true) → length (latest_from rows ms) ≡ length rows + length (last_ones ms)
unfolding last_ones latest_from
counted rows [] apart = omega arith
counted rows (m ∷ ms) apart =
    bool_or (sets m)
    (λ s. bool_or (not_in (unit_of m) ms)
    (λ n.
    let e = ap length (latest_set m ms rows s) in
    let k = ap length (keep_last m ms s n) in
    let c = counted (placed m rows) ms (λ y i. new n y (placed_from m rows y i)) in
    let p = placed_new m rows (λ y i e. clash s y e (apart y i)) in
    omega arith)
    (λ n.
    let e = ap length (latest_set m ms rows s ∙ covered m rows ms n) in
    let k = ap length (drop_set m ms n) in
    let c = counted rows ms later in
    omega arith))
    (λ s.
    let e = ap length (latest_not m ms rows s) in
    let k = ap length (drop_not m ms s) in
    let c = counted rows ms later in
    omega arith)
  where
    clash : sets m ≡ true → (y : Ordered) → unit_of y ≡ unit_of m → not_in (unit_of y) (m ∷ ms) ≡ true → ⊥
    clash s y e h = let f = in_first m ms (unit_of y) s (sym e) in let z : ◌≡◌ {A = ℕ} 0 1 = cc in omega arith

    other : (y : Ordered) → not_in (unit_of y) (m ∷ ms) ≡ true → not_in (unit_of y) ms ≡ true
    other y h =
        bool_or (sets m)
        (λ s. eq_or (unit_of m) (unit_of y) (λ e. absurd (clash s y (sym e) h)) (λ d. sym (in_other m ms (unit_of y) d) ∙ h))
        (λ s. sym (in_not m ms (unit_of y) s) ∙ h)

    later : (y : Ordered) → y among rows → not_in (unit_of y) ms ≡ true
    later y i = other y (apart y i)

    new : not_in (unit_of m) ms ≡ true → (y : Ordered) → (y ≡ m) ⊎ (y among rows) → not_in (unit_of y) ms ≡ true
    new n y (inl e) = rw e n
    new n y (inr i) = later y i

pub one_each : OneEach
one_each ms = let c = counted [] ms (λ y i. absurd (Memᴰ.not-nil i)) in omega arith

kept_length : (ms : List Ordered) → length (last_ones ms) ≤ length ms
unfolding last_ones
kept_length [] = omega arith
kept_length (m ∷ ms) =
    let h = kept_length ms in
    kept_elim m ms (λ l. length l ≤ length (m ∷ ms)) (λ s n. omega arith) (λ s n. omega arith) (λ s. omega arith)

pub no_more : NoMore
no_more ms = let e = one_each ms in let h = kept_length ms in omega arith
