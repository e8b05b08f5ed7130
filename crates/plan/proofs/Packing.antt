-- Blocks filled one after the other. Assumes nothing.
use mathlib.Core.Path.{◌≡◌, refl, ap, ◌∙◌}
use mathlib.Core.List.Memᴰ
use mathlib.Core.List.{List, [], ◌∷◌, ◌++◌, append_assoc, flatten, nil≢cons}
use Prim.Native.Nat.{ℕ, ◌+◌, ◌≤◌, ◌<◌}
use native.Mathlib.Omega.{arith}
use borrow.Author.Tests.{leb-true, leb-false}
use lib.ListN.{length}
use Rattle.group.specs.Choice.{◌≤?◌}
use Rattle.group.proofs.Lists.{when_elim}
use Rattle.message.specs.Order.{Ordered}
use Rattle.plan.specs.Kept.{total, packed}
use Rattle.plan.specs.Laws.{◌among◌, Filled, Tight, PackedWhole, PackedFits, PackedTight}

module _ (size : Ordered → ℕ) (room : ℕ) where
  -- a claim of the blocks, one record on
  pub packed_elim : (P : List (List Ordered) → Type 0) (held : List Ordered) (m : Ordered) (rest : List Ordered)
      → (total size held + size m ≤ room → P (packed size room (held ++ (m ∷ [])) rest))
      → (room < total size held + size m → P (held ∷ packed size room (m ∷ []) rest)) → P (packed size room held (m ∷ rest))
  unfolding packed
  packed_elim P held m rest f g =
      when_elim P (total size held + size m ≤? room) (λ t. f (leb-true _ _ t)) (λ t. g (leb-false _ _ t))

  whole_from : (held ms : List Ordered) → flatten (packed size room held ms) ≡ held ++ ms
  unfolding packed flatten
  whole_from [] [] = refl
  whole_from (h ∷ held) [] = refl
  whole_from held (m ∷ ms) =
      packed_elim (λ l. flatten l ≡ held ++ (m ∷ ms)) held m ms
      (λ q. whole_from (held ++ (m ∷ [])) ms ∙ append_assoc held (m ∷ []) ms)
      (λ q. ap (λ (l : List Ordered). held ++ l) (whole_from (m ∷ []) ms))

  total_append : (l r : List Ordered) → total size (l ++ r) ≡ total size l + total size r
  unfolding total
  total_append [] r = omega arith
  total_append (m ∷ l) r = let h = total_append l r in omega arith

  -- records that take room are some
  some_held : (held : List Ordered) → 0 < total size held → 1 ≤ length held
  unfolding total
  some_held [] h = h
  some_held (m ∷ held) h = omega arith

  fits_from : (held ms : List Ordered) → ((m : Ordered) → m among ms → size m ≤ room) → total size held ≤ room
      → (block : List Ordered) → block among packed size room held ms → Filled size room block
  unfolding packed total
  fits_from [] [] small h block i = absurd (Memᴰ.not-nil i)
  fits_from (x ∷ held) [] small h block i = only i
    where
      only : block among ((x ∷ held) ∷ []) → Filled size room block
      only (Memᴰ.head e) = rw e (record { some = omega arith; fits = h })
      only (Memᴰ.tail i) = absurd (Memᴰ.not-nil i)
  fits_from held (m ∷ ms) small h block i =
      let one = small m (Memᴰ.head refl) in
      let later : (x : Ordered) → x among ms → size x ≤ room = λ x j. small x (Memᴰ.tail j) in
      (packed_elim (λ l. block among l → Filled size room block) held m ms
      (λ q. fits_from (held ++ (m ∷ [])) ms later (rw (total_append held (m ∷ [])) (omega arith)) block)
      (λ q. full q one (fits_from (m ∷ []) ms later (omega arith) block))) i
    where
      full : room < total size held + size m → size m ≤ room → (block among packed size room (m ∷ []) ms → Filled size room block)
          → block among (held ∷ packed size room (m ∷ []) ms) → Filled size room block
      full q one f (Memᴰ.head e) = rw e (record { some = some_held held (omega arith); fits = h })
      full q one f (Memᴰ.tail i) = f i

  -- the first block begins with the first record in hand
  begins : (m : Ordered) (held ms : List Ordered) → (next : List Ordered) × (behind : List (List Ordered)) × (packed size room (m ∷ held) ms ≡ (m ∷ next) ∷ behind)
  unfolding packed
  begins m held [] = (held, [], refl)
  begins m held (x ∷ ms) =
      packed_elim (λ l. (next : List Ordered) × (behind : List (List Ordered)) × (l ≡ (m ∷ next) ∷ behind)) (m ∷ held) x ms
      (λ q. begins m (held ++ (x ∷ [])) ms) (λ q. (held, packed size room (x ∷ []) ms, refl))

  tight_from : (held ms : List Ordered) → Tight size room (packed size room held ms)
  unfolding packed Tight
  tight_from [] [] = tt
  tight_from (h ∷ held) [] = (λ m next behind e. absurd (nil≢cons e), tt)
  tight_from held (m ∷ ms) =
      packed_elim (Tight size room) held m ms (λ q. tight_from (held ++ (m ∷ [])) ms)
      (λ q. (
        λ x next behind e.
            let b = begins m [] ms in
            let f = b.2 in
            let z : x ≡ m = cc in
            rw z q,
        tight_from (m ∷ []) ms,
      ))

pub packed_whole : PackedWhole
packed_whole size room ms = whole_from size room [] ms

pub packed_fits : PackedFits
unfolding total
packed_fits size room ms small = fits_from size room [] ms small (omega arith)

pub packed_tight : PackedTight
packed_tight size room ms = tight_from size room [] ms
