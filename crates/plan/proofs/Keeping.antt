-- What is kept comes to the same rows, now and later. Assumes nothing.
use mathlib.Core.Path.{◌≡◌, refl, sym, ap, ◌∙◌}
use mathlib.Core.Logic.{◌≢◌}
use mathlib.Core.Bool.{true, false}
use mathlib.Core.List.{List, [], ◌∷◌, ◌++◌, append-nil}
use Prim.Native.Nat.{ℕ}
use borrow.Author.Tests.{eq-eqb, ne_eqb}
use Rattle.group.specs.Choice.{◌=?◌}
use Rattle.group.proofs.Choice.{when_true, when_false, both_hold, first_fails, then_fails}
use Rattle.group.proofs.Lists.{eq_or}
use Rattle.message.specs.Order.{Ordered}
use Rattle.plan.specs.Units.{sets, unit_of, placed, latest_from}
use Rattle.plan.specs.Kept.{not_in, last_ones}
use Rattle.plan.specs.Laws.{SamePlan, GoesOn, RewriteTwice}
use Rattle.plan.proofs.Placing.{bool_or, placed_again, placed_either}

module _ (m : Ordered) (rest : List Ordered) where
  -- a message is placed if it sets a unit
  pub latest_set : (rows : List Ordered) → sets m ≡ true → latest_from rows (m ∷ rest) ≡ latest_from (placed m rows) rest
  unfolding latest_from
  latest_set rows h = ap (λ (l : List Ordered). latest_from l rest) (sym (when_true (sets m) _ (placed m rows) rows h refl))

  pub latest_not : (rows : List Ordered) → sets m ≡ false → latest_from rows (m ∷ rest) ≡ latest_from rows rest
  unfolding latest_from
  latest_not rows h = ap (λ (l : List Ordered). latest_from l rest) (sym (when_false (sets m) _ (placed m rows) rows h refl))

  -- whether it sets unit u
  pub in_first : (u : ℕ) → sets m ≡ true → unit_of m ≡ u → not_in u (m ∷ rest) ≡ false
  unfolding not_in
  in_first u h e = sym (when_true _ _ false (not_in u rest) (both_hold (sets m) (unit_of m =? u) h (eq-eqb _ _ e)) refl)

  pub in_other : (u : ℕ) → unit_of m ≢ u → not_in u (m ∷ rest) ≡ not_in u rest
  unfolding not_in
  in_other u d = sym (when_false _ _ false (not_in u rest) (then_fails (sets m) (unit_of m =? u) (ne_eqb _ _ d)) refl)

  pub in_not : (u : ℕ) → sets m ≡ false → not_in u (m ∷ rest) ≡ not_in u rest
  unfolding not_in
  in_not u h = sym (when_false _ _ false (not_in u rest) (first_fails (sets m) (unit_of m =? u) h) refl)

  -- whether it is kept
  pub keep_last : sets m ≡ true → not_in (unit_of m) rest ≡ true → last_ones (m ∷ rest) ≡ m ∷ last_ones rest
  unfolding last_ones
  keep_last h k = sym (when_true _ _ (m ∷ last_ones rest) (last_ones rest) (both_hold (sets m) (not_in (unit_of m) rest) h k) refl)

  pub drop_set : not_in (unit_of m) rest ≡ false → last_ones (m ∷ rest) ≡ last_ones rest
  unfolding last_ones
  drop_set k = sym (when_false _ _ (m ∷ last_ones rest) (last_ones rest) (then_fails (sets m) (not_in (unit_of m) rest) k) refl)

  pub drop_not : sets m ≡ false → last_ones (m ∷ rest) ≡ last_ones rest
  unfolding last_ones
  drop_not h = sym (when_false _ _ (m ∷ last_ones rest) (last_ones rest) (first_fails (sets m) (not_in (unit_of m) rest) h) refl)

  -- a claim of what is kept
  pub kept_elim : (P : List Ordered → Type 0) → (sets m ≡ true → not_in (unit_of m) rest ≡ true → P (m ∷ last_ones rest))
      → (sets m ≡ true → not_in (unit_of m) rest ≡ false → P (last_ones rest)) → (sets m ≡ false → P (last_ones rest)) → P (last_ones (m ∷ rest))
  kept_elim P f g h =
      bool_or (sets m)
      (λ s. bool_or (not_in (unit_of m) rest) (λ n. rw (keep_last s n) (f s n)) (λ n. rw (drop_set n) (g s n)))
      (λ s. rw (drop_not s) (h s))

-- a unit that is set later need not be set before
pub covered : (m : Ordered) (rows ms : List Ordered) → not_in (unit_of m) ms ≡ false → latest_from (placed m rows) ms ≡ latest_from rows ms
unfolding not_in
covered m rows [] h = let z : true ≡ false = h in cc
covered m rows (x ∷ ms) h =
    bool_or (sets x)
    (λ s. eq_or (unit_of x) (unit_of m)
    (λ e. cc (latest_set x ms (placed m rows) s, latest_set x ms rows s, placed_again m x (sym e) rows))
    (λ d. cc (latest_set x ms (placed m rows) s, latest_set x ms rows s, placed_either x m d rows, covered m (placed x rows) ms (sym (in_other x ms (unit_of m) d) ∙ h))))
    (λ s. cc (latest_not x ms (placed m rows) s, latest_not x ms rows s, covered m rows ms (sym (in_not x ms (unit_of m) s) ∙ h)))

-- where some message sets a unit, some message of a longer list does
in_append : (u : ℕ) (ms more : List Ordered) → not_in u ms ≡ false → not_in u (ms ++ more) ≡ false
unfolding not_in
in_append u [] more h = let z : true ≡ false = h in cc
in_append u (x ∷ ms) more h =
    bool_or (sets x)
    (λ s. eq_or (unit_of x) u (λ e. in_first x (ms ++ more) u s e) (λ d. in_other x (ms ++ more) u d ∙ in_append u ms more (sym (in_other x ms u d) ∙ h)))
    (λ s. in_not x (ms ++ more) u s ∙ in_append u ms more (sym (in_not x ms u s) ∙ h))

goes_on_from : (rows ms more : List Ordered) → latest_from rows (last_ones ms ++ more) ≡ latest_from rows (ms ++ more)
unfolding last_ones
goes_on_from rows [] more = refl
goes_on_from rows (m ∷ ms) more =
    kept_elim m ms (λ l. latest_from rows (l ++ more) ≡ latest_from rows (m ∷ (ms ++ more)))
    (λ s n. cc (latest_set m (last_ones ms ++ more) rows s, latest_set m (ms ++ more) rows s, goes_on_from (placed m rows) ms more))
    (λ s n. goes_on_from rows ms more ∙ cc (latest_set m (ms ++ more) rows s, covered m rows (ms ++ more) (in_append (unit_of m) ms more n)))
    (λ s. goes_on_from rows ms more ∙ sym (latest_not m (ms ++ more) rows s))

pub goes_on : GoesOn
goes_on ms more = goes_on_from [] ms more

pub same_plan : SamePlan
same_plan ms = simp append-nil at (goes_on ms [])

-- what is kept sets the same units
kept_units : (u : ℕ) (ms : List Ordered) → not_in u (last_ones ms) ≡ not_in u ms
unfolding last_ones
kept_units u [] = refl
kept_units u (m ∷ ms) =
    kept_elim m ms (λ l. not_in u l ≡ not_in u (m ∷ ms))
    (λ s n. eq_or (unit_of m) u (λ e. in_first m (last_ones ms) u s e ∙ sym (in_first m ms u s e))
    (λ d. in_other m (last_ones ms) u d ∙ kept_units u ms ∙ sym (in_other m ms u d)))
    (λ s n. eq_or (unit_of m) u (λ e. kept_units u ms ∙ (rw e at n) ∙ sym (in_first m ms u s e))
    (λ d. kept_units u ms ∙ sym (in_other m ms u d)))
    (λ s. kept_units u ms ∙ sym (in_not m ms u s))

pub rewrite_twice : RewriteTwice
unfolding last_ones
rewrite_twice [] = refl
rewrite_twice (m ∷ ms) =
    kept_elim m ms (λ l. last_ones l ≡ l)
    (λ s n. keep_last m (last_ones ms) s (kept_units (unit_of m) ms ∙ n) ∙ ap (λ (l : List Ordered). m ∷ l) (rewrite_twice ms))
    (λ s n. rewrite_twice ms) (λ s. rewrite_twice ms)
