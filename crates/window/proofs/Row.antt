-- The facts that determine the end of a row of held numbers, and from them how it lies to a missing number, to a message kept and
-- to one taken; and that the scan of the counts finds it. Assumes nothing.
use mathlib.Core.Path.{◌≡◌, sym}
use mathlib.Core.Logic.{◌≢◌}
use mathlib.Core.List.{List}
use Prim.Native.Nat.{ℕ, zero, suc, ◌+◌, ◌-◌, ◌≤◌, ◌<◌}
use native.Mathlib.Nat.{le_refl}
use native.Mathlib.Omega.{arith}
use borrow.Author.Tests.{ltb-true, ltb-false, eqb-true, eqb-false}
use lib.ListN.{length, set}
use lib.Seq.{get_or-set_other}
use Rattle.group.specs.Choice.{◌<?◌, ◌=?◌}
use Rattle.group.specs.Limits.{held_most}
use Rattle.group.proofs.Lists.{when_elim, eq_or, le_or}
use Rattle.message.specs.Message.{Message, empty_message, blank}
use Rattle.window.specs.Places.{place_of, message_at, is_held, lowest_missing, row_end, smaller_of, larger_of}
use Rattle.window.specs.Steps.{Counted, row_counted}
use Rattle.window.proofs.Missing.{Lowest, lowest_is, lowest_none, held_same}
use Rattle.window.proofs.Scan.{uncounted}

-- the row above t, of at most k numbers, ends at r
pub record Row (held : List Message) (t k r : ℕ) : Type 0 where
  pub least : t ≤ r
  pub most : r ≤ t + k
  pub holds : (s : ℕ) → t < s → s ≤ r → 1 ≤ (message_at held s).count
  pub hole : r < t + k → (message_at held (r + 1)).count ≡ 0

pub row_is : (held : List Message) (t k : ℕ) → Row held t k (row_end held t k)
unfolding row_end
row_is held t zero = record { least = le_refl t; most = omega arith; holds = λ s lo hi. absurd (omega arith); hole = λ h. absurd (omega arith) }
row_is held t (suc k) =
    when_elim (λ (r : ℕ). Row held t (suc k) r) (is_held held (t + 1))
    (λ h. let w = row_is held (t + 1) k in
    record {
      least = omega arith;
      most = omega arith;
      holds = λ s lo hi. eq_or s (t + 1) (λ e. rw e (ltb-true 0 (message_at held (t + 1)).count h)) (λ e. w.holds s (omega arith) hi);
      hole = λ z. w.hole (omega arith);
    })
    (λ h. record {
      least = le_refl t;
      most = omega arith;
      holds = λ s lo hi. absurd (omega arith);
      hole = λ _. let z = ltb-false 0 (message_at held (t + 1)).count h in omega arith;
    })

module _ {held : List Message} {t k r : ℕ} (w : Row held t k r) where
  -- numbers held without a hole lie in the row
  pub row_reach : (x : ℕ) → x ≤ t + k → ((s : ℕ) → t < s → s ≤ x → 1 ≤ (message_at held s).count) → x ≤ r
  row_reach x hi h =
      le_or x r (λ z. z)
      (λ z. let a = h (r + 1) (let y = w.least in omega arith) (omega arith) in let b = w.hole (omega arith) in absurd (omega arith))

  -- a missing number lies above it
  pub row_below : (s : ℕ) → t < s → (message_at held s).count ≡ 0 → r < s
  row_below s lo e = le_or s r (λ z. let a = w.holds s lo z in absurd (omega arith)) (λ z. z)

-- whatever has these facts is its end
pub row_one : {held : List Message} {t k r : ℕ} → Row held t k r → row_end held t k ≡ r
row_one {held} {t} {k} {r} w =
    let v = row_is held t k in
    let a = row_reach w (row_end held t k) v.most v.holds in
    let b = row_reach v r w.most w.holds in
    omega arith

module _ {held : List Message} {t k r : ℕ} (w : Row held t k r) where
  -- a lowest missing number of the k above t is the one that follows it
  pub row_gap : {low : ℕ} → Lowest held t k low → low ≡ r + 1
  row_gap {low} l =
      let a = row_below w low l.above l.missing in
      let b = row_reach w (low - 1) (let z = l.up_to in omega arith) (λ s lo hi. l.below s lo (let z = l.above in omega arith)) in
      let z = l.above in
      omega arith

  -- a message kept under number s, one of the eight above t
  module _ (s : ℕ) (x : Message) where
    other : (j : ℕ) → place_of j ≢ place_of s → message_at (set held (place_of s) x) j ≡ message_at held j
    other j e = get_or-set_other held (place_of s) (place_of j) x blank e

    -- where it was not held, the row grows or stays
    pub row_up : (message_at held s).count ≡ 0 → r ≤ row_end (set held (place_of s) x) t k
    row_up empty =
        row_reach (row_is (set held (place_of s) x) t k) r w.most
        (λ j lo hi. let h = w.holds j lo hi in
        eq_or (place_of j) (place_of s)
        (λ e. let z : (message_at held j).count ≡ 0 = rw e empty in absurd (omega arith))
        (λ e. rw (other j e) h))

    -- where one below it is missing, the row stays
    pub row_same : (low : ℕ) → t < low → low < s → s ≤ t + held_most → (message_at held low).count ≡ 0 → Row (set held (place_of s) x) t k r
    row_same low lo hi near missing =
        let b = row_below w low lo missing in
        let a = w.least in
        record {
          least = w.least;
          most = w.most;
          holds = λ j c d. rw (other j (λ e. omega arith)) (w.holds j c d);
          hole = λ h. rw (other (r + 1) (λ e. omega arith)) (w.hole h);
        }

  -- the number t + 1 is taken: the row stays, since the number that its place is for next is not held
  pub row_take : (k' : ℕ) → length held ≡ held_most → k ≤ held_most → t < r → r ≤ t + 1 + k' → (t + k < t + 1 + k' → k ≡ held_most) → Row (set held (place_of (t + 1)) empty_message) (t + 1) k' r
  unfolding empty_message
  row_take k' long near one most next =
      record {
        least = omega arith;
        most = most;
        holds = λ j c d. let q = w.most in rw (other (t + 1) empty_message j (λ e. omega arith)) (w.holds j (omega arith) d);
        hole = λ h.
            eq_or (place_of (r + 1)) (place_of (t + 1))
            (λ e. rw (e, held_same held long (t + 1) empty_message))
            (λ e. rw (other (t + 1) empty_message (r + 1) e)
            (le_or (t + k) r (λ z. let y = next (let q = w.most in omega arith) in absurd (e (let q = w.most in omega arith))) (λ z. w.hole z)));
      }

-- the scan of the counts, up to a number that is not below t, finds it
pub row_counted_lem : (counts : List ℕ) (held : List Message) → Counted counts held → (t last : ℕ) → t ≤ last → row_counted counts t last ≡ row_end held t (last - t)
unfolding row_counted
row_counted_lem counts held c t last le =
    rw (uncounted counts held c t (last - t))
    (when_elim (λ (r : ℕ). r ≡ row_end held t (last - t)) (low =? 0)
    (λ e. let n = lowest_none held t (last - t) (eqb-true low 0 e) in
    sym (row_one (record { least = le; most = omega arith; holds = λ s lo hi. n s lo (omega arith); hole = λ h. absurd (omega arith) })))
    (λ e. let l = lowest_is held t (last - t) (eqb-false low 0 e) in let z = row_gap (row_is held t (last - t)) l in omega arith))
  where
    low : ℕ
    low = lowest_missing held t (last - t)

-- the lowest missing of the numbers up to `last`, which lies among the k, is none where the row reaches it, and else the number behind the row
module _ (held : List Message) (t k last : ℕ) (in-k : last ≤ t + k) where
  pub lowest_reached : last ≤ row_end held t k → lowest_missing held t (last - t) ≡ 0
  lowest_reached h =
      let w = row_is held t k in
      eq_or (lowest_missing held t (last - t)) 0 (λ z. z)
      (λ n. let l = lowest_is held t (last - t) n in let a = w.holds _ l.above (let u = l.up_to in let v = l.above in omega arith) in let b = l.missing in absurd (omega arith))

  pub lowest_behind : row_end held t k < last → lowest_missing held t (last - t) ≡ row_end held t k + 1
  lowest_behind h =
      let w = row_is held t k in
      let least = w.least in
      let hole = w.hole (omega arith) in
      eq_or (lowest_missing held t (last - t)) 0
      (λ z. let a = lowest_none held t (last - t) z (row_end held t k + 1) (omega arith) (omega arith) in absurd (omega arith))
      (λ n. let l = lowest_is held t (last - t) n in row_gap w (record { above = l.above; up_to = (let u = l.up_to in let v = l.above in omega arith); missing = l.missing; below = l.below }))

-- the smaller of two numbers is at most each, and what is at most each is at most it
pub smaller_le : (a b : ℕ) → (smaller_of a b ≤ a) × (smaller_of a b ≤ b)
unfolding smaller_of
smaller_le a b = when_elim (λ (c : ℕ). (c ≤ a) × (c ≤ b)) (a <? b) (λ t. let z = ltb-true a b t in (le_refl a, omega arith)) (λ t. (ltb-false a b t, le_refl b))

pub le_smaller : (a b c : ℕ) → c ≤ a → c ≤ b → c ≤ smaller_of a b
unfolding smaller_of
le_smaller a b c x y = when_elim (λ (d : ℕ). c ≤ d) (a <? b) (λ _. x) (λ _. y)

-- the larger of two numbers
pub larger_le : (a b : ℕ) → (a ≤ larger_of a b) × (b ≤ larger_of a b)
unfolding larger_of
larger_le a b = when_elim (λ (c : ℕ). (a ≤ c) × (b ≤ c)) (a <? b) (λ t. let z = ltb-true a b t in (omega arith, le_refl b)) (λ t. (le_refl a, ltb-false a b t))

pub le_larger : (a b c : ℕ) → a ≤ c → b ≤ c → larger_of a b ≤ c
unfolding larger_of
le_larger a b c x y = when_elim (λ (d : ℕ). d ≤ c) (a <? b) (λ _. y) (λ _. x)
