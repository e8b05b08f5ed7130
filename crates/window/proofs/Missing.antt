-- The lowest missing number is the first that is not held, and the eight numbers above t have a place each, so that a change of
-- one place leaves the others. Assumes nothing.
use mathlib.Core.Path.{◌≡◌, refl, ◌∙◌}
use mathlib.Core.Logic.{◌≢◌}
use mathlib.Core.List.{List}
use Prim.Native.Nat.{ℕ, zero, suc, ◌+◌, ◌≤◌, ◌<◌}
use native.Mathlib.Omega.{arith}
use borrow.Author.Tests.{ltb-true, ltb-false}
use lib.ListN.{length, set, length-set}
use lib.Seq.{get_or-set_same, get_or-set_other}
use Rattle.group.specs.Limits.{held_most}
use Rattle.group.proofs.Lists.{when_elim, eq_or}
use Rattle.message.specs.Message.{Message, blank}
use Rattle.window.specs.Places.{place_of, message_at, is_held, lowest_missing}

-- the lowest missing of the k numbers above t
pub record Lowest (held : List Message) (t k low : ℕ) : Type 0 where
  pub above : t < low
  pub up_to : low ≤ t + k
  pub missing : (message_at held low).count ≡ 0
  pub below : (s : ℕ) → t < s → s < low → 1 ≤ (message_at held s).count

module _ (held : List Message) where
  pub lowest_is : (t k : ℕ) → lowest_missing held t k ≢ 0 → Lowest held t k (lowest_missing held t k)
  unfolding lowest_missing
  lowest_is t zero = λ n. absurd (n refl)
  lowest_is t (suc k) =
      when_elim (λ (low : ℕ). low ≢ 0 → Lowest held t (suc k) low) (is_held held (t + 1))
      (λ h n. let l = lowest_is (t + 1) k n in
      record {
        above = omega arith;
        up_to = omega arith;
        missing = l.missing;
        below = λ s lo hi. eq_or s (t + 1) (λ e. rw e (ltb-true 0 (message_at held (t + 1)).count h)) (λ e. l.below s (omega arith) hi);
      })
      (λ h n. record { above = omega arith; up_to = omega arith; missing = (let z = ltb-false 0 (message_at held (t + 1)).count h in omega arith); below = λ s lo hi. absurd (omega arith) })

  -- where there is none, all k are held
  pub lowest_none : (t k : ℕ) → lowest_missing held t k ≡ 0 → (s : ℕ) → t < s → s ≤ t + k → 1 ≤ (message_at held s).count
  unfolding lowest_missing
  lowest_none t zero = λ e s lo hi. absurd (omega arith)
  lowest_none t (suc k) =
      when_elim (λ (low : ℕ). low ≡ 0 → (s : ℕ) → t < s → s ≤ t + suc k → 1 ≤ (message_at held s).count) (is_held held (t + 1))
      (λ h e s lo hi. eq_or s (t + 1) (λ q. rw q (ltb-true 0 (message_at held (t + 1)).count h)) (λ q. lowest_none (t + 1) k e s (omega arith) (omega arith)))
      (λ h e s lo hi. absurd (omega arith))

-- two of the eight numbers above t that have the same place are equal
pub place_one : (t k s : ℕ) → t < k → k ≤ t + held_most → t < s → s ≤ t + held_most → place_of s ≡ place_of k → s ≡ k
place_one t k s a b c d e = omega arith

-- the eight numbers above t + 1 that have not its place are among the eight above t
pub place_near : (t s : ℕ) → t + 1 < s → s ≤ t + 1 + held_most → place_of s ≢ place_of (t + 1) → s ≤ t + held_most
place_near t s a b e = omega arith

module _ (held : List Message) (long : length held ≡ held_most) (k : ℕ) (x : Message) where
  pub set_length : length (set held (place_of k) x) ≡ held_most
  set_length = length-set held (place_of k) x ∙ long

  pub held_same : message_at (set held (place_of k) x) k ≡ x
  held_same = get_or-set_same held (place_of k) x blank (omega arith)

  -- what holds of the message laid in place of k, and of every other, holds of number s
  pub held_each : (P : Message → Type 0) (s : ℕ) → (place_of s ≡ place_of k → P x) → (place_of s ≢ place_of k → P (message_at held s))
      → P (message_at (set held (place_of k) x) s)
  held_each P s same other =
      eq_or (place_of s) (place_of k)
      (λ e. rw (e, held_same) (same e))
      (λ e. rw (get_or-set_other held (place_of k) (place_of s) x blank e) (other e))
