-- The law by which the scan for the lowest missing number goes one number on, and what each of its ends finds; and that what is
-- missing by the counts of the places is missing. Assumes nothing.
use mathlib.Core.Path.{◌≡◌, refl, sym, ap, ◌∙◌}
use mathlib.Core.List.{List}
use Prim.Native.Nat.{ℕ, zero, suc, ◌+◌, ◌-◌, ◌≤◌, ◌<◌}
use native.Mathlib.Omega.{arith}
use lib.ListN.{get_or}
use Rattle.group.specs.Choice.{when◌then◌else◌, ◌<?◌}
use Rattle.group.proofs.Choice.{when_lt, when_nlt, when_eq, when_ne}
use Rattle.message.specs.Message.{Message}
use Rattle.window.specs.Places.{place_of, lowest_missing}
use Rattle.window.specs.Steps.{Counted, lowest_uncounted, first_uncounted}
use Rattle.std.proofs.Common.{Some, None}

pub uncounted : (counts : List ℕ) (held : List Message) → Counted counts held → (t k : ℕ) → lowest_uncounted counts t k ≡ lowest_missing held t k
unfolding lowest_uncounted lowest_missing
uncounted counts held e t zero = refl
uncounted counts held e t (suc k) = rw (e (place_of (t + 1)), uncounted counts held e (t + 1) k)

-- the scan of the numbers above t, from the number above `number` up to `last`, whose place is `at`
module _ (counts : List ℕ) (t k last number : ℕ) (inv : lowest_uncounted counts t k ≡ lowest_uncounted counts number (last - number)) where
  missing_step : number < last
      → lowest_uncounted counts t k ≡ when 0 <? get_or counts (place_of (number + 1)) 0 then lowest_uncounted counts (number + 1) (last - (number + 1)) else number + 1
  unfolding lowest_uncounted
  missing_step h = let e : last - number ≡ suc (last - (number + 1)) = omega arith in inv ∙ ap (lowest_uncounted counts number) e

  module _ (at : ℕ) (place : at ≡ place_of (number + 1)) where
    pub missing_on : number < last → (get_or counts at 0 ≡ 0 → ⊥) → lowest_uncounted counts t k ≡ lowest_uncounted counts (number + 1) (last - (number + 1))
    missing_on h p =
        let q = rw place at p in
        missing_step h ∙ sym (when_lt 0 (get_or counts (place_of (number + 1)) 0) _ _ _ (omega (arith, q)) refl)

    pub missing_found : number < last → get_or counts at 0 ≡ 0 → Some (record { 0 = number + 1 }) ≡ first_uncounted counts t k
    unfolding first_uncounted
    missing_found h p =
        let q = rw place at p in
        let e = missing_step h ∙ sym (when_nlt 0 (get_or counts (place_of (number + 1)) 0) _ _ _ (omega (arith, q)) refl) in
        rw e (when_ne (number + 1) 0 _ _ _ (λ z. omega arith) refl)

  pub missing_none : last ≤ number → None ≡ first_uncounted counts t k
  unfolding lowest_uncounted first_uncounted
  missing_none h = let e : last - number ≡ 0 = omega arith in when_eq (lowest_uncounted counts t k) 0 _ _ _ (inv ∙ ap (lowest_uncounted counts number) e) refl
