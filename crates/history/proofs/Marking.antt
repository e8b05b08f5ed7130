-- What a turn of each loop over the marks needs: one number more is marked or cleared, the search for enough marks goes one number on,
-- and a mark is asked where it lies. Assumes nothing.
use mathlib.Core.Path.{◌≡◌, refl, sym, ap, ◌∙◌}
use mathlib.Core.Bool.{Bool}
use mathlib.Core.List.{List}
use Prim.Native.Nat.{ℕ, suc, ◌+◌, ◌-◌, ◌≤◌, ◌<◌}
use native.Mathlib.Omega.{arith}
use lib.Bits.{bit_or}
use lib.Count.{ones}
use lib.ListN.{get_or, set}
use Rattle.group.proofs.Choice.{when_le, when_nle}
use Rattle.group.specs.Choice.{when◌then◌else◌, ◌and◌, ◌<?◌, ◌≤?◌, ◌=?◌}
use Rattle.group.specs.Members.{only_of, is_within}
use Rattle.group.specs.declared.MemberNumber.{MemberNumber}
use Rattle.history.specs.Marks.{mark_at, marked_of, enough_of, unmarked_of, mark_sound}
use Rattle.history.specs.State.{place_of}

module _ (was marks : List ℕ) (from passed at : ℕ) (least : from ≤ passed) (place : at ≡ place_of (passed + 1)) where
  one_more : passed + 1 - from ≡ suc (passed - from)
  one_more = omega arith

  at_next : at ≡ place_of (from + suc (passed - from))
  at_next = let e : passed + 1 ≡ from + suc (passed - from) = omega arith in place ∙ ap place_of e

  pub mark_on : (m : MemberNumber) (bit : ℕ) → bit ≡ only_of m → marks ≡ marked_of was m from (passed - from)
      → set marks at (bit_or (get_or marks at 0) bit) ≡ marked_of was m from (passed + 1 - from)
  unfolding marked_of
  mark_on m bit b e = (λ i. set (e i) (at_next i) (bit_or (get_or (e i) (at_next i) 0) (b i))) ∙ ap (marked_of was m from) (sym one_more)

  pub unmark_on : marks ≡ unmarked_of was from (passed - from) → set marks at 0 ≡ unmarked_of was from (passed + 1 - from)
  unfolding unmarked_of
  unmark_on e = (λ i. set (e i) (at_next i) 0) ∙ ap (unmarked_of was from) (sym one_more)

module _ (marks : List ℕ) (needed from to number : ℕ) (inv : enough_of marks needed from (to - from) ≡ enough_of marks needed from (number - from)) where
  enough_step : from < number
      → enough_of marks needed from (to - from) ≡ when needed ≤? ones (mark_at marks number) then number else enough_of marks needed from (number - 1 - from)
  unfolding enough_of
  enough_step h =
      let e : number - from ≡ suc (number - 1 - from) = omega arith in
      let f : from + suc (number - 1 - from) ≡ number = omega arith in
      inv ∙ ap (enough_of marks needed from) e ∙ rw f

  -- a turn of the search: found, on, and the end
  pub enough_found : from < number → needed ≤ ones (mark_at marks number) → number ≡ enough_of marks needed from (to - from)
  enough_found h t = when_le _ _ _ _ _ t refl ∙ sym (enough_step h)

  pub enough_on : from < number → ones (mark_at marks number) < needed → enough_of marks needed from (to - from) ≡ enough_of marks needed from (number - 1 - from)
  enough_on h t = enough_step h ∙ sym (when_nle _ _ _ _ _ t refl)

  pub enough_end : number ≤ from → 0 ≡ enough_of marks needed from (to - from)
  unfolding enough_of
  enough_end h = let e : number - from ≡ 0 = omega arith in sym (inv ∙ ap (enough_of marks needed from) e)

-- a mark that was asked where it lies
pub mark_asked : (expected : ℕ) (marks : List ℕ) (accepted top number at : ℕ) (r : Bool) → at ≡ place_of number
    → r ≡ (when accepted <? number and number ≤? top then is_within (get_or marks at 0) expected else get_or marks at 0 =? 0)
    → r ≡ mark_sound expected marks accepted top number
unfolding mark_sound
mark_asked expected marks accepted top number at r p e =
    e ∙ ap (λ (k : ℕ). when accepted <? number and number ≤? top then is_within (get_or marks k 0) expected else get_or marks k 0 =? 0) p
