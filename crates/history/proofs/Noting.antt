-- The larger of two numbers, and a history of which some numbers are cleared: their places are empty, and every number above
-- them keeps its message. Assumes nothing.
use mathlib.Core.Path.{◌≡◌, refl, ap, ◌∙◌}
use mathlib.Core.List.{List}
use Prim.Native.Nat.{ℕ, zero, suc, ◌+◌, ◌≤◌, ◌<◌, max}
use native.Mathlib.Nat.{le_refl}
use native.Mathlib.Omega.{arith}
use borrow.Author.Tests.{ltb-true, ltb-false}
use lib.ListN.{length, length-set}
use lib.Seq.{get_or-set_same, get_or-set_other}
use Rattle.group.proofs.Lists.{when_elim, eq_or, le_or}
use Rattle.group.specs.Choice.{◌<?◌}
use Rattle.group.specs.Limits.{places_most}
use Rattle.message.specs.Message.{Message, empty_message, blank}
use Rattle.history.specs.Note.{larger_of, cleared_of}
use Rattle.history.specs.State.{place_of, message_at}

pub larger_max : (a b : ℕ) → max a b ≡ larger_of a b
unfolding larger_of
larger_max a b =
    when_elim (λ (x : ℕ). max a b ≡ x) (a <? b) (λ t. let z = ltb-true a b t in omega arith) (λ t. let z = ltb-false a b t in omega arith)

pub larger_least : (a b : ℕ) → a ≤ larger_of a b
unfolding larger_of
larger_least a b = when_elim (λ (x : ℕ). a ≤ x) (a <? b) (λ t. let z = ltb-true a b t in omega arith) (λ t. le_refl a)

pub larger_new : (a b : ℕ) → b ≤ larger_of a b
unfolding larger_of
larger_new a b = when_elim (λ (x : ℕ). b ≤ x) (a <? b) (λ t. le_refl b) (λ t. ltb-false a b t)

pub larger_most : (a b c : ℕ) → a ≤ c → b ≤ c → larger_of a b ≤ c
unfolding larger_of
larger_most a b c h k = when_elim (λ (x : ℕ). x ≤ c) (a <? b) (λ t. k) (λ t. h)

-- the history with the k numbers above f cleared
module _ (history : List Message) (f : ℕ) where
  pub cleared_length : (k : ℕ) → length (cleared_of history f k) ≡ length history
  unfolding cleared_of
  cleared_length zero = refl
  cleared_length (suc k) = length-set (cleared_of history f k) (place_of (f + suc k)) empty_message ∙ cleared_length k

  -- a number above them keeps its message
  pub cleared_other : (k number : ℕ) → f + k < number → number ≤ f + places_most → message_at (cleared_of history f k) number ≡ message_at history number
  unfolding cleared_of
  cleared_other zero number a b = refl
  cleared_other (suc k) number a b =
      get_or-set_other (cleared_of history f k) (place_of (f + suc k)) (place_of number) empty_message blank (omega arith)
      ∙ cleared_other k number (omega arith) b

  -- a place of one of them is empty
  pub cleared_empty : length history ≡ places_most → (k number r : ℕ) → f < r → r ≤ f + k → place_of number ≡ place_of r
      → message_at (cleared_of history f k) number ≡ empty_message
  unfolding cleared_of
  cleared_empty l zero number r a b e = absurd (omega arith)
  cleared_empty l (suc k) number r a b e =
      let z = cleared_length k in
      let history' = cleared_of history f k in
      let place = place_of (f + suc k) in
      eq_or (place_of number) place (λ q. rw q (get_or-set_same history' place empty_message blank (omega arith)))
      (λ q. get_or-set_other history' place (place_of number) empty_message blank q
      ∙ cleared_empty l k number r a (le_or r (f + k) (λ h. h) (λ h. let y : r ≡ f + suc k = omega arith in absurd (q (e ∙ ap place_of y)))) e)
