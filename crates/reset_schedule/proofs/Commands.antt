-- What reading gives back of a choice, and of the forms with two fields. Assumes nothing.
use mathlib.Core.Path.{◌≡◌, refl, sym}
use mathlib.Core.Bool.{Bool, true, false}
use mathlib.Core.List.{List}
use Rattle.std.specs.Prelude.{Option, None, Some}
use Prim.Native.Char.{code}
use Prim.Native.Nat.{ℕ}
use Rattle.group.specs.Choice.{when◌then◌else◌}
use Rattle.group.proofs.Choice.{when_ne}
use Rattle.reset.specs.World.{Event, submit}
use Rattle.text.specs.Field.{is_letter, number_in, is_hex, hex_bytes, hex_in}
use Rattle.reset_schedule.specs.Line.{submitted, with_numbers, with_two, command_of}

pub command_if : (t : Bool) (a b : Option Event) → command_of (when t then a else b) ≡ when t then command_of a else command_of b
unfolding when◌then◌else◌
command_if true a b = refl
command_if false a b = refl

-- a submit: both fields are read, or one is of another form
module _ (a b : List ℕ) where
  pub submit_read : (i : ℕ) → number_in a ≡ Some i → is_hex b ≡ true → submitted (number_in a) (hex_in b) ≡ Some (submit i (hex_bytes b))
  unfolding submitted when◌then◌else◌
  submit_read i e h = rw (e, h)

  pub submit_no_payload : (i : ℕ) → number_in a ≡ Some i → is_hex b ≡ false → submitted (number_in a) (hex_in b) ≡ None
  unfolding submitted when◌then◌else◌
  submit_no_payload i e h = rw (e, h)

  pub submit_no_number : number_in a ≡ None → submitted (number_in a) (hex_in b) ≡ None
  unfolding submitted
  submit_no_number e = rw e

-- the letter before two fields
module _ (a b : List ℕ) where
  pub two_none : with_two None a b ≡ None
  unfolding with_two with_numbers is_letter when◌then◌else◌
  two_none = refl

  pub two_submit : with_two (Some (code "S")) a b ≡ submitted (number_in a) (hex_in b)
  unfolding with_two is_letter when◌then◌else◌
  two_submit = refl

  pub two_numbers : (letter : ℕ) → (letter ≡ code "S" → ⊥) → with_two (Some letter) a b ≡ with_numbers (Some letter) (number_in a) (number_in b)
  unfolding with_two is_letter
  two_numbers letter n = sym (when_ne letter (code "S") _ _ _ n refl)
