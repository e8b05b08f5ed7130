-- What reading gives back of a choice, and of the forms with two fields. Assumes nothing.
use mathlib.Core.Path.{◌≡◌, refl, sym}
use mathlib.Core.Bool.{Bool, true, false}
use mathlib.Core.List.{List, []}
use Rattle.std.specs.Prelude.{Option, None, Some}
use Prim.Native.Char.{code}
use Prim.Native.Nat.{ℕ}
use Rattle.group.specs.Choice.{when◌then◌else◌}
use Rattle.group.proofs.Choice.{when_ne}
use Rattle.model.specs.World.{Event, submit}
use Rattle.text.specs.Field.{is_letter, number_in, is_hex, hex_bytes, hex_in}
use Rattle.schedule.specs.Line.{submitted, handed, with_two, command_of, payload_of}

pub command_if : (t : Bool) (a b : Option Event) → command_of (when t then a else b) ≡ when t then command_of a else command_of b
unfolding when◌then◌else◌
command_if true a b = refl
command_if false a b = refl

-- a submit: both fields are read, or one is of another form
module _ (a b : List ℕ) where
  pub submit_read : (i : ℕ) → number_in a ≡ Some i → is_hex b ≡ true → submitted (number_in a) (hex_in b) ≡ Some (submit i (hex_bytes b))
  unfolding submitted when◌then◌else◌
  submit_read i e h = rw (e, h)

  pub submit_no_payload : (i : ℕ) → number_in a ≡ Some i → is_hex b ≡ false → submitted (number_in a) (hex_in b) ≡ None
  unfolding submitted when◌then◌else◌
  submit_no_payload i e h = rw (e, h)

  pub submit_no_number : number_in a ≡ None → submitted (number_in a) (hex_in b) ≡ None
  unfolding submitted
  submit_no_number e = rw e

-- a packet handed over lays no payload
pub hand_payload : (k i : Option ℕ) → payload_of (handed k i) ≡ []
unfolding handed payload_of
hand_payload None i = refl
hand_payload (Some k) None = refl
hand_payload (Some k) (Some i) = refl

-- the letter before two fields
module _ (a b : List ℕ) where
  pub two_none : with_two None a b ≡ None
  unfolding with_two is_letter when◌then◌else◌
  two_none = refl

  pub two_submit : with_two (Some (code "S")) a b ≡ submitted (number_in a) (hex_in b)
  unfolding with_two is_letter when◌then◌else◌
  two_submit = refl

  pub two_hand : with_two (Some (code "M")) a b ≡ handed (number_in a) (number_in b)
  unfolding with_two is_letter when◌then◌else◌
  two_hand = refl

  pub two_other : (letter : ℕ) → (letter ≡ code "S" → ⊥) → (letter ≡ code "M" → ⊥) → with_two (Some letter) a b ≡ None
  unfolding with_two is_letter
  two_other letter n m = sym (when_ne letter (code "S") _ _ _ n (when_ne letter (code "M") _ _ None m refl))
