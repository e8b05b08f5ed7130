-- From the fields of a line to what it means: how many there are decides. Assumes nothing.
use mathlib.Core.Path.{◌≡◌, refl, sym, ap, ◌∙◌}
use mathlib.Core.Bool.{Bool, true, false}
use mathlib.Core.Logic.{◌⊎◌, inl, inr}
use mathlib.Core.List.{List, []}
use Rattle.std.specs.Prelude.{Option, None, Some}
use Prim.Native.Char.{code}
use Prim.Native.Nat.{ℕ, ◌+◌, ◌≤◌, ◌<◌}
use lib.ListN.{length, drop}
use Rattle.group.specs.Choice.{when◌then◌else◌, ◌=?◌}
use Rattle.group.proofs.Choice.{when_le, when_nle}
use Rattle.reset.specs.World.{Event, repeat, take, status, poll, copy, hand_member, hand_sequencer, invite, make}
use Rattle.schedule.specs.Line.{line_most}
use Rattle.schedule.specs.Parts.{parts_at}
use Rattle.schedule.specs.declared.Parts.{Parts}
use Rattle.schedule.specs.declared.Parts.TheVariants.{One, More}
use Rattle.schedule.proofs.Forms.{fields_some}
use Rattle.text.specs.Field.{fields_of}
use Rattle.reset_schedule.specs.Line.{with_number, with_numbers, form_of, event_of, payload_of}

-- a line within the limit is what its fields say, one over it is of another form
module _ (line : List ℕ) where
  pub event_by : (p : Parts) → length line ≤ line_most → fields_of line ≡ parts_at p line → event_of line ≡ form_of (parts_at p line)
  unfolding event_of
  event_by p h e = sym (when_le (length line) line_most (form_of (parts_at p line)) (form_of (fields_of line)) None h (ap form_of (sym e)))

  pub event_long : line_most < length line → event_of line ≡ None
  unfolding event_of
  event_long h = sym (when_nle (length line) line_most None (form_of (fields_of line)) None h refl)

  -- one field, or four or more, are no event
  pub event_none : (p : Parts) → length line ≤ line_most → fields_of line ≡ parts_at p line → (p ≡ One) ⊎ ((a b c : ℕ) × (p ≡ More a b c)) → event_of line ≡ None
  unfolding parts_at form_of
  event_none p h e (inl f) = event_by One h (rw f at e)
  event_none p h e (inr (a, b, c, f)) = event_by (More a b c) h (rw f at e) ∙ rw (fields_some (drop (c + 1) line)).2

-- what lays no payload, chosen from what lays None
payload_if : (t : Bool) (a b : Option Event) → payload_of a ≡ [] → payload_of b ≡ [] → payload_of (when t then a else b) ≡ []
unfolding when◌then◌else◌
payload_if true a b e f = e
payload_if false a b e f = f

-- a line of numbers alone lays no payload
pub number_payload : (letter x : Option ℕ) → payload_of (with_number letter x) ≡ []
unfolding with_number payload_of
number_payload None x = refl
number_payload (Some letter) None = refl
number_payload (Some letter) (Some x) =
    payload_if (letter =? code "R") (Some (repeat x)) _ refl
    (payload_if (letter =? code "T") (Some (take x)) _ refl
    (payload_if (letter =? code "A") (Some (status x)) _ refl
    (payload_if (letter =? code "P") (Some (poll x)) None refl refl)))

pub numbers_payload : (letter x y : Option ℕ) → payload_of (with_numbers letter x y) ≡ []
unfolding with_numbers payload_of
numbers_payload None x y = refl
numbers_payload (Some letter) None y = refl
numbers_payload (Some letter) (Some x) None = refl
numbers_payload (Some letter) (Some x) (Some y) =
    payload_if (letter =? code "M") (Some (hand_member x y)) _ refl
    (payload_if (letter =? code "Q") (Some (hand_sequencer x y)) _ refl
    (payload_if (letter =? code "C") (Some (copy x y)) _ refl
    (payload_if (letter =? code "I") (Some (invite x y)) _ refl
    (payload_if (letter =? code "G") (Some (make x y)) None refl refl))))
