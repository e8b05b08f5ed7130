-- From the fields of a line to what it means: how many there are decides. Assumes nothing.
use mathlib.Core.Path.{◌≡◌, refl, sym, ap}
use mathlib.Core.Bool.{Bool, true, false}
use mathlib.Core.Logic.{◌⊎◌, inl, inr}
use mathlib.Core.List.{List, [], ◌∷◌}
use Rattle.std.specs.Prelude.{Option, None, Some}
use Prim.Native.Char.{code}
use Prim.Native.Nat.{ℕ, ◌+◌, ◌-◌, ◌≤◌, ◌<◌}
use native.Mathlib.Omega.{arith}
use lib.ListN as list
use lib.ListN.{length, drop, length-drop}
use lib.Seq.{take_all}
use Rattle.group.specs.Choice.{when◌then◌else◌, ◌=?◌}
use Rattle.group.proofs.Choice.{when_le, when_nle}
use Rattle.model.specs.World.{repeat, take, status, poll, copy, hand_sequencer}
use Rattle.text.specs.Text.{space}
use Rattle.schedule.specs.Line.{line_most, alone, with_number, form_of, event_of, payload_of, opening_form, opening_of}
use Rattle.text.specs.Field.{before, fields_of, is_letter}
use Rattle.schedule.specs.Parts.{parts_at}
use Rattle.schedule.specs.Steps.{four_at}
use Rattle.schedule.specs.declared.Parts.{Parts}
use Rattle.schedule.specs.declared.Parts.TheVariants.{One, Two, More}

-- the part of a slice up to its end
pub to_end : (l : List ℕ) (k : ℕ) → list.take (length l - k) (drop k l) ≡ drop k l
to_end l k = take_all (length l - k) (drop k l) (simp length-drop (omega arith))

-- a line within the limit is what its fields say, one over it is of another form
module _ (line : List ℕ) where
  pub event_by : (p : Parts) → length line ≤ line_most → fields_of line ≡ parts_at p line → event_of line ≡ form_of (parts_at p line)
  unfolding event_of
  event_by p h e = sym (when_le (length line) line_most (form_of (parts_at p line)) (form_of (fields_of line)) None h (ap form_of (sym e)))

  pub event_long : line_most < length line → event_of line ≡ None
  unfolding event_of
  event_long h = sym (when_nle (length line) line_most None (form_of (fields_of line)) None h refl)

  pub opening_by : (p : Parts) → length line ≤ line_most → fields_of line ≡ parts_at p line → opening_of line ≡ opening_form (parts_at p line)
  unfolding opening_of
  opening_by p h e = sym (when_le (length line) line_most (opening_form (parts_at p line)) (opening_form (fields_of line)) None h (ap opening_form (sym e)))

  -- fewer than three fields open no group
  pub opening_few : (p : Parts) → length line ≤ line_most → fields_of line ≡ parts_at p line → (p ≡ One) ⊎ ((a : ℕ) × (p ≡ Two a)) → None ≡ opening_of line
  unfolding parts_at opening_form
  opening_few p h e (inl f) = sym (opening_by One h (rw f at e))
  opening_few p h e (inr (a, f)) = sym (opening_by (Two a) h (rw f at e))

  pub opening_long : line_most < length line → opening_of line ≡ None
  unfolding opening_of
  opening_long h = sym (when_nle (length line) line_most None (opening_form (fields_of line)) None h refl)

-- there is a field, so four or more are no event
pub fields_some : (l : List ℕ) → (field : List ℕ) × (rest : List (List ℕ)) × (fields_of l ≡ field ∷ rest)
unfolding fields_of when◌then◌else◌ before
fields_some [] = ([], [], refl)
fields_some (c ∷ l) = go (c =? space) (fields_of l)
  where
    go : (t : Bool) (r : List (List ℕ)) → (field : List ℕ) × (rest : List (List ℕ)) × (when t then [] ∷ r else before c r ≡ field ∷ rest)
    go true r = ([], r, refl)
    go false [] = (c ∷ [], [], refl)
    go false (f ∷ r) = (c ∷ f, r, refl)

module _ (line : List ℕ) (a b c : ℕ) where
  pub more_event : form_of (parts_at (More a b c) line) ≡ None
  unfolding parts_at form_of
  more_event = rw (fields_some (drop (c + 1) line)).2

  -- four fields, where no space stands behind the third
  pub four_opening : fields_of (drop (c + 1) line) ≡ drop (c + 1) line ∷ [] → opening_form (parts_at (More a b c) line) ≡ opening_form (four_at a b c line)
  unfolding parts_at four_at
  four_opening e = rw e

  -- five or more, where one does
  pub more_opening : (d : ℕ) → fields_of (drop (c + 1) line) ≡ list.take (d - (c + 1)) (drop (c + 1) line) ∷ fields_of (drop (d + 1) line)
      → opening_form (parts_at (More a b c) line) ≡ None
  unfolding parts_at opening_form
  more_opening d e = rw (e, (fields_some (drop (d + 1) line)).2)

-- a line of one or two fields lays no payload
pub alone_payload : (letter : Option ℕ) → payload_of (alone letter) ≡ []
unfolding alone payload_of when◌then◌else◌
alone_payload letter = go (is_letter (code "P") letter)
  where
    go : (t : Bool) → payload_of (when t then Some poll else None) ≡ []
    go true = refl
    go false = refl

pub number_payload : (letter x : Option ℕ) → payload_of (with_number letter x) ≡ []
unfolding with_number payload_of when◌then◌else◌
number_payload None x = refl
number_payload (Some letter) None = refl
number_payload (Some letter) (Some x) = go (letter =? code "R") (letter =? code "T") (letter =? code "A") (letter =? code "C") (letter =? code "Q")
  where
    go : (r t a c q : Bool) → payload_of (when r then Some (repeat x) else when t then Some (take x) else when a then Some (status x) else when c then Some (copy x) else when q then Some (hand_sequencer x) else None) ≡ []
    go true t a c q = refl
    go false true a c q = refl
    go false false true c q = refl
    go false false false true q = refl
    go false false false false true = refl
    go false false false false false = refl
