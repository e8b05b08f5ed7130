-- Lines of every form, and of another form, each computed: the lines of document 01's schedule among them. Assumes nothing.
use mathlib.Core.Path.{◌≡◌, refl}
use mathlib.Core.List.{[], ◌∷◌, ◌++◌, map}
use Rattle.std.specs.Prelude.{None, Some}
use Prim.Native.Char.{code}
use Prim.Native.Nat.{ℕ}
use Prim.Native.String.{String}
use lib.ListN.{replicate}
use Rattle.group.specs.Choice.{when◌then◌else◌}
use Rattle.group.specs.Fold.{all}
use Rattle.model.specs.World.{submit, repeat, take, status, poll, copy, hand_member, hand_sequencer}
use Rattle.text.specs.Text.{text_of, digit_of}
use Rattle.text.specs.Field.{before, fields_of, letter_of, is_letter, value_from, up_to_largest, number_in, pairs_of, is_hex, hex_bytes}
use Rattle.schedule.specs.Line.{alone, with_number, submitted, handed, with_two, form_of, event_of, opened, opening_with, opening_form, opening_of}
use Rattle.schedule.specs.declared.Opening.{Opening}

-- every form; numbers up to the largest, leading zeros, a payload that a member will refuse, and None
forms : map (λ (line : String). event_of (text_of line))
    ("S 1 6162" ∷ "S 0 -" ∷ "S 0 00ff" ∷ "R 2" ∷ "T 1" ∷ "A 3" ∷ "P" ∷ "C 7" ∷ "M 1 1" ∷ "Q 0" ∷ "R 4294967295" ∷ "R 0000000000000000000000000000000000000007" ∷ [])
    ≡ Some (submit 1 (0x61 ∷ 0x62 ∷ []))
    ∷ Some (submit 0 [])
    ∷ Some (submit 0 (0 ∷ 0xff ∷ []))
    ∷ Some (repeat 2)
    ∷ Some (take 1)
    ∷ Some (status 3)
    ∷ Some poll
    ∷ Some (copy 7)
    ∷ Some (hand_member 1 1)
    ∷ Some (hand_sequencer 0)
    ∷ Some (repeat 4294967295)
    ∷ Some (repeat 7)
    ∷ []
unfolding event_of form_of fields_of before letter_of is_letter alone with_number submitted handed with_two number_in up_to_largest value_from digit_of all is_hex hex_bytes pairs_of when◌then◌else◌
forms = refl

-- of another form: no line, a space too many or too few, a field missing or too many, a number over the largest or of other
-- characters, hex in upper case, of an odd number of digits or of None, a carriage return, another letter
others : map (λ (line : String). event_of (text_of line))
    ("" ∷ " " ∷ " P" ∷ "P " ∷ "R  1" ∷ "R1" ∷ "R" ∷ "R 1 2" ∷ "S 1" ∷ "M 1" ∷ "M 1 2 3" ∷ "R " ∷ "R 4294967296" ∷ "R 99999999999999999999999999999999999999999" ∷ "R -1" ∷ "R +1" ∷ "R a"
    ∷ "S 1 6A" ∷ "S 1 616" ∷ "S 1 " ∷ "S 1 --" ∷ "S 1 6g" ∷ "R 1\r" ∷ "r 1" ∷ "X 1" ∷ "N 2 7" ∷ [])
    ≡ replicate 26 None
unfolding event_of form_of fields_of before letter_of is_letter alone with_number submitted handed with_two number_in up_to_largest value_from digit_of all is_hex hex_bytes pairs_of when◌then◌else◌
others = refl

-- 1,000 characters, and one more
long : (event_of (text_of "R " ++ replicate 998 (code "0")) ≡ Some (repeat 0)) × (event_of (text_of "R " ++ replicate 999 (code "0")) ≡ None)
unfolding event_of form_of fields_of before letter_of is_letter with_number number_in up_to_largest value_from digit_of all when◌then◌else◌
long = (refl, refl)

-- the first line
opened_by : ℕ → ℕ → ℕ → Opening
opened_by n number resilience = record { n = n; number = number; resilience = resilience }

openings : map (λ (line : String). opening_of (text_of line)) ("N 2 7" ∷ "N 0 7" ∷ "N 300 4294967295" ∷ "N 2 7 0" ∷ "N 4 7 3" ∷ "N 1 2 4294967295" ∷ "N 1" ∷ "N 1 2 3 4" ∷ "N 1 x" ∷ "N 1 2 x" ∷ "N 1 2 " ∷ "N 1 2 3 " ∷ "P" ∷ "" ∷ [])
    ≡ Some (opened_by 2 7 0) ∷ Some (opened_by 0 7 0) ∷ Some (opened_by 300 4294967295 0) ∷ Some (opened_by 2 7 0) ∷ Some (opened_by 4 7 3) ∷ Some (opened_by 1 2 4294967295) ∷ replicate 8 None
unfolding opened_by opening_of opening_form opening_with opened fields_of before letter_of is_letter number_in up_to_largest value_from digit_of all when◌then◌else◌
openings = refl
