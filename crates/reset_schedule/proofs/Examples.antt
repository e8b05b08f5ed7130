-- Lines of every form, and of another form, each computed. Assumes nothing.
use mathlib.Core.Path.{◌≡◌, refl}
use mathlib.Core.List.{[], ◌∷◌, ◌++◌, map}
use Rattle.std.specs.Prelude.{None, Some}
use Prim.Native.Char.{code}
use Prim.Native.String.{String}
use lib.ListN.{replicate}
use Rattle.group.specs.Choice.{when◌then◌else◌}
use Rattle.group.specs.Fold.{all}
use Rattle.reset.specs.World.{submit, repeat, take, status, poll, copy, hand_member, hand_sequencer, invite, make}
use Rattle.text.specs.Text.{text_of, digit_of}
use Rattle.text.specs.Field.{before, fields_of, letter_of, is_letter, value_from, up_to_largest, number_in, pairs_of, is_hex, hex_bytes}
use Rattle.reset_schedule.specs.Line.{with_number, submitted, with_numbers, with_two, form_of, event_of}

-- every form, and numbers up to the largest
forms : map (λ (line : String). event_of (text_of line))
    ("S 1 6162" ∷ "S 0 -" ∷ "R 2" ∷ "T 1" ∷ "A 3" ∷ "P 1" ∷ "C 1 7" ∷ "M 4 1" ∷ "Q 0 2" ∷ "I 1 8" ∷ "G 1 2" ∷ "I 4294967295 4294967295" ∷ "G 01 002" ∷ [])
    ≡ Some (submit 1 (0x61 ∷ 0x62 ∷ []))
    ∷ Some (submit 0 [])
    ∷ Some (repeat 2)
    ∷ Some (take 1)
    ∷ Some (status 3)
    ∷ Some (poll 1)
    ∷ Some (copy 1 7)
    ∷ Some (hand_member 4 1)
    ∷ Some (hand_sequencer 0 2)
    ∷ Some (invite 1 8)
    ∷ Some (make 1 2)
    ∷ Some (invite 4294967295 4294967295)
    ∷ Some (make 1 2)
    ∷ []
unfolding event_of form_of fields_of before letter_of is_letter with_number submitted with_numbers with_two number_in up_to_largest value_from digit_of all is_hex hex_bytes pairs_of when◌then◌else◌
forms = refl

-- of another form: `play`'s poll, copy and handing over, which name no terminal; a field missing or too many, a number over the largest or
-- of other characters, hex where a number stands, another letter
others : map (λ (line : String). event_of (text_of line))
    ("" ∷ "P" ∷ "C 7" ∷ "Q 0" ∷ "I 1" ∷ "G 1" ∷ "M 1" ∷ "I 1 8 9" ∷ "G 1 2 " ∷ "P 1 2" ∷ "I 1 4294967296" ∷ "I 1 -" ∷ "G 1 ab" ∷ "S 1 6A" ∷ "S 1 616" ∷ "i 1 8" ∷ "K 1 2" ∷ "N 3 7" ∷ [])
    ≡ replicate 18 None
unfolding event_of form_of fields_of before letter_of is_letter with_number submitted with_numbers with_two number_in up_to_largest value_from digit_of all is_hex hex_bytes pairs_of when◌then◌else◌
others = refl

-- 1,000 characters, and one more
long : (event_of (text_of "P " ++ replicate 998 (code "0")) ≡ Some (poll 0)) × (event_of (text_of "P " ++ replicate 999 (code "0")) ≡ None)
unfolding event_of form_of fields_of before letter_of is_letter with_number number_in up_to_largest value_from digit_of all when◌then◌else◌
long = (refl, refl)
