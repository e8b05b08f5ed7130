-- Lines, fields, numbers and hex, each computed: those that are read as what they say, and those of another form. Assumes
-- nothing.
use mathlib.Core.Path.{◌≡◌, refl}
use mathlib.Core.List.{[], ◌∷◌, map}
use Rattle.std.specs.Prelude.{None, Some}
use Prim.Native.String.{String}
use lib.ListN.{replicate}
use Rattle.group.specs.Choice.{when◌then◌else◌}
use Rattle.group.specs.Fold.{all}
use Rattle.text.specs.Text.{text_of, digit_of, glyph_of}
use Rattle.text.specs.Field.{before, lines_of, fields_of, letter_of, is_letter, value_from, up_to_largest, number_in, pairs_of, is_hex, hex_bytes, hex_in}
use Rattle.text.specs.Written.{decimal_digits, decimal_of, hex_of, payload_text, spaced, line}

-- a line feed at the end begins no line; an empty line is one
lines : map (λ (input : String). lines_of (text_of input)) ("" ∷ "P" ∷ "P\n" ∷ "P\n\n" ∷ "N 1 7\nP" ∷ [])
    ≡ [] ∷ (text_of "P" ∷ []) ∷ (text_of "P" ∷ []) ∷ (text_of "P" ∷ [] ∷ []) ∷ (text_of "N 1 7" ∷ text_of "P" ∷ []) ∷ []
unfolding lines_of before when◌then◌else◌
lines = refl

-- one space parts fields: two have an empty one between them
fields : map (λ (line : String). fields_of (text_of line)) ("" ∷ "P" ∷ "M 1 12" ∷ "R  1" ∷ "P " ∷ [])
    ≡ ([] ∷ []) ∷ (text_of "P" ∷ []) ∷ (text_of "M" ∷ text_of "1" ∷ text_of "12" ∷ []) ∷ (text_of "R" ∷ [] ∷ text_of "1" ∷ []) ∷ (text_of "P" ∷ [] ∷ []) ∷ []
unfolding fields_of before when◌then◌else◌
fields = refl

-- numbers up to the largest, with leading zeros; one over the largest, of other characters or of none is of another form
numbers : map (λ (field : String). number_in (text_of field)) ("0" ∷ "4294967295" ∷ "0000000000000000000007" ∷ "4294967296" ∷ "-1" ∷ "a" ∷ "" ∷ [])
    ≡ Some 0 ∷ Some 4294967295 ∷ Some 7 ∷ replicate 4 None
unfolding number_in up_to_largest value_from digit_of all when◌then◌else◌
numbers = refl

-- hex in lower case, `-` for none; in upper case, of an odd number of digits or of none it is of another form
hexes : map (λ (field : String). hex_in (text_of field)) ("6162" ∷ "00ff" ∷ "-" ∷ "6A" ∷ "616" ∷ "" ∷ "--" ∷ [])
    ≡ Some (0x61 ∷ 0x62 ∷ []) ∷ Some (0 ∷ 0xff ∷ []) ∷ Some [] ∷ replicate 4 None
unfolding letter_of is_letter digit_of all is_hex hex_bytes pairs_of when◌then◌else◌
hexes = refl

-- a line of them
written : line (text_of "S" ∷ decimal_of 0 ∷ decimal_of 201 ∷ payload_text (0x61 ∷ 0xff ∷ []) ∷ payload_text [] ∷ []) ≡ text_of "S 0 201 61ff -\n"
unfolding spaced decimal_of decimal_digits glyph_of payload_text hex_of when◌then◌else◌
written = refl
