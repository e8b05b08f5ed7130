-- The lines of an input, the fields of a line, and what a field holds.
use Rattle.std.specs.Prelude.{Bool, true, false, Option, None, Some, List, [], ◌∷◌, ℕ, ◌+◌, ◌*◌, ◌%◌, length}
use Rattle.group.specs.Choice.{when◌then◌else◌, ask◌or◌then◌, ◌and◌, ◌<?◌, ◌≤?◌, ◌=?◌}
use Rattle.group.specs.Fold.{all}
use Rattle.group.specs.Limits.{largest_number}
use Rattle.text.specs.Text.{space, line_feed, dash, hex_base, digit_of}

-- where a character first stands, if the list begins at index i
unfoldable pub first_from : ℕ → ℕ → List ℕ → Option ℕ
first_from character i [] = None
first_from character i (c ∷ rest) = when c =? character then Some i else first_from character (i + 1) rest

-- where the first line ends
abbrev pub line_end : List ℕ → Option ℕ
line_end input = first_from line_feed 0 input

-- a character before the first of the parts
unfoldable pub before : ℕ → List (List ℕ) → List (List ℕ)
before c [] = (c ∷ []) ∷ []
before c (part ∷ rest) = (c ∷ part) ∷ rest

-- a line is what stands before its line feed; what stands behind the last line feed is a line too, unless it is empty
unfoldable pub lines_of : List ℕ → List (List ℕ)
lines_of [] = []
lines_of (c ∷ rest) = when c =? line_feed then [] ∷ lines_of rest else before c (lines_of rest)

-- one space parts fields
unfoldable pub fields_of : List ℕ → List (List ℕ)
fields_of [] = [] ∷ []
fields_of (c ∷ rest) = when c =? space then [] ∷ fields_of rest else before c (fields_of rest)

-- the character that a field is; none for a field of none or several
unfoldable pub letter_of : List ℕ → Option ℕ
letter_of [] = None
letter_of (c ∷ []) = Some c
letter_of (c ∷ (d ∷ rest)) = None

-- whether there is a character, and it is that one
unfoldable pub is_letter : ℕ → Option ℕ → Bool
is_letter character None = false
is_letter character (Some c) = c =? character

-- whether every character is a digit of that base
abbrev pub digits_of : ℕ → List ℕ → Bool
digits_of base field = all (λ i c. digit_of c <? base) 0 field

-- what digits come to, the highest first, where those before them come to v
unfoldable pub value_from : ℕ → List ℕ → ℕ
value_from v [] = v
value_from v (c ∷ rest) = value_from (v * 10 + digit_of c) rest

-- up to the largest
unfoldable pub up_to_largest : ℕ → Option ℕ
up_to_largest v = ask v ≤? largest_number or None then Some v

-- numbers are digits, up to the largest; only the value counts
unfoldable pub number_in : List ℕ → Option ℕ
number_in field =
    ask 1 ≤? length field or None then
    ask digits_of 10 field or None then
    up_to_largest (value_from 0 field)

-- the bytes that pairs of digits come to
unfoldable pub pairs_of : List ℕ → List ℕ
pairs_of [] = []
pairs_of (c ∷ []) = []
pairs_of (c ∷ (d ∷ rest)) = (digit_of c * hex_base + digit_of d) ∷ pairs_of rest

-- hex is lower case, two digits a byte, and `-` for empty
unfoldable pub is_hex : List ℕ → Bool
is_hex field =
    when is_letter dash (letter_of field) then true else
    1 ≤? length field and length field % 2 =? 0 and digits_of hex_base field

unfoldable pub hex_bytes : List ℕ → List ℕ
hex_bytes field = when is_letter dash (letter_of field) then [] else pairs_of field

abbrev pub hex_in : List ℕ → Option (List ℕ)
hex_in field = ask is_hex field or None then Some (hex_bytes field)
