-- Numbers, bytes and lines as they are written.
use Rattle.std.specs.Prelude.{List, [], ◌∷◌, ◌++◌, ℕ, zero, suc, ◌/◌, ◌%◌, length}
use Rattle.group.specs.Choice.{when◌then◌else◌, ◌=?◌}
use Rattle.text.specs.Text.{space, line_feed, dash, hex_base, glyph_of}

-- the digits of a number, the highest first, without leading zeros, so none of 0; it has no more than `most`
unfoldable pub decimal_digits : ℕ → ℕ → List ℕ
decimal_digits zero n = []
decimal_digits (suc most) n = when n =? 0 then [] else decimal_digits most (n / 10) ++ (glyph_of (n % 10) ∷ [])

-- a number in base ten
unfoldable pub decimal_of : ℕ → List ℕ
decimal_of n = when n =? 0 then glyph_of 0 ∷ [] else decimal_digits n n

-- bytes in lower-case hex, two digits a byte
unfoldable pub hex_of : List ℕ → List ℕ
hex_of [] = []
hex_of (b ∷ rest) = glyph_of (b / hex_base) ∷ (glyph_of (b % hex_base) ∷ hex_of rest)

-- a payload, `-` if empty
unfoldable pub payload_text : List ℕ → List ℕ
payload_text payload = when length payload =? 0 then dash ∷ [] else hex_of payload

-- fields, each behind one space
unfoldable pub spaced : List (List ℕ) → List ℕ
spaced [] = []
spaced (field ∷ rest) = space ∷ (field ++ spaced rest)

-- a line: its first field, the others, and the line feed
abbrev pub line : List (List ℕ) → List ℕ
line [] = line_feed ∷ []
line (first ∷ rest) = first ++ (spaced rest ++ (line_feed ∷ []))

-- the most digits of a number up to the largest, and of one of 64 bits, such as an event's number
abbrev pub number_digits : ℕ
number_digits = 10

abbrev pub count_digits : ℕ
count_digits = 20
