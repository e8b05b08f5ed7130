-- Texts as bytes, and the characters that lines are made of.
use Rattle.std.specs.Prelude.{List, [], ◌∷◌, ℕ, ◌+◌, ◌-◌}
use Prim.Native.Char.{code}
use Prim.Native.String as string
use Prim.Native.String.{String}
use Rattle.group.specs.Choice.{when◌then◌else◌, ◌<?◌, ◌≤?◌}

-- the bytes of a text
abbrev pub text_of : String → List ℕ
text_of string.[] = []
text_of (string.◌∷◌ c rest) = code c ∷ text_of rest

-- one space parts fields
abbrev pub space : ℕ
space = code " "

-- a line is what stands before its line feed
abbrev pub line_feed : ℕ
line_feed = code "\n"

-- what stands for an empty payload
abbrev pub dash : ℕ
dash = code "-"

-- the base of a payload's digits; that of a number's is ten
abbrev pub hex_base : ℕ
hex_base = 16

-- what a digit is worth, `0` to `9` and then `a` to `f`; the base for any other character
unfoldable pub digit_of : ℕ → ℕ
digit_of c =
    when c <? code "0" then hex_base else
    when c ≤? code "9" then c - code "0" else
    when c <? code "a" then hex_base else
    when c ≤? code "f" then c - code "a" + 10 else
    hex_base

-- the digit that is worth d, `0` to `9` and then `a` to `f`
unfoldable pub glyph_of : ℕ → ℕ
glyph_of d = when d <? 10 then code "0" + d else code "a" + (d - 10)
