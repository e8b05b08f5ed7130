-- How an answer crosses the boundary: by its wording, as a code and numbers.
use Rattle.std.specs.Prelude.{Bool, true, false, List, [], ◌∷◌, ℕ, get_or}
use Prim.Native.Char.{code}
use Prim.Native.String as string
use Prim.Native.String.{String}
use Rattle.group.specs.Choice.{when◌then◌else◌, ◌=?◌}
use Rattle.group.specs.Wording.{Value, Wording}
use Rattle.embedding.specs.declared.Answer.{Answer}

-- two words are the same, character for character
unfoldable pub same : String → String → Bool
same string.[] string.[] = true
same string.[] (string.◌∷◌ d rest) = false
same (string.◌∷◌ c rest) string.[] = false
same (string.◌∷◌ c rest) (string.◌∷◌ d rest') = when code c =? code d then same rest rest' else false

-- the code of each word; 0 for one that no call here answers
unfoldable pub word_code : String → ℕ
word_code w =
    when same w "kept" then 48 else
    when same w "none" then 54 else
    when same w "closed" then 57 else
    when same w "bytes" then 58 else
    when same w "fields" then 59 else
    when same w "read" then 60 else
    when same w "right" then 61 else
    when same w "wrong" then 62 else
    when same w "added" then 64 else
    when same w "given" then 65 else
    0

-- the code of a refusal is its number
unfoldable pub code_of : Wording → ℕ
code_of (Wording.refusal k) = k
code_of (Wording.word w values) = word_code w

-- the numbers among the values of an answer
unfoldable pub numbers_in : List Value → List ℕ
numbers_in [] = []
numbers_in (Value.number n ∷ rest) = n ∷ numbers_in rest
numbers_in (Value.payload ∷ rest) = numbers_in rest
numbers_in (Value.more m ∷ rest) = numbers_in rest
numbers_in (Value.packet ∷ rest) = numbers_in rest
numbers_in (Value.any_packet ∷ rest) = numbers_in rest

unfoldable pub numbers_of : Wording → List ℕ
numbers_of (Wording.refusal k) = []
numbers_of (Wording.word w values) = numbers_in values

-- an answer of one number or none
unfoldable pub answer_of : Wording → Answer
answer_of w = record { code = code_of w; number = get_or (numbers_of w) 0 0 }
