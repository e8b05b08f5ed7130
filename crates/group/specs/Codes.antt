-- How an answer crosses to a program in another language: as numbers, by its wording.
use Rattle.std.specs.Prelude.{Bool, true, false, List, [], ◌∷◌, ℕ}
use Prim.Native.String.{String}
use lib.Text.{eqt}
use Rattle.group.specs.Choice.{when◌then◌else◌}
use Rattle.group.specs.Wording.{Value, Wording}

-- the numbers among the values of an answer
unfoldable pub numbers_in : List Value → List ℕ
numbers_in [] = []
numbers_in (Value.number n ∷ rest) = n ∷ numbers_in rest
numbers_in (Value.payload ∷ rest) = numbers_in rest
numbers_in (Value.more m ∷ rest) = numbers_in rest
numbers_in (Value.packet ∷ rest) = numbers_in rest
numbers_in (Value.any_packet ∷ rest) = numbers_in rest

unfoldable pub flag_of : Bool → ℕ
flag_of true = 1
flag_of false = 0

-- 1 where the following number is held, 0 where it is not or nothing is said of it
unfoldable pub more_in : List Value → ℕ
more_in [] = 0
more_in (Value.number n ∷ rest) = more_in rest
more_in (Value.payload ∷ rest) = more_in rest
more_in (Value.more m ∷ rest) = flag_of m
more_in (Value.packet ∷ rest) = more_in rest
more_in (Value.any_packet ∷ rest) = more_in rest

-- the code of a word that a call of an end answers with, above the numbers of all refusals; 0 for any other word, whose values say all
unfoldable pub word_code : String → ℕ
word_code w =
    when eqt w "old" then 32 else
    when eqt w "full" then 33 else
    when eqt w "noted" then 34 else
    when eqt w "sent" then 35 else
    when eqt w "again" then 36 else
    when eqt w "numbered" then 37 else
    when eqt w "wanted" then 38 else
    when eqt w "accepted" then 39 else
    when eqt w "marked" then 40 else
    when eqt w "kept" then 48 else
    when eqt w "keptgap" then 49 else
    when eqt w "beyond" then 50 else
    when eqt w "beyondgap" then 51 else
    when eqt w "gap" then 52 else
    when eqt w "status" then 53 else
    when eqt w "none" then 54 else
    when eqt w "took" then 55 else
    when eqt w "queued" then 56 else
    0

-- the number of a refusal, else the code of the word
unfoldable pub code_of : Wording → ℕ
code_of (Wording.refusal k) = k
code_of (Wording.word w values) = word_code w

-- the numbers of an answer
unfoldable pub numbers_of : Wording → List ℕ
numbers_of (Wording.refusal k) = []
numbers_of (Wording.word w values) = numbers_in values

-- whether the following number is held
unfoldable pub more_of : Wording → ℕ
more_of (Wording.refusal k) = 0
more_of (Wording.word w values) = more_in values
