-- What is written is read as what was meant, and the lines of an input stand one behind the other. `proofs/Laws.antt` has the
-- proofs.
use Rattle.std.specs.Prelude.{◌≡◌, true, None, Some, List, [], ◌∷◌, ℕ, ◌+◌, ◌≤◌, length, take, drop}
use Rattle.group.specs.Choice.{◌<?◌}
use Rattle.group.specs.Fold.{all}
use Rattle.group.specs.Limits.{largest_number}
use Rattle.text.specs.Field.{line_end, lines_of, number_in, hex_in}
use Rattle.text.specs.Written.{decimal_of, payload_text}

-- reading the digits of a number gives the number
abbrev pub NumberBack : Type 0
NumberBack = (n : ℕ) → n ≤ largest_number → number_in (decimal_of n) ≡ Some n

-- reading the hex of bytes gives the bytes
abbrev pub PayloadBack : Type 0
PayloadBack = (payload : List ℕ) → all (λ i b. b <? 256) 0 payload ≡ true → hex_in (payload_text payload) ≡ Some payload

-- the first line ends at the first line feed, and the others stand behind it; without one the whole is a line, unless empty
abbrev pub LinesGoOn : Type 0
LinesGoOn =
    (input : List ℕ) (e : ℕ) → line_end input ≡ Some e → lines_of input ≡ take e input ∷ lines_of (drop (e + 1) input)

abbrev pub LinesEnd : Type 0
LinesEnd = (input : List ℕ) → line_end input ≡ None → 1 ≤ length input → lines_of input ≡ input ∷ []
