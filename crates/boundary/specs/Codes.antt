-- How the answers of reading and writing cross the boundary: as numbers, by their wording.
use Rattle.std.specs.Prelude.{List, ℕ, get_or}
use Rattle.group.specs.Codes.{code_of, numbers_in}
use Rattle.group.specs.Wording.{Wording}
use Rattle.packet.specs.Wording.{reading_wording, writing_wording}
use Rattle.packet.specs.declared.Header.{Header}
use Rattle.packet.specs.Answers.{Reading}
use Rattle.packet.specs.Answers.{Writing}

-- the lent numbers after the answer: its own; where it is a refusal they keep their values
unfoldable pub numbers_after : Wording → List ℕ → List ℕ
numbers_after (Wording.refusal k) lent = lent
numbers_after (Wording.word w values) lent = numbers_in values

-- the first number of the answer, else the number of the refusal
unfoldable pub first_number : Wording → ℕ
first_number (Wording.refusal k) = k
first_number (Wording.word w values) = get_or (numbers_in values) 0 0

-- 0 for fields, else the number of the refusal
abbrev pub read_code : Reading → ℕ
read_code reading = code_of (reading_wording reading)

-- the lent fields after reading: kind, member, group, A, B, C; where it is refused they keep their values
abbrev pub fields_after : Reading → List ℕ → List ℕ
fields_after reading lent = numbers_after (reading_wording reading) lent

-- how many bytes were written, at least 20, else the number of the refusal, at most 18
abbrev pub write_code : Writing → ℕ
write_code writing = first_number (writing_wording writing)

-- the fields of a header
unfoldable pub header_with : ℕ → ℕ → ℕ → ℕ → ℕ → ℕ → Header
header_with kind member group a b c =
    record { kind = kind; member = record { 0 = member }; group = group; a = a; b = b; c = c }
