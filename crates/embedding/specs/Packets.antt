-- Packets by their fields.
use Rattle.std.specs.Prelude.{Ok, Err}
use Rattle.std.specs.Prelude.{List, ℕ}
use Rattle.packet.specs.Wording.{reading_wording}
use Rattle.packet.specs.declared.Header.{Header}
use Rattle.packet.specs.Answers.{Reading}
use Rattle.embedding.specs.Codes.{code_of, numbers_of}

abbrev pub read_code : Reading → ℕ
read_code reading = code_of (reading_wording reading)

-- the lent fields after reading: kind, member, group, A, B, C; where it is refused they keep their values
unfoldable pub fields_after : Reading → List ℕ → List ℕ
fields_after (Ok h) lent = numbers_of (reading_wording (Ok h))
fields_after (Err r) lent = lent

-- the header with those fields
unfoldable pub header_with : ℕ → ℕ → ℕ → ℕ → ℕ → ℕ → Header
header_with kind member group a b c =
    record { kind = kind; member = record { 0 = member }; group = group; a = a; b = b; c = c }
