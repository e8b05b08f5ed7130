-- What reading and writing a packet answer.
use Rattle.std.specs.Prelude.{ℕ, Result}
use Rattle.group.specs.declared.Refusal.{Refusal}
use Rattle.packet.specs.declared.Header.{Header}

-- the fields of a packet that was read, or what is refused
abbrev pub Reading : Type 0
Reading = Result Header Refusal

-- how many bytes were written, or what is refused
abbrev pub Writing : Type 0
Writing = Result ℕ Refusal
