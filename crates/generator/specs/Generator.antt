-- From a 32-bit seed: each step adds a number, and the output mixes the state.
use Rattle.std.specs.Prelude.{ℕ, zero, suc, ◌+◌, ◌/◌, ◌%◌, ◌^◌, bit_xor}

-- each step adds 2,654,435,769 modulo 4,294,967,296
abbrev pub increment : ℕ
increment = 2654435769

abbrev pub modulus : ℕ
modulus = 4294967296

unfoldable pub stepped : ℕ → ℕ
stepped state = (state + increment) % modulus

-- the output is the state exclusive-or the state shifted right by 16
unfoldable pub output_of : ℕ → ℕ
output_of state = bit_xor state (state / 2 ^ 16)

-- the state after k steps
unfoldable pub after : ℕ → ℕ → ℕ
after zero state = state
after (suc k) state = after k (stepped state)
