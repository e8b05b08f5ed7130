-- The tally of bytes: two sums modulo 2⁶⁴, as in Fletcher's checksum.
use Rattle.std.specs.Prelude.{ℕ, ◌+◌, ◌%◌, ◌^◌, List, [], ◌∷◌}
use Rattle.descriptor.specs.declared.Tally.{Tally}

abbrev pub nothing : Tally
nothing = record { sum = 0; total = 0 }

-- the sum of the bytes, each with 1
abbrev pub sum_with : Tally → ℕ → ℕ
sum_with t byte = (t.sum + (byte + 1)) % 2 ^ 64

-- with one byte more, which adds the sum to the total
unfoldable pub counted : Tally → ℕ → Tally
counted t byte = record { sum = sum_with t byte; total = (t.total + sum_with t byte) % 2 ^ 64 }

unfoldable pub tallied : Tally → List ℕ → Tally
tallied t [] = t
tallied t (byte ∷ bytes) = tallied (counted t byte) bytes
