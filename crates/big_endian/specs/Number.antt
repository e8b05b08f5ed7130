-- Big-endian numbers: k bytes, the highest first.
use Rattle.std.specs.Prelude.{List, [], ◌∷◌, ◌++◌, ℕ, zero, suc, ◌+◌, ◌*◌, ◌/◌, ◌%◌, get_or}

-- the number that stands in the k bytes from index i on
unfoldable pub number_at : ℕ → List ℕ → ℕ → ℕ
number_at zero p i = 0
number_at (suc k) p i = number_at k p i * 256 + get_or p (i + k) 0

-- the k bytes of a number
unfoldable pub bytes_of : ℕ → ℕ → List ℕ
bytes_of zero v = []
bytes_of (suc k) v = bytes_of k (v / 256) ++ (v % 256 ∷ [])
