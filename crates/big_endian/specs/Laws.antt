-- What is proved of big-endian numbers: one law each way, over the width. `proofs/Number.antt` has a proof of each statement.
use Rattle.std.specs.Prelude.{◌≡◌, List, ◌++◌, ℕ, ◌+◌, ◌^◌, ◌≤◌, ◌<◌, length, get_or, take, drop}
use Rattle.big_endian.specs.Number.{number_at, bytes_of}

-- the bytes of a list are bytes
unfoldable pub Bytes : List ℕ → Type 0
Bytes p = (i : ℕ) → i < length p → get_or p i 0 < 256

-- the number in the k bytes of a number that fits them is that number
abbrev pub NumberOfBytes : Type 0
NumberOfBytes = (k v : ℕ) (rest : List ℕ) → v < 256 ^ k → number_at k (bytes_of k v ++ rest) 0 ≡ v

-- the bytes of the number in k bytes are those bytes
abbrev pub BytesOfNumber : Type 0
BytesOfNumber = (p : List ℕ) → Bytes p → (k i : ℕ) → i + k ≤ length p → bytes_of k (number_at k p i) ≡ take k (drop i p)
