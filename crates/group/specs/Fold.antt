-- Going through a table entry by entry, and through the numbers above a number one by one.
use Rattle.std.specs.Prelude.{Bool, true, List, [], ◌∷◌, ℕ, zero, suc, ◌+◌}
use Rattle.group.specs.Choice.{when◌then◌else◌, ◌and◌, ◌<?◌}

-- whether `test` holds of each entry, where the first stands at index i
unfoldable pub all : {A : Type 0} → (ℕ → A → Bool) → ℕ → List A → Bool
all test i [] = true
all test i (x ∷ rest) = test i x and all test (i + 1) rest

-- whether `test` holds of each of the k numbers above f
unfoldable pub all_above : (ℕ → Bool) → ℕ → ℕ → Bool
all_above test f zero = true
all_above test f (suc k) = test (f + 1) and all_above test (f + 1) k

-- the smaller of m and the smallest of what `value` says of each entry that `test` chooses by its index, where the first stands at index i
unfoldable pub least_of : {A : Type 0} → (ℕ → Bool) → (A → ℕ) → ℕ → ℕ → List A → ℕ
least_of test value i m [] = m
least_of test value i m (x ∷ rest) = least_of test value (i + 1) (when test i and value x <? m then value x else m) rest
