-- What a writer leaves: bytes from an index of the lent output on, and where they end.
use Rattle.std.specs.Prelude.{◌≡◌, List, ◌++◌, ℕ, ◌+◌, ◌≤◌, length, take, drop}

-- what stands before the bytes and behind them keeps its value
abbrev pub written_at : ℕ → List ℕ → List ℕ → List ℕ
written_at at bytes lent = take at lent ++ (bytes ++ drop (at + length bytes) lent)

pub record LaidAt (at : ℕ) (bytes lent after : List ℕ) (next : ℕ) : Type 0 where
  pub lays : after ≡ written_at at bytes lent
  pub ends : next ≡ at + length bytes
  pub fits : next ≤ length lent
