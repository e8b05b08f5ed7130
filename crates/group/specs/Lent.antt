-- What a call leaves in the output that was lent to it.
use Rattle.std.specs.Prelude.{◌≡◌, ℕ, List, ◌++◌, length, drop}

-- `bytes` go to the front of the lent output; what stands behind them keeps its value
abbrev pub front : List ℕ → List ℕ → List ℕ
front bytes lent = bytes ++ drop (length bytes) lent

-- bytes were laid at the front of the lent output, and they are as many as was said
pub record Laid (bytes : List ℕ) (written : ℕ) (before after : List ℕ) : Type 0 where
  pub size : written ≡ length bytes
  pub lent : after ≡ front bytes before
