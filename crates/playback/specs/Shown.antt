-- What an output has room for.
use Rattle.std.specs.Prelude.{◌≡◌, List, ◌++◌, ℕ, length, take}
use Rattle.group.specs.Lent.{front}

-- as much of what is printed as an output has room for
abbrev pub shown_of : List ℕ → ℕ → List ℕ
shown_of printed room = take room printed

-- it stands at the front of the output that was lent, up to an index
pub record Shows (printed lent now : List ℕ) (at : ℕ) : Type 0 where
  pub size : at ≡ length (shown_of printed (length lent))
  pub text : now ≡ front (shown_of printed (length lent)) lent

-- a text was laid behind whatever is shown
abbrev pub Adds : List ℕ → List ℕ → ℕ → List ℕ → ℕ → Type 0
Adds text now at after next = (printed lent : List ℕ) → Shows printed lent now at → Shows (printed ++ text) lent after next
