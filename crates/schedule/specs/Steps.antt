-- What the private functions find on the way to what a line means. No public promise speaks of it.
use Rattle.std.specs.Prelude.{List, [], ◌∷◌, ℕ, ◌+◌, ◌-◌, take, drop}

-- four fields, by the places of the three spaces between them
unfoldable pub four_at : ℕ → ℕ → ℕ → List ℕ → List (List ℕ)
four_at a b c line =
    take a line ∷ take (b - (a + 1)) (drop (a + 1) line) ∷ take (c - (b + 1)) (drop (b + 1) line) ∷ drop (c + 1) line ∷ []
