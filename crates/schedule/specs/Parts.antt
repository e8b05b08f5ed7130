-- The fields of a line, by the places of the spaces that part them.
use Rattle.std.specs.Prelude.{List, [], ◌∷◌, ℕ, ◌+◌, ◌-◌, ◌<◌, length, take, drop}
use Rattle.text.specs.Field.{fields_of}
use Rattle.schedule.specs.declared.Parts.{Parts}
use Rattle.schedule.specs.declared.Parts.TheVariants.{One, Two, Three, More}

-- the fields of a line by the places of its first three spaces
unfoldable pub parts_at : Parts → List ℕ → List (List ℕ)
parts_at One line = line ∷ []
parts_at (Two a) line = take a line ∷ drop (a + 1) line ∷ []
parts_at (Three a b) line = take a line ∷ take (b - (a + 1)) (drop (a + 1) line) ∷ drop (b + 1) line ∷ []
parts_at (More a b c) line =
    take a line ∷ take (b - (a + 1)) (drop (a + 1) line) ∷ take (c - (b + 1)) (drop (b + 1) line) ∷ fields_of (drop (c + 1) line)

-- those places are in order, and within the line
abbrev pub Within : Parts → List ℕ → Type 0
Within One line = Unit {0}
Within (Two a) line = a < length line
Within (Three a b) line = (a < b) × (b < length line)
Within (More a b c) line = (a < b) × (b < c) × (c < length line)
