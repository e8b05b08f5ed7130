-- An input of `play` that comes in parts.
use Rattle.std.specs.Prelude.{List, ℕ}
use Rattle.player.specs.Parts as parts
use Rattle.player.specs.Play.{Stage, opening, line_told}
pub use Rattle.player.specs.Parts.{kept_most, kept_of, said_of, told_as}

-- where playing stands, and what is kept of a line that has not ended
abbrev pub State : Type 0
State = parts.State Stage

abbrev pub start : State
start = parts.start_of opening

-- what a part of the input prints, where it leads, and how much of the part was read
abbrev pub Fed : Type 0
Fed = parts.Fed Stage

-- a part is read up to its first line feed, or whole
abbrev pub fed_of : State → List ℕ → Fed
fed_of s part = parts.fed_of line_told s part

-- at the end of the input, what stands behind the last line feed is a line too, unless it is empty
abbrev pub end_of : State → Fed
end_of s = parts.end_of line_told s
