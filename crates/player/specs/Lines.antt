-- Lines that are played, whatever a line tells, and the output of a whole input. `play` and `recover` are two instances.
use Rattle.std.specs.Prelude.{List, [], ◌∷◌, ◌++◌, ℕ}
use Rattle.text.specs.Field.{lines_of}

-- what a line prints, and where it leads
pub record Told (Stage : Type 0) : Type 0 where
  pub text : List ℕ
  pub stage : Stage

-- a program that plays a schedule: what it says of the text of a line, by the stage that the line leads to, and what it prints
-- at the end
pub record Program (Stage : Type 0) : Type 0 where
  pub says : Stage → List ℕ → List ℕ
  pub last : Stage → List ℕ

module _ {Stage : Type 0} (line_told : Stage → List ℕ → Told Stage) where
  -- all that lines print
  unfoldable pub lines_told : Program Stage → Stage → List (List ℕ) → List ℕ
  lines_told program stage [] = program.last stage
  lines_told program stage (line ∷ rest) =
      program.says (line_told stage line).stage (line_told stage line).text ++ lines_told program (line_told stage line).stage rest

  -- the output of an input, from the stage in which the first line is awaited
  abbrev pub output_from : Stage → Program Stage → List ℕ → List ℕ
  output_from opening program input = lines_told program opening (lines_of input)
