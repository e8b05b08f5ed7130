-- An input that comes in parts, whatever a line tells: a line is played when it has ended, and only as much of it is kept as tells its form.
-- What is printed part by part is what the whole input prints, if a line that is cut tells what the whole line tells. `proofs/Parts.antt` has
-- the proofs.
use Rattle.std.specs.Prelude.{Option, None, Some, ◌≡◌, List, [], ◌++◌, ℕ, ◌+◌, ◌≤◌, length, take, drop}
use Rattle.group.specs.Choice.{when◌then◌else◌, ◌=?◌}
use Rattle.text.specs.Field.{line_end}
use Rattle.schedule.specs.Line.{line_most}
use Rattle.player.specs.Lines.{Told, Program, output_from}

-- a line over 1,000 characters is of another form, whatever stands behind the first 1,001
abbrev pub kept_most : ℕ
kept_most = line_most + 1

abbrev pub kept_of : List ℕ → List ℕ
kept_of line = take kept_most line

-- where playing stands, and what is kept of a line that has not ended
pub record State (Stage : Type 0) : Type 0 where
  pub stage : Stage
  pub line : List ℕ

-- what a part of the input prints, where it leads, and how much of the part was read
pub record Fed (Stage : Type 0) : Type 0 where
  pub text : List ℕ
  pub state : State Stage
  pub used : ℕ

module _ {Stage : Type 0} where
  -- the first line is awaited
  abbrev pub start_of : Stage → State Stage
  start_of opening = record { stage = opening; line = [] }

  -- what a program says of it
  abbrev pub said_of : Program Stage → Fed Stage → List ℕ
  said_of program fed = program.says fed.state.stage fed.text

  -- a line that has ended
  abbrev pub told_as : Told Stage → ℕ → Fed Stage
  told_as told used = record { text = told.text; state = record { stage = told.stage; line = [] }; used = used }

  -- a line without a text says nothing
  abbrev pub Quiet : Program Stage → Type 0
  Quiet program = (stage : Stage) → program.says stage [] ≡ []

module _ {Stage : Type 0} (line_told : Stage → List ℕ → Told Stage) where
  unfoldable pub fed_up_to : Option ℕ → State Stage → List ℕ → Fed Stage
  fed_up_to (Some e) s part = told_as (line_told s.stage (kept_of (s.line ++ take e part))) (e + 1)
  fed_up_to None s part = record { text = []; state = record { stage = s.stage; line = kept_of (s.line ++ part) }; used = length part }

  -- a part is read up to its first line feed, or whole
  abbrev pub fed_of : State Stage → List ℕ → Fed Stage
  fed_of s part = fed_up_to (line_end part) s part

  -- at the end of the input, what stands behind the last line feed is a line too, unless it is empty
  unfoldable pub end_of : State Stage → Fed Stage
  end_of s =
      when length s.line =? 0
      then record { text = []; state = s; used = 0 }
      else told_as (line_told s.stage s.line) 0

  -- an input that is read in parts, each from where the one before was read to, and all that is printed
  pub data Prints (program : Program Stage) : State Stage → List ℕ → List ℕ → Type 0 where
    ends : (s : State Stage) → Prints program s [] (said_of program (end_of s) ++ program.last (end_of s).state.stage)
    feeds : {output : List ℕ} (s : State Stage) (part rest : List ℕ) → Prints program (fed_of s part).state (drop (fed_of s part).used part ++ rest) output
        → Prints program s (part ++ rest) (said_of program (fed_of s part) ++ output)

  -- an input was read but for what is left of it, and something printed: whatever stands behind the input, what the rest prints
  -- goes behind what was printed
  abbrev pub Continues : Program Stage → State Stage → List ℕ → List ℕ → State Stage → List ℕ → Type 0
  Continues program from input printed to left =
      (rest output : List ℕ) → Prints program to (left ++ rest) output → Prints program from (input ++ rest) (printed ++ output)

  -- a line that is cut tells what the whole line tells
  abbrev pub ToldKept : Type 0
  ToldKept = (stage : Stage) (line : List ℕ) → line_told stage (kept_of line) ≡ line_told stage line

  -- a part that is not empty is read further, and no further than its end
  abbrev pub ReadsOn : Type 0
  ReadsOn = (s : State Stage) (part : List ℕ) → 1 ≤ length part → (1 ≤ (fed_of s part).used) × ((fed_of s part).used ≤ length part)

  abbrev pub PrintsAll : Stage → Type 0
  PrintsAll opening =
      (program : Program Stage) → Quiet program → (input output : List ℕ) → Prints program (start_of opening) input output
      → output ≡ output_from line_told opening program input
