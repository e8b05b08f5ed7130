-- What `inspect` prints: what a schedule leaves at the end, a heading and then a line a terminal, and behind them the work lists.
use Rattle.std.specs.Prelude.{◌≡◌, List, [], ◌∷◌, ◌++◌, map, ℕ, zero, suc, ◌+◌, ◌*◌, length, get_or}
use Rattle.group.specs.Limits.{members_most}
use Rattle.group.specs.Lent.{Laid}
use Rattle.history.specs.State.{Acknowledgement, no_acknowledgement}
use Rattle.history.specs.View.{table_in}
use Rattle.member.specs.State.{Member, reach_of}
use Rattle.model.specs.World.{Group, no_member}
use Rattle.player.specs.Play.{Stage, opening, running, ended, closed, Program, output_of}
use Rattle.player.specs.Player.{stage_in, phase_of}
use Rattle.player.specs.declared.Player.{Player}
use Rattle.report.specs.Print.{bad_opening}
use Rattle.simulator.specs.Whole.{Terminals, member_at, members_in}
use Rattle.text.specs.Text.{text_of}
use Rattle.text.specs.Written.{decimal_of, line, number_digits}
use Rattle.inspection.specs.Lists.{lists_of}

-- the columns
abbrev pub columns : List (List ℕ)
columns = text_of "terminal" ∷ text_of "taken" ∷ text_of "row" ∷ text_of "submitted" ∷ text_of "waiting" ∷ text_of "repeats" ∷ []

-- a terminal's numbers behind its own: the last that it took, the end of the row that it took or holds, its submissions so far,
-- how many of them wait, and its repeats at the sequencer
unfoldable pub row_of : Member → ℕ → List ℕ
row_of m repeats = m.taken.0 ∷ reach_of m ∷ m.submitted ∷ m.waiting ∷ repeats ∷ []

abbrev pub row_in : List Member → List Acknowledgement → ℕ → List ℕ
row_in members table i = row_of (get_or members i no_member) (get_or table i no_acknowledgement).repeats

-- the same of the code's members and of its sequencer's table, of which only the repeat counts are asked
abbrev pub repeats_at : List ℕ → List ℕ → ℕ → ℕ
repeats_at taken repeats i = (get_or (table_in taken [] repeats) i no_acknowledgement).repeats

abbrev pub row_at : Terminals → List ℕ → List ℕ → ℕ → List ℕ
row_at t taken repeats i = row_of (member_at t i) (repeats_at taken repeats i)

-- the lines of the first k terminals
unfoldable pub row_lines : (ℕ → List ℕ) → ℕ → List ℕ
row_lines row zero = []
row_lines row (suc k) = row_lines row k ++ line (decimal_of k ∷ map decimal_of (row k))

abbrev pub table_of : Group → List ℕ
table_of g = line columns ++ row_lines (row_in g.members g.sequencer.acknowledgements) (length g.members)

-- a first line missing prints `bad line`
unfoldable pub table_left : Stage → List ℕ
table_left opening = bad_opening
table_left (running g number) = table_of g
table_left (ended g) = table_of g
table_left closed = []

-- where there is a group, its terminals' lists
unfoldable pub lists_left : Stage → List ℕ
lists_left opening = []
lists_left (running g number) = lists_of g
lists_left (ended g) = lists_of g
lists_left closed = []

abbrev pub left_of : Stage → List ℕ
left_of stage = table_left stage ++ lists_left stage

-- nothing is said of an event; a first line that opens no group prints what `play` prints of it
unfoldable pub unopened : Stage → List ℕ → List ℕ
unopened opening text = []
unopened (running g number) text = []
unopened (ended g) text = []
unopened closed text = text

abbrev pub inspect_program : Program
inspect_program = record { says = unopened; last = left_of }

-- the output of an input
abbrev pub inspect_of : List ℕ → List ℕ
inspect_of input = output_of inspect_program input

-- the room of a row: for each column a number and what stands behind it; no heading is longer
abbrev pub row_room : ℕ
row_room = (1 + number_digits) * length columns

-- the room of the longest table
abbrev pub table_room : ℕ
table_room = row_room * (1 + members_most)

-- a group that has these members, and at whose sequencer they have these repeat counts
pub record Tabled (t : Terminals) (taken repeats : List ℕ) (g : Group) : Type 0 where
  pub members : g.members ≡ members_in t
  pub repeated : (i : ℕ) → (get_or g.sequencer.acknowledgements i no_acknowledgement).repeats ≡ repeats_at taken repeats i

-- what was laid is what `text` says of every such group
abbrev pub LaysTable : (Group → List ℕ) → Terminals → List ℕ → List ℕ → ℕ → List ℕ → List ℕ → Type 0
LaysTable text t taken repeats size lent after = (g : Group) → Tabled t taken repeats g → Laid (text g) size lent after

-- what is left at the end
abbrev pub LaysLeft : Player → Terminals → List ℕ → List ℕ → ℕ → List ℕ → List ℕ → Type 0
LaysLeft p t taken repeats size lent after = LaysTable (λ g. table_left (stage_in (phase_of p.head p.phase) g p.number)) t taken repeats size lent after
