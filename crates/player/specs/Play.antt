-- What `play` prints: the first line opens a group, then one event a line.
use Rattle.std.specs.Prelude.{Option, None, Some, List, [], map, ℕ, ◌+◌, length}
use Rattle.group.specs.Choice.{when◌then◌else◌, ◌<?◌}
use Rattle.group.specs.Question.{judged}
use Rattle.group.specs.declared.Refusal.{Refusal}
use Rattle.model.specs.World.{Event, Group, happen, fresh}
use Rattle.report.specs.Print.{line_of, bad_line, no_space, bad_opening, refused_opening, last_line}
use Rattle.schedule.specs.Line.{event_of, opening_of}
use Rattle.schedule.specs.declared.Opening.{Opening}
use Rattle.sequencer.specs.Calls.{fresh_of}
use Rattle.simulator.specs.Whole.{packets_most}
use Rattle.player.specs.Lines as lines
use Rattle.player.specs.Lines.{output_from}

-- the number of the next event, from 1; one of 64 bits stays at the largest of those, where no run comes
abbrev pub count_largest : ℕ
count_largest = 18446744073709551615

unfoldable pub next_number : ℕ → ℕ
next_number number = when number <? count_largest then number + 1 else number

-- the first line is awaited; events are read, with the number of the next; a line ended the events; no group was opened
pub data Stage : Type 0 where
  opening : Stage
  running : Group → ℕ → Stage
  ended : Group → Stage
  closed : Stage

-- what a line prints, and where it leads
abbrev pub Told : Type 0
Told = lines.Told Stage

-- a first line of another form prints `bad line`, a refused one `refused 18` or `refused 24`, and nothing more
abbrev pub refused_told : Refusal → Told
refused_told refusal = record { text = refused_opening refusal; stage = closed }

unfoldable pub open_told : Option Opening → Told
open_told None = record { text = bad_opening; stage = closed }
open_told (Some opened) =
    judged (fresh_of opened.n opened.number opened.resilience).verdict refused_told
    (record { text = []; stage = running (fresh opened.n opened.number opened.resilience).group 1 })

-- an event prints its number, its answer and the index of a packet written; a line of another form prints `bad line` and ends
-- the events; with 200 packets written the next event prints `no space` and ends the events
unfoldable pub event_told : Group → ℕ → Option Event → Told
event_told g number None = record { text = bad_line number; stage = ended g }
event_told g number (Some event) =
    when length g.packets <? packets_most
    then record { text = line_of number (happen g event).answer (length g.packets); stage = running (happen g event).group (next_number number) }
    else record { text = no_space number; stage = ended g }

unfoldable pub line_told : Stage → List ℕ → Told
line_told opening line = open_told (opening_of line)
line_told (running g number) line = event_told g number (event_of line)
line_told (ended g) line = record { text = []; stage = ended g }
line_told closed line = record { text = []; stage = closed }

-- the last line gives top, floor and each t; a first line missing prints `bad line`
abbrev pub last_told : Group → List ℕ
last_told g = last_line g.sequencer.top.0 g.sequencer.floor.0 (map (λ m. m.taken.0) g.members)

unfoldable pub last_of : Stage → List ℕ
last_of opening = bad_opening
last_of (running g number) = last_told g
last_of (ended g) = last_told g
last_of closed = []

-- a program that plays a schedule, and the output of an input
abbrev pub Program : Type 0
Program = lines.Program Stage

abbrev pub output_of : Program → List ℕ → List ℕ
output_of program input = output_from line_told opening program input

-- `play` says every text, and prints the last line
abbrev pub play_program : Program
play_program = record { says = λ stage text. text; last = last_of }

abbrev pub play_of : List ℕ → List ℕ
play_of input = output_of play_program input
