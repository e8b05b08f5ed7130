-- What `recover` prints: the first line opens a group, then one event a line, and at the end a line for each terminal, and behind it one for
-- its sequencer, if it has one. First lines, event numbers, an event's line and its limits are those of `play`.
use Rattle.std.specs.Prelude.{Option, None, Some, List, [], ◌∷◌, ◌++◌, ℕ, ◌+◌, length}
use Rattle.group.specs.Choice.{when◌then◌else◌, ◌<?◌}
use Rattle.group.specs.Members.{elected_of}
use Rattle.group.specs.Question.{judged}
use Rattle.group.specs.declared.Refusal.{Refusal}
use Rattle.player.specs.Lines as lines
use Rattle.player.specs.Lines.{output_from}
use Rattle.player.specs.Play.{next_number}
use Rattle.recovery.specs.State.{Terminal}
use Rattle.report.specs.Print.{line_of, bad_line, no_space, bad_opening, refused_opening}
use Rattle.reset.specs.World.{Event, Group, happen, fresh}
use Rattle.reset_report.specs.Print.{terminal_line, sequencer_line}
use Rattle.reset_schedule.specs.Line.{event_of}
use Rattle.schedule.specs.Line.{opening_of}
use Rattle.schedule.specs.declared.Opening.{Opening}
use Rattle.sequencer.specs.Calls.{fresh_of}
use Rattle.simulator.specs.Whole.{packets_most}

-- the first line is awaited; events are read, with the number of the next; a line ended the events; no group was opened
pub data Stage : Type 0 where
  opening : Stage
  running : Group → ℕ → Stage
  ended : Group → Stage
  closed : Stage

-- what a line prints, and where it leads
abbrev pub Told : Type 0
Told = lines.Told Stage

-- a first line of another form prints `bad line`, a refused one `refused 18` or `refused 24`, and nothing more
abbrev pub refused_told : Refusal → Told
refused_told refusal = record { text = refused_opening refusal; stage = closed }

unfoldable pub open_told : Option Opening → Told
open_told None = record { text = bad_opening; stage = closed }
open_told (Some opened) =
    judged (fresh_of opened.n opened.number opened.resilience).verdict refused_told
    (record { text = []; stage = running (fresh opened.n opened.number opened.resilience).group 1 })

-- an event prints its number, its answer and the index of a packet written; a line of another form prints `bad line` and ends
-- the events; with 200 packets written the next event prints `no space` and ends the events
unfoldable pub event_told : Group → ℕ → Option Event → Told
event_told g number None = record { text = bad_line number; stage = ended g }
event_told g number (Some event) =
    when length g.packets <? packets_most
    then record { text = line_of number (happen g event).answer (length g.packets); stage = running (happen g event).group (next_number number) }
    else record { text = no_space number; stage = ended g }

unfoldable pub line_told : Stage → List ℕ → Told
line_told opening line = open_told (opening_of line)
line_told (running g number) line = event_told g number (event_of line)
line_told (ended g) line = record { text = []; stage = ended g }
line_told closed line = record { text = []; stage = closed }

-- terminal i's line: its member's group number, t, elected member and survivors
abbrev pub member_told : ℕ → Terminal → List ℕ
member_told i t =
    terminal_line i t.member.group.number t.member.taken.0 (elected_of t.member.group).0 t.member.group.survivors

-- its sequencer's line, if it has one: group number, top and floor, and whether it is frozen
unfoldable pub sequencer_told : ℕ → Terminal → List ℕ
sequencer_told i t =
    when t.sequencing
    then sequencer_line i t.sequencer.group.number t.sequencer.top.0 t.sequencer.floor.0 t.frozen
    else []

-- terminals from i on
unfoldable pub terminals_told : ℕ → List Terminal → List ℕ
terminals_told i [] = []
terminals_told i (t ∷ rest) = member_told i t ++ (sequencer_told i t ++ terminals_told (i + 1) rest)

-- at the end; a first line missing prints `bad line`
unfoldable pub last_of : Stage → List ℕ
last_of opening = bad_opening
last_of (running g number) = terminals_told 0 g.terminals
last_of (ended g) = terminals_told 0 g.terminals
last_of closed = []

-- `recover` says every text, and prints those lines at the end
abbrev pub recover_program : lines.Program Stage
recover_program = record { says = λ stage text. text; last = last_of }

-- the output of an input
abbrev pub recover_of : List ℕ → List ℕ
recover_of input = output_from line_told opening recover_program input
