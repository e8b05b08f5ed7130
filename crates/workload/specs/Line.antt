-- The lines of a load: `N n group`, and then a line each event.
use Rattle.std.specs.Prelude.{List, [], ◌∷◌, ◌++◌, ℕ, ◌+◌, ◌*◌}
use Rattle.model.specs.World.{Event, submit, repeat, take, status, poll, copy, hand_member, hand_sequencer}
use Rattle.text.specs.Text.{text_of}
use Rattle.text.specs.Written.{decimal_of, payload_text, line, number_digits}
use Rattle.workload.specs.Choice.{events_from}

-- the first line
abbrev pub opening_fields : ℕ → ℕ → List (List ℕ)
opening_fields n group = text_of "N" ∷ decimal_of n ∷ decimal_of group ∷ []

-- the fields of an event's line
unfoldable pub event_fields : Event → List (List ℕ)
event_fields (submit i payload) = text_of "S" ∷ decimal_of i ∷ payload_text payload ∷ []
event_fields (repeat i) = text_of "R" ∷ decimal_of i ∷ []
event_fields (take i) = text_of "T" ∷ decimal_of i ∷ []
event_fields (status i) = text_of "A" ∷ decimal_of i ∷ []
event_fields poll = text_of "P" ∷ []
event_fields (copy number) = text_of "C" ∷ decimal_of number ∷ []
event_fields (hand_member k i) = text_of "M" ∷ decimal_of k ∷ decimal_of i ∷ []
event_fields (hand_sequencer k) = text_of "Q" ∷ decimal_of k ∷ []

-- the lines of events
unfoldable pub event_lines : List Event → List ℕ
event_lines [] = []
event_lines (event ∷ rest) = line (event_fields event) ++ event_lines rest

-- the whole text: a first line, and k events from the seed on
unfoldable pub load_of : ℕ → ℕ → ℕ → ℕ → List ℕ
load_of seed n group k = line (opening_fields n group) ++ event_lines (events_from n seed k)

-- the room that a line asks for: a letter, two numbers with a space before each, and the line feed
abbrev pub line_room : ℕ
line_room = 1 + 2 * (1 + number_digits) + 1
