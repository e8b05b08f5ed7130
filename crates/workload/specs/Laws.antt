-- A load is a schedule that `play` reads as exactly its events. `proofs/Laws.antt` has the proofs.
use Rattle.std.specs.Prelude.{Some, ◌≡◌, List, [], ◌∷◌, ◌++◌, map, ℕ, ◌≤◌, ◌<◌}
use Rattle.group.specs.Limits.{members_most, places_most, largest_number}
use Rattle.model.specs.World.{Event, submit, repeat, take, status, poll, copy, hand_member, hand_sequencer}
use Rattle.schedule.specs.Line.{event_of, opening_of}
use Rattle.simulator.specs.Whole.{packets_most}
use Rattle.text.specs.Field.{lines_of, fields_of}
use Rattle.text.specs.Text.{space}
use Rattle.text.specs.Written.{spaced}
use Rattle.workload.specs.Choice.{bytes_most, event_from, events_from}
use Rattle.workload.specs.Line.{opening_fields, event_fields, load_of}

-- every character of a text lies above one
abbrev pub Above : ℕ → List ℕ → Type 0
Above mark [] = Unit {0}
Above mark (c ∷ rest) = (mark < c) × Above mark rest

-- fields that have no space, and no line feed, which lies below it
abbrev pub Solid : List (List ℕ) → Type 0
Solid [] = Unit {0}
Solid (field ∷ rest) = Above space field × Solid rest

-- fields as they stand in a line before its line feed
unfoldable pub joined : List (List ℕ) → List ℕ
joined [] = []
joined (first ∷ rest) = first ++ spaced rest

-- the fields of a line are those that it was written for
abbrev pub FieldsBack : Type 0
FieldsBack = (first : List ℕ) (rest : List (List ℕ)) → Solid (first ∷ rest) → fields_of (joined (first ∷ rest)) ≡ first ∷ rest

-- members 0 to n - 1, numbers 1 to 32, packets 0 to 199, payloads of one byte 0 to 255
unfoldable pub Within : ℕ → Event → Type 0
Within n (submit i payload) = (i < n) × (byte : ℕ) × (byte < bytes_most) × (payload ≡ byte ∷ [])
Within n (repeat i) = i < n
Within n (take i) = i < n
Within n (status i) = i < n
Within n poll = Unit {0}
Within n (copy number) = (1 ≤ number) × (number ≤ places_most)
Within n (hand_member k i) = (k < packets_most) × (i < n)
Within n (hand_sequencer k) = k < packets_most

abbrev pub ChosenWithin : Type 0
ChosenWithin = (n state : ℕ) → 1 ≤ n → Within n (event_from n state).event

-- what `play` reads in an event's line is the event
abbrev pub event_text : Event → List ℕ
event_text event = joined (event_fields event)

abbrev pub LineMeans : Type 0
LineMeans = (n : ℕ) (event : Event) → n ≤ members_most → Within n event → event_of (event_text event) ≡ Some event

-- the lines of a load are the first line and those of its events; the first opens the group
abbrev pub opening_text : ℕ → ℕ → List ℕ
opening_text n group = joined (opening_fields n group)

pub record LoadReads (seed n group k : ℕ) : Type 0 where
  pub lines : lines_of (load_of seed n group k) ≡ opening_text n group ∷ map event_text (events_from n seed k)
  pub opens : opening_of (opening_text n group) ≡ Some (record { n = n; number = group; resilience = 0 })
  pub means : map (λ event. event_of (event_text event)) (events_from n seed k) ≡ map Some (events_from n seed k)

abbrev pub LoadPlays : Type 0
LoadPlays = (seed n group k : ℕ) → 1 ≤ n → n ≤ members_most → group ≤ largest_number → LoadReads seed n group k

-- the first six events of three members, from the smallest seed and from the largest
pub record FirstEvents : Type 0 where
  pub smallest : events_from 3 0 6 ≡ hand_member 140 0 ∷ repeat 2 ∷ take 1 ∷ status 1 ∷ submit 0 (0x35 ∷ []) ∷ poll ∷ []
  pub largest : events_from 3 largest_number 6 ≡ hand_sequencer 143 ∷ poll ∷ hand_member 25 0 ∷ take 0 ∷ status 1 ∷ submit 0 (0xb5 ∷ []) ∷ []
