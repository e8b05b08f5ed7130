-- Which events a load has: outputs choose them, each modulo the number of choices.
use Rattle.std.specs.Prelude.{List, [], ◌∷◌, ℕ, zero, suc, ◌+◌, ◌%◌}
use Rattle.generator.specs.Generator.{stepped, output_of}
use Rattle.group.specs.Choice.{when◌then◌else◌, ◌=?◌}
use Rattle.group.specs.Limits.{places_most}
use Rattle.model.specs.World.{Event, submit, repeat, take, status, poll, copy, hand_member, hand_sequencer}
use Rattle.simulator.specs.Whole.{packets_most}

-- one choice is one step and then the output of the state that it leads to, so the seed itself is never put out
unfoldable pub drawn : ℕ → ℕ → ℕ
drawn choices state = output_of (stepped state) % choices

-- the letters S R T A P C M Q
abbrev pub letters_most : ℕ
letters_most = 8

-- a payload is one byte, 0 to 255
abbrev pub bytes_most : ℕ
bytes_most = 256

-- an event, and the state behind its choices
pub record Chosen : Type 0 where
  pub event : Event
  pub state : ℕ

-- the fields of a letter's event in the order of its line, one choice each: members 0 to n - 1, payloads of one byte, numbers 1
-- to 32, packets 0 to 199
unfoldable pub chosen : ℕ → ℕ → ℕ → Chosen
chosen letter n state =
    when letter =? 0 then record { event = submit (drawn n state) (drawn bytes_most (stepped state) ∷ []); state = stepped (stepped state) } else
    when letter =? 1 then record { event = repeat (drawn n state); state = stepped state } else
    when letter =? 2 then record { event = take (drawn n state); state = stepped state } else
    when letter =? 3 then record { event = status (drawn n state); state = stepped state } else
    when letter =? 4 then record { event = poll; state = state } else
    when letter =? 5 then record { event = copy (1 + drawn places_most state); state = stepped state } else
    when letter =? 6 then record { event = hand_member (drawn packets_most state) (drawn n (stepped state)); state = stepped (stepped state) } else
    record { event = hand_sequencer (drawn packets_most state); state = stepped state }

-- the letter, then its fields
unfoldable pub event_from : ℕ → ℕ → Chosen
event_from n state = chosen (drawn letters_most state) n (stepped state)

-- k events, each from the state behind the one before
unfoldable pub events_from : ℕ → ℕ → ℕ → List Event
events_from n state zero = []
events_from n state (suc k) = (event_from n state).event ∷ events_from n (event_from n state).state k
