-- Without a reset the world is the group of `model`: member 0's terminal has the sequencer, and each event answers and writes the same.
use Rattle.std.specs.Prelude.{◌≡◌, List, [], ◌∷◌, ℕ, ◌<◌, get_or}
use Rattle.model.specs.Claim.{Opens}
use Rattle.model.specs.World as model
use Rattle.reset.specs.World.{Event, submit, repeat, take, status, poll, copy, hand_member, hand_sequencer, Entry, World, run, fresh, terminal_at}

-- an event of the group, at its terminals
abbrev pub event_in : model.Event → Event
event_in (model.submit i payload) = submit i payload
event_in (model.repeat i) = repeat i
event_in (model.take i) = take i
event_in (model.status i) = status i
event_in model.poll = poll 0
event_in (model.copy number) = copy 0 number
event_in (model.hand_member k i) = hand_member k i
event_in (model.hand_sequencer k) = hand_sequencer k 0

unfoldable pub events_in : List model.Event → List Event
events_in [] = []
events_in (event ∷ rest) = event_in event ∷ events_in rest

abbrev pub entry_in : model.Entry → Entry
entry_in entry = record { event = event_in entry.event; answer = entry.answer }

unfoldable pub entries_in : List model.Entry → List Entry
entries_in [] = []
entries_in (entry ∷ rest) = entry_in entry ∷ entries_in rest

-- the same members, sequencer, packets and answers
pub record Alike (n : ℕ) (w : World) (m : model.World) : Type 0 where
  pub members : (i : ℕ) → i < n → (terminal_at w.group i).member ≡ get_or m.group.members i model.no_member
  pub sequencer : (terminal_at w.group 0).sequencer ≡ m.group.sequencer
  pub packets : w.group.packets ≡ m.group.packets
  pub log : w.log ≡ entries_in m.log

abbrev pub SameWithoutReset : Type 0
SameWithoutReset =
    (n number resilience : ℕ) → Opens n number resilience → (events : List model.Event)
    → Alike n (run (fresh n number resilience) (events_in events)) (model.run (model.fresh n number resilience) events)
