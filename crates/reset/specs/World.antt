-- The world is n terminals and the list of all packets written so far, first at index 0. Each event gets the states and packets as the one
-- before left them, and nothing else writes them in between.
use Rattle.std.specs.Prelude.{false, List, [], ◌∷◌, ◌++◌, ℕ, zero, suc, ◌+◌, length, get_or, set}
use Rattle.std.proofs.Math.Option.{Option, none, some}
use Rattle.std.proofs.Math.ListN.{get_elem?}
use Rattle.group.specs.Choice.{when◌then◌else◌, ◌and◌, ◌<?◌}
use Rattle.group.specs.Limits.{longest_packet}
use Rattle.group.specs.Opening.{description_of}
use Rattle.member.specs.State.{fresh_member}
use Rattle.packet.specs.Packet.{written}
use Rattle.model.specs.World.{Answer, absent, by_sequencer, by_member}
use Rattle.recovery.specs.Calls as terminal
use Rattle.recovery.specs.Calls.{fresh_terminal}
use Rattle.recovery.specs.State.{Terminal, fresh_kept, no_reset, no_sequencer}

-- a terminal's submit, repeat, take and status call, its sequencer's poll and copy call, "hand packet k to terminal i's member" or "to its
-- sequencer", its inviting and its making
pub data Event : Type 0 where
  submit : (i : ℕ) → (payload : List ℕ) → Event
  repeat : (i : ℕ) → Event
  take : (i : ℕ) → Event
  status : (i : ℕ) → Event
  poll : (i : ℕ) → Event
  copy : (i number : ℕ) → Event
  hand_member : (k i : ℕ) → Event
  hand_sequencer : (k i : ℕ) → Event
  invite : (i number : ℕ) → Event
  make : (i demand : ℕ) → Event

pub record Group : Type 0 where
  pub terminals : List Terminal
  pub packets : List (List ℕ)

-- what an event leaves, and its answer
pub record Happened : Type 0 where
  pub group : Group
  pub answer : Answer

-- an event that names a packet, a terminal or a sequencer not there changes nothing and writes nothing
abbrev pub missing : Group → Happened
missing g = record { group = g; answer = absent }

-- what a list of terminals is read as past its end
abbrev pub no_terminal : Terminal
no_terminal =
    record {
      member = fresh_member (description_of 0 0 0) (record { 0 = 0 });
      kept = fresh_kept;
      reset = no_reset;
      sequencing = false;
      frozen = false;
      sequencer = no_sequencer;
    }

abbrev pub terminal_at : Group → ℕ → Terminal
terminal_at g i = get_or g.terminals i no_terminal

-- what a call of terminal i's member leaves, where `packets` are those that it wrote, and one of its sequencer
abbrev pub with_member : Group → ℕ → terminal.Outcome → List (List ℕ) → Happened
with_member g i o packets =
    record {
      group = record { terminals = set g.terminals i o.terminal; packets = g.packets ++ packets };
      answer = by_member o.answer o.bytes;
    }

abbrev pub with_sequencer : Group → ℕ → terminal.SequencerOutcome → Happened
with_sequencer g i o =
    record {
      group = record { terminals = set g.terminals i o.terminal; packets = g.packets ++ written o.bytes };
      answer = by_sequencer o.answer o.bytes;
    }

-- a call of terminal i that writes packets, if there is such a terminal
abbrev pub at_terminal : Group → ℕ → (Terminal → terminal.Outcome) → Happened
at_terminal g i call =
    when i <? length g.terminals then with_member g i (call (terminal_at g i)) (written (call (terminal_at g i)).bytes) else
    missing g

-- a take writes a payload and no packet
abbrev pub take_at : Group → ℕ → Happened
take_at g i =
    when i <? length g.terminals then with_member g i (terminal.take_of (terminal_at g i) longest_packet) [] else
    missing g

-- a call of terminal i's sequencer, if there is one
abbrev pub at_sequencer : Group → ℕ → (Terminal → terminal.SequencerOutcome) → Happened
at_sequencer g i call =
    when i <? length g.terminals and (terminal_at g i).sequencing then with_sequencer g i (call (terminal_at g i)) else
    missing g

-- a packet handed over, if there is such a packet
abbrev pub hand_to_member : Group → ℕ → Option (List ℕ) → Happened
hand_to_member g i none = missing g
hand_to_member g i (some packet) = at_terminal g i (λ t. terminal.receive_of t packet longest_packet)

abbrev pub hand_to_sequencer : Group → ℕ → Option (List ℕ) → Happened
hand_to_sequencer g i none = missing g
hand_to_sequencer g i (some packet) = at_sequencer g i (λ t. terminal.order_of t packet longest_packet)

-- an event; each call is lent the output that question 2 asks
unfoldable pub happen : Group → Event → Happened
happen g (submit i payload) = at_terminal g i (λ t. terminal.submit_of t payload longest_packet)
happen g (repeat i) = at_terminal g i (λ t. terminal.repeat_of t longest_packet)
happen g (take i) = take_at g i
happen g (status i) = at_terminal g i (λ t. terminal.status_of t longest_packet)
happen g (poll i) = at_sequencer g i (λ t. terminal.poll_of t longest_packet)
happen g (copy i number) = at_sequencer g i (λ t. terminal.copy_of t (record { 0 = number }) longest_packet)
happen g (hand_member k i) = hand_to_member g i (get_elem? g.packets k)
happen g (hand_sequencer k i) = hand_to_sequencer g i (get_elem? g.packets k)
happen g (invite i number) = at_terminal g i (λ t. terminal.invite_of t number longest_packet)
happen g (make i demand) = at_terminal g i (λ t. terminal.make_of t demand longest_packet)

-- an event that happened stands in the list, with its answer
pub record Entry : Type 0 where
  pub event : Event
  pub answer : Answer

-- the world, and what happened to it so far
pub record World : Type 0 where
  pub group : Group
  pub log : List Entry

abbrev pub step : World → Event → World
step w event =
    record {
      group = (happen w.group event).group;
      log = w.log ++ (record { event = event; answer = (happen w.group event).answer } ∷ []);
    }

-- a list of events
unfoldable pub run : World → List Event → World
run w [] = w
run w (event ∷ rest) = run (step w event) rest

-- terminals i to i + k - 1
unfoldable pub fresh_terminals : ℕ → ℕ → ℕ → ℕ → ℕ → List Terminal
fresh_terminals n number resilience i zero = []
fresh_terminals n number resilience i (suc k) =
    fresh_terminal n number resilience i ∷ fresh_terminals n number resilience (i + 1) k

-- a fresh world has terminals 0 to n - 1 fresh, opened alike but for the member number, and no packet yet
unfoldable pub fresh : ℕ → ℕ → ℕ → World
fresh n number resilience =
    record { group = record { terminals = fresh_terminals n number resilience 0 n; packets = [] }; log = [] }
