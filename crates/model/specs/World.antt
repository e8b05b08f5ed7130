-- The group is a sequencer, n members and the list of all packets written so far, first at index 0. Each event gets the
-- states and packets as the one before left them, and nothing else writes them in between.
use Rattle.std.specs.Prelude.{List, [], ◌∷◌, ◌++◌, ℕ, zero, suc, ◌+◌, length, get_or, set}
use Rattle.std.proofs.Math.Option.{Option, none, some}
use Rattle.std.proofs.Math.ListN.{get_elem?}
use Rattle.group.specs.Choice.{when◌then◌else◌, ◌<?◌}
use Rattle.group.specs.Limits.{longest_packet}
use Rattle.group.specs.Opening.{description_of}
use Rattle.member.specs.Calls as member
use Rattle.member.specs.State.{Member, fresh_member}
use Rattle.member.specs.declared.Answer as memberAnswer
use Rattle.model.specs.declared.Reply.{Reply}
use Rattle.packet.specs.Packet.{written}
use Rattle.sequencer.specs.Calls as sequencer
use Rattle.sequencer.specs.declared.Answer as sequencerAnswer
use Rattle.sequencer.specs.State.{Sequencer}

-- a member's submit, repeat, take and status call, the sequencer's poll and copy call, and "hand packet k to member i" or
-- "to the sequencer"
pub data Event : Type 0 where
  submit : (i : ℕ) → (payload : List ℕ) → Event
  repeat : (i : ℕ) → Event
  take : (i : ℕ) → Event
  status : (i : ℕ) → Event
  poll : Event
  copy : (number : ℕ) → Event
  hand_member : (k i : ℕ) → Event
  hand_sequencer : (k : ℕ) → Event

-- what an event is answered: it names a packet or member not there, or an end's answer and the bytes that it wrote
pub data Answer : Type 0 where
  absent : Answer
  by_sequencer : sequencerAnswer.Answer → List ℕ → Answer
  by_member : memberAnswer.Answer → List ℕ → Answer

-- the answer that a reply of the code is, with the bytes that its call laid at the front of its output
unfoldable pub answer_of : Reply → List ℕ → Answer
answer_of Reply.Absent bytes = absent
answer_of (Reply.Sequencer answer) bytes = by_sequencer answer bytes
answer_of (Reply.Member answer) bytes = by_member answer bytes

pub record Group : Type 0 where
  pub sequencer : Sequencer
  pub members : List Member
  pub packets : List (List ℕ)

-- what an event leaves, and its answer
pub record Happened : Type 0 where
  pub group : Group
  pub answer : Answer

-- an event that names a packet or member not there changes nothing and writes nothing
abbrev pub missing : Group → Happened
missing g = record { group = g; answer = absent }

-- what a call of member i leaves, where `packets` are those that it wrote
abbrev pub with_member : Group → ℕ → member.Outcome → List (List ℕ) → Happened
with_member g i o packets =
    record {
      group = record { sequencer = g.sequencer; members = set g.members i o.member; packets = g.packets ++ packets };
      answer = by_member o.answer o.bytes;
    }

-- what a call of the sequencer leaves
abbrev pub with_sequencer : Group → sequencer.Outcome → Happened
with_sequencer g o =
    record {
      group = record { sequencer = o.sequencer; members = g.members; packets = g.packets ++ written o.bytes };
      answer = by_sequencer o.answer o.bytes;
    }

-- what a list of members is read as past its end
abbrev pub no_member : Member
no_member = fresh_member (description_of 0 0 0) (record { 0 = 0 })

-- a call of member i that writes packets, if there is such a member
abbrev pub at_member : Group → ℕ → (Member → member.Outcome) → Happened
at_member g i call =
    when i <? length g.members then with_member g i (call (get_or g.members i no_member)) (written (call (get_or g.members i no_member)).bytes) else
    missing g

-- a take writes a payload and no packet
abbrev pub take_at : Group → ℕ → Happened
take_at g i =
    when i <? length g.members then with_member g i (member.take_of (get_or g.members i no_member) longest_packet) [] else
    missing g

-- a packet handed over, if there is such a packet
abbrev pub hand_to_member : Group → ℕ → Option (List ℕ) → Happened
hand_to_member g i none = missing g
hand_to_member g i (some packet) = at_member g i (λ m. member.receive_of m packet longest_packet)

abbrev pub hand_to_sequencer : Group → Option (List ℕ) → Happened
hand_to_sequencer g none = missing g
hand_to_sequencer g (some packet) = with_sequencer g (sequencer.receive_of g.sequencer packet longest_packet)

-- an event; the group lends each call the output that question 2 asks
unfoldable pub happen : Group → Event → Happened
happen g (submit i payload) = at_member g i (λ m. member.submit_of m payload longest_packet)
happen g (repeat i) = at_member g i (λ m. member.repeat_of m longest_packet)
happen g (take i) = take_at g i
happen g (status i) = at_member g i (λ m. member.status_of m longest_packet)
happen g poll = with_sequencer g (sequencer.poll_of g.sequencer longest_packet)
happen g (copy number) = with_sequencer g (sequencer.copy_of g.sequencer (record { 0 = number }) longest_packet)
happen g (hand_member k i) = hand_to_member g i (get_elem? g.packets k)
happen g (hand_sequencer k) = hand_to_sequencer g (get_elem? g.packets k)

-- an event that happened stands in the list, with its answer
pub record Entry : Type 0 where
  pub event : Event
  pub answer : Answer

-- the group, and what happened to it so far
pub record World : Type 0 where
  pub group : Group
  pub log : List Entry

abbrev pub step : World → Event → World
step w event =
    record {
      group = (happen w.group event).group;
      log = w.log ++ (record { event = event; answer = (happen w.group event).answer } ∷ []);
    }

-- a list of events
unfoldable pub run : World → List Event → World
run w [] = w
run w (event ∷ rest) = run (step w event) rest

-- members i to i + k - 1, fresh
unfoldable pub fresh_members : ℕ → ℕ → ℕ → ℕ → ℕ → List Member
fresh_members n number resilience i zero = []
fresh_members n number resilience i (suc k) =
    (member.fresh_of n (record { 0 = i }) number resilience).member ∷ fresh_members n number resilience (i + 1) k

-- a fresh group has its sequencer and members 0 to n - 1 fresh, opened alike but for the member number, and no packet yet
unfoldable pub fresh : ℕ → ℕ → ℕ → World
fresh n number resilience =
    record {
      group =
          record {
            sequencer = (sequencer.fresh_of n number resilience).sequencer;
            members = fresh_members n number resilience 0 n;
            packets = [];
          };
      log = [];
    }
