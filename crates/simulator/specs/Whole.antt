-- The executable group as the group of demand 3: its sequencer, its members 0 to n - 1, and the packets that were written. With room
-- for a packet, an event does to it what `happen` says.
use Rattle.group.specs.Question.{all_yes}
use Rattle.std.specs.Prelude.{◌≡◌, List, [], ◌∷◌, ℕ, zero, suc, ◌+◌, ◌≤◌, ◌<◌, take, get_or}
use Rattle.group.specs.Lent.{front}
use Rattle.group.specs.Limits.{members_most, longest_packet}
use Rattle.group.specs.declared.Group as group
use Rattle.group.specs.Question.{Verdict}
use Rattle.member.specs.State.{Member, fresh_member}
use Rattle.member.specs.View as memberView
use Rattle.member.specs.declared.Head as member
use Rattle.model.specs.World.{Event, answer_of, Group, happen, fresh_members, fresh}
use Rattle.model.specs.declared.Reply.{Reply}
use Rattle.sequencer.specs.Calls as sequencer
use Rattle.sequencer.specs.View as sequencerView
use Rattle.simulator.specs.declared.Head.{Head}

-- the packets that a schedule has room for; `PACKETS` of the code is the same
abbrev pub packets_most : ℕ
packets_most = 200

-- the k values of a function from i on
unfoldable pub list_of : {A : Type 0} → (ℕ → A) → ℕ → ℕ → List A
list_of f i zero = []
list_of f i (suc k) = f i ∷ list_of f (i + 1) k

-- the arrays of all members, those of member i at i
pub record Rows : Type 0 where
  pub queued : List (List ℕ)
  pub held : List (List ℕ)
  pub queued_originators : List (List ℕ)
  pub queued_lengths : List (List ℕ)
  pub held_originators : List (List ℕ)
  pub held_lengths : List (List ℕ)
  pub queued_payloads : List (List ℕ)
  pub held_payloads : List (List ℕ)

abbrev pub rows_of : List (List ℕ) → List (List ℕ) → List (List ℕ) → List (List ℕ) → List (List ℕ) → List (List ℕ) → List (List ℕ) → List (List ℕ) → Rows
rows_of queued held queued_originators queued_lengths held_originators held_lengths queued_payloads held_payloads =
    record {
      queued = queued;
      held = held;
      queued_originators = queued_originators;
      queued_lengths = queued_lengths;
      held_originators = held_originators;
      held_lengths = held_lengths;
      queued_payloads = queued_payloads;
      held_payloads = held_payloads;
    }

-- the member whose arrays stand at i, with a head
abbrev pub stored_at : Rows → ℕ → member.Head → memberView.Stored
stored_at rows i head =
    memberView.whole head (get_or rows.queued i []) (get_or rows.held i []) (get_or rows.queued_originators i []) (get_or rows.queued_lengths i [])
    (get_or rows.held_originators i []) (get_or rows.held_lengths i []) (get_or rows.queued_payloads i []) (get_or rows.held_payloads i [])

-- all members: the description of their group, the numbers of each, and their arrays
pub record Terminals : Type 0 where
  pub group : group.Group
  pub numbers : List (List ℕ)
  pub rows : Rows

abbrev pub terminals_of : group.Group → List (List ℕ) → Rows → Terminals
terminals_of group numbers rows = record { group = group; numbers = numbers; rows = rows }

-- the head of member i: what it took last, what it knows to be accepted, its submissions, and how many of them wait
abbrev pub head_in : group.Group → ℕ → List ℕ → member.Head
head_in group i numbers =
    record {
      group = group;
      number = record { 0 = i };
      taken = record { 0 = get_or numbers 0 0 };
      accepted = record { 0 = get_or numbers 1 0 };
      submitted = get_or numbers 2 0;
      waiting = get_or numbers 3 0;
    }

unfoldable pub member_at : Terminals → ℕ → Member
member_at t i = memberView.view_of (stored_at t.rows i (head_in t.group i (get_or t.numbers i [])))

abbrev pub members_in : Terminals → List Member
members_in t = list_of (member_at t) 0 t.group.n

-- the packets: the length and the bytes of each, and how many were written
pub record Packets : Type 0 where
  pub sizes : List ℕ
  pub bytes : List (List ℕ)
  pub count : ℕ

abbrev pub packets_of : List ℕ → List (List ℕ) → ℕ → Packets
packets_of sizes bytes count = record { sizes = sizes; bytes = bytes; count = count }

unfoldable pub packet_at : Packets → ℕ → List ℕ
packet_at p k = take (get_or p.sizes k 0) (get_or p.bytes k [])

abbrev pub packets_in : Packets → List (List ℕ)
packets_in p = list_of (packet_at p) 0 p.count

-- the whole
pub record Whole : Type 0 where
  pub sequencer : sequencerView.Stored
  pub terminals : Terminals
  pub packets : Packets

abbrev pub whole_of : Head → List ℕ → List ℕ → List ℕ → List ℕ → List ℕ → List ℕ → List ℕ → List ℕ → List (List ℕ) → List (List ℕ) → List (List ℕ)
    → List (List ℕ) → List (List ℕ) → List (List ℕ) → List (List ℕ) → List (List ℕ) → List (List ℕ) → List ℕ → List (List ℕ) → Whole
whole_of head taken counts repeats kept marks originators lengths payloads numbers queued held queued_originators queued_lengths held_originators held_lengths queued_payloads held_payloads sizes packets =
    record {
      sequencer = sequencerView.whole head.sequencer taken counts repeats kept marks originators lengths payloads;
      terminals = terminals_of head.sequencer.group numbers (rows_of queued held queued_originators queued_lengths held_originators held_lengths queued_payloads held_payloads);
      packets = packets_of sizes packets head.count;
    }

-- the group that is run
abbrev pub group_of : Whole → Group
group_of w = record { sequencer = sequencerView.view_of w.sequencer; members = members_in w.terminals; packets = packets_in w.packets }

-- there is room for one packet more, and for every member
pub record Room (head : Head) : Type 0 where
  pub packets : head.count < packets_most
  pub members : head.sequencer.group.n ≤ members_most

-- nothing happened
pub record Stays (head : Head) (w : Whole) (head' : Head) (reply : Reply) (written : ℕ) (w' : Whole) : Type 0 where
  pub head_is : head' ≡ head
  pub reply_is : reply ≡ Reply.Absent
  pub written_is : written ≡ 0
  pub whole_is : w' ≡ w

-- the promise of an event; the bytes that a call wrote lie at the front of its output
pub record Plays (event : Event) (head : Head) (w : Whole) (head' : Head) (reply : Reply) (written : ℕ) (w' : Whole) (before after : List ℕ) : Type 0 where
  -- with room, what happens to the group
  pub group : Room head → group_of w' ≡ (happen (group_of w) event).group
  pub answer : Room head → answer_of reply (take written after) ≡ (happen (group_of w) event).answer
  -- without, nothing
  pub stays : (Room head → ⊥) → Stays head w head' reply written w'
  pub lent : after ≡ front (take written after) before
  pub size : written ≤ longest_packet
  -- n stays, and there is at most one packet more: there is room until `packets_most` were written
  pub same : head'.sequencer.group.n ≡ head.sequencer.group.n
  pub most : head'.count ≤ head.count + 1
  -- of what the group does not show: no member from n on changes, and no packet but the one at count
  pub members : (j : ℕ) → w.terminals.group.n ≤ j → member_at w'.terminals j ≡ member_at w.terminals j
  pub packets : (k : ℕ) → (k ≡ head.count → ⊥) → packet_at w'.packets k ≡ packet_at w.packets k

-- the group that an opening shows: where n or the resilience degree is refused, its sequencer has no member
abbrev pub opened_group : ℕ → ℕ → ℕ → Group
opened_group n number resilience =
    record {
      sequencer = (sequencer.fresh_of n number resilience).sequencer;
      members = fresh_members n number resilience 0 (sequencer.fresh_of n number resilience).sequencer.group.n;
      packets = [];
    }

-- the promise of opening, questions 18 and 24: every member is fresh, those from n on too, and no packet was written
pub record Opens (n number resilience : ℕ) (verdict : Verdict) (head : Head) (w : Whole) : Type 0 where
  pub verdict_is : verdict ≡ (sequencer.fresh_of n number resilience).verdict
  pub shown : group_of w ≡ opened_group n number resilience
  pub members : (j : ℕ) → j < members_most → member_at w.terminals j ≡ fresh_member head.sequencer.group (record { 0 = j })
  pub count : head.count ≡ 0
  -- where it is accepted, the group is a fresh one; there is room
  pub group : verdict ≡ all_yes → group_of w ≡ (fresh n number resilience).group
  pub room : Room head
