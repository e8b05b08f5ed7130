-- What the steps inside the code promise, in terms of the parts of the group that each is lent.
use Rattle.std.specs.Prelude.{◌≡◌, List, ◌++◌, Bool, ℕ, ◌+◌, ◌≤◌, ◌<◌, length, take, get_or}
use Rattle.std.proofs.Math.ListN.{get_elem?}
use Rattle.group.specs.Choice.{when◌then◌else◌, ◌and◌, ◌<?◌, ◌≤?◌}
use Rattle.group.specs.Lent.{front}
use Rattle.group.specs.Limits.{members_most, longest_packet}
use Rattle.member.specs.Calls as member
use Rattle.member.specs.Promise as memberPromise
use Rattle.member.specs.State.{Member, fresh_member}
use Rattle.member.specs.View as memberView
use Rattle.member.specs.declared.Done as memberDone
use Rattle.member.specs.declared.Head as memberHead
use Rattle.member.specs.declared.Reply as memberReply
use Rattle.model.specs.World.{answer_of, Group, Happened, missing, with_member, with_sequencer, no_member, hand_to_member, hand_to_sequencer}
use Rattle.model.specs.declared.Reply.{Reply}
use Rattle.packet.specs.Packet.{written}
use Rattle.sequencer.specs.Calls as sequencer
use Rattle.sequencer.specs.Promise as sequencerPromise
use Rattle.sequencer.specs.State.{Sequencer}
use Rattle.sequencer.specs.View as sequencerView
use Rattle.sequencer.specs.declared.Reply as sequencerReply
use Rattle.simulator.specs.Whole.{packets_most, Room, Rows, stored_at, Terminals, member_at, members_in, Packets, packet_at, packets_in}
use Rattle.simulator.specs.declared.Happening.{Happening}
use Rattle.simulator.specs.declared.Head.{Head}
use Rattle.simulator.specs.declared.MemberCall.{MemberCall}
use Rattle.simulator.specs.declared.MemberCall.TheVariants.{Submit, Repeat, Take, Status, Receive}
use Rattle.simulator.specs.declared.SequencerCall.{SequencerCall}
use Rattle.simulator.specs.declared.SequencerCall.TheVariants as at

-- whether there is room for one packet more, and for every member
unfoldable pub room_of : ℕ → ℕ → Bool
room_of count n = count <? packets_most and n ≤? members_most

-- whether there is room, and k lies below a limit
unfoldable pub there_of : ℕ → ℕ → ℕ → ℕ → Bool
there_of count n k limit = room_of count n and k <? limit

-- how many bytes a stored packet has: its length, where its array has as many
unfoldable pub fitting_of : ℕ → ℕ
fitting_of size = when size <? longest_packet then size else longest_packet

-- a take writes a payload and no packet
unfoldable pub kept_size : MemberCall → ℕ → ℕ
kept_size Submit size = size
kept_size Repeat size = size
kept_size Take size = 0
kept_size Status size = size
kept_size Receive size = size

-- the outcome of a call, with the bytes that it comes with and that much room
unfoldable pub outcome_of : MemberCall → List ℕ → ℕ → Member → member.Outcome
outcome_of Submit bytes room m = member.submit_of m bytes room
outcome_of Repeat bytes room m = member.repeat_of m room
outcome_of Take bytes room m = member.take_of m room
outcome_of Status bytes room m = member.status_of m room
outcome_of Receive bytes room m = member.receive_of m bytes room

unfoldable pub outcome_here : SequencerCall → List ℕ → ℕ → Sequencer → sequencer.Outcome
outcome_here at.Receive bytes room s = sequencer.receive_of s bytes room
outcome_here at.Poll bytes room s = sequencer.poll_of s room
outcome_here (at.Copy number) bytes room s = sequencer.copy_of s number room

-- there are arrays for every member
pub record Full (rows : Rows) : Type 0 where
  pub queued : length rows.queued ≡ members_most
  pub held : length rows.held ≡ members_most
  pub queued_originators : length rows.queued_originators ≡ members_most
  pub queued_lengths : length rows.queued_lengths ≡ members_most
  pub held_originators : length rows.held_originators ≡ members_most
  pub held_lengths : length rows.held_lengths ≡ members_most
  pub queued_payloads : length rows.queued_payloads ≡ members_most
  pub held_payloads : length rows.held_payloads ≡ members_most

-- a call of the member whose arrays stand at i; the others keep theirs
pub record CallsMember (call : MemberCall) (i : ℕ) (bytes : List ℕ) (head : memberHead.Head) (rows : Rows) (r : memberDone.Done) (rows' : Rows) (before after : List ℕ) : Type 0 where
  pub call_is : memberPromise.Changed (outcome_of call bytes (length before) (memberView.view_of (stored_at rows i head))) r.reply (stored_at rows' i r.head) before after
  pub others : (j : ℕ) (h : memberHead.Head) → (j ≡ i → ⊥) → stored_at rows' j h ≡ stored_at rows j h

-- the same of member i of the group
pub record CallsAt (call : MemberCall) (i : ℕ) (bytes : List ℕ) (t : Terminals) (reply : memberReply.Reply) (t' : Terminals) (before after : List ℕ) : Type 0 where
  pub answer : reply ≡ memberPromise.reply_of (outcome_of call bytes (length before) (member_at t i))
  pub state : member_at t' i ≡ (outcome_of call bytes (length before) (member_at t i)).member
  pub lent : after ≡ front (outcome_of call bytes (length before) (member_at t i)).bytes before
  pub others : (j : ℕ) → (j ≡ i → ⊥) → member_at t' j ≡ member_at t j

-- a call of the sequencer
abbrev pub CallsSequencer : SequencerCall → List ℕ → sequencerView.Stored → sequencerReply.Reply → sequencerView.Stored → List ℕ → List ℕ → Type 0
CallsSequencer call bytes s reply s' before after =
    sequencerPromise.Changed (outcome_here call bytes (length before) (sequencerView.view_of s)) reply s' before after

-- a packet of that size was stored behind the others, or none
pub record Stores (p : Packets) (size : ℕ) (bytes : List ℕ) (p' : Packets) : Type 0 where
  pub packets : packets_in p' ≡ packets_in p ++ written (take size bytes)
  pub most : p'.count ≤ p.count + 1
  pub others : (k : ℕ) → (k ≡ p.count → ⊥) → packet_at p' k ≡ packet_at p k
  pub full : length bytes ≡ longest_packet

-- an event of member i, if there is such a member: it happens to every group that has these members and packets
unfoldable pub happened_at : MemberCall → ℕ → List ℕ → Group → Happened
happened_at call i bytes g =
    when i <? length g.members
    then with_member g i (outcome_of call bytes longest_packet (get_or g.members i no_member))
    (written (take (kept_size call (length (outcome_of call bytes longest_packet (get_or g.members i no_member)).bytes)) (outcome_of call bytes longest_packet (get_or g.members i no_member)).bytes))
    else missing g

unfoldable pub happened_here : SequencerCall → List ℕ → Group → Happened
happened_here call bytes g = with_sequencer g (outcome_here call bytes longest_packet g.sequencer)

-- a packet handed over, if there is such a packet
unfoldable pub handed_to : ℕ → ℕ → Group → Happened
handed_to k i g = hand_to_member g i (get_elem? g.packets k)

unfoldable pub handed_here : ℕ → Group → Happened
handed_here k g = hand_to_sequencer g (get_elem? g.packets k)

-- nothing happened: it is answered as an event that names a packet or member not there
abbrev pub nothing : Head → Happening
nothing head = record { head = head; reply = Reply.Absent; written = 0 }

-- what an event of a member gives, whatever the sequencer is
pub record Acts (happened : Group → Happened) (head : Head) (t : Terminals) (p : Packets) (r : Happening) (t' : Terminals) (p' : Packets) (before after : List ℕ) : Type 0 where
  pub group : Room head → (s : Sequencer)
      → record { sequencer = s; members = members_in t'; packets = packets_in p' } ≡ (happened (record { sequencer = s; members = members_in t; packets = packets_in p })).group
  pub answer : Room head → (s : Sequencer) → answer_of r.reply (take r.written after) ≡ (happened (record { sequencer = s; members = members_in t; packets = packets_in p })).answer
  pub stays : (Room head → ⊥) → (r ≡ nothing head) × (t' ≡ t) × (p' ≡ p)
  pub lent : after ≡ front (take r.written after) before
  pub size : r.written ≤ longest_packet
  pub same : r.head.sequencer ≡ head.sequencer
  pub most : r.head.count ≤ head.count + 1
  pub members : (j : ℕ) → t.group.n ≤ j → member_at t' j ≡ member_at t j
  pub packets : (k : ℕ) → (k ≡ p.count → ⊥) → packet_at p' k ≡ packet_at p k

-- what an event of the sequencer gives, whoever the members are
pub record Sequences (happened : Group → Happened) (head : Head) (s : sequencerView.Stored) (p : Packets) (r : Happening) (s' : sequencerView.Stored) (p' : Packets) (before after : List ℕ) : Type 0 where
  pub group : Room head → (members : List Member)
      → record { sequencer = sequencerView.view_of s'; members = members; packets = packets_in p' } ≡ (happened (record { sequencer = sequencerView.view_of s; members = members; packets = packets_in p })).group
  pub answer : Room head → (members : List Member)
      → answer_of r.reply (take r.written after) ≡ (happened (record { sequencer = sequencerView.view_of s; members = members; packets = packets_in p })).answer
  pub stays : (Room head → ⊥) → (r ≡ nothing head) × (s' ≡ s) × (p' ≡ p)
  pub lent : after ≡ front (take r.written after) before
  pub size : r.written ≤ longest_packet
  pub same : r.head.sequencer.group ≡ head.sequencer.group
  pub most : r.head.count ≤ head.count + 1
  pub packets : (k : ℕ) → (k ≡ p.count → ⊥) → packet_at p' k ≡ packet_at p k

-- member i is as fresh as can be, with the description that it shares; the others keep their state
pub record BegunAt (i : ℕ) (t t' : Terminals) : Type 0 where
  pub state : member_at t' i ≡ fresh_member t.group (record { 0 = i })
  pub others : (j : ℕ) → (j ≡ i → ⊥) → member_at t' j ≡ member_at t j

-- the members below k are
abbrev pub Begun : Terminals → ℕ → Type 0
Begun t k = (j : ℕ) → j < k → member_at t j ≡ fresh_member t.group (record { 0 = j })
