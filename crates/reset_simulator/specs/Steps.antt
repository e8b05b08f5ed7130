-- What the steps inside the code promise, in terms of the parts of the world that each is lent.
use Rattle.std.specs.Prelude.{◌≡◌, List, [], ◌++◌, ℕ, ◌<◌, length, take, set}
use Rattle.std.proofs.Math.Option.{Option, none, some}
use Rattle.std.proofs.Math.ListN.{get_elem?}
use Rattle.group.specs.Choice.{when◌then◌else◌, ◌<?◌}
use Rattle.group.specs.Lent.{front}
use Rattle.group.specs.Limits.{members_most, longest_packet}
use Rattle.model.specs.World.{answer_of}
use Rattle.model.specs.declared.Reply.{Reply}
use Rattle.packet.specs.Packet.{written}
use Rattle.recovery.specs.Calls.{fresh_terminal, Outcome, SequencerOutcome, submit_of, repeat_of, status_of, take_of, receive_of, invite_of, make_of, order_of, poll_of, copy_of}
use Rattle.recovery.specs.State.{Terminal}
use Rattle.recovery.specs.View as View
use Rattle.recovery.specs.View.{Stored, terminal_of}
use Rattle.recovery.specs.declared.Head.{Head}
use Rattle.reset.specs.World as reset
use Rattle.reset.specs.World.{Group, Happened, missing}
use Rattle.terminal_rows.specs.Steps.{kept_size, admits_of, of_member, of_sequencer}
use Rattle.terminal_rows.specs.declared.Call.{Call}
use Rattle.terminal_rows.specs.declared.Call.TheVariants.{Submit, Repeat, Take, Status, Receive, Invite, Make, Order, Poll, Copy, Open}
use Rattle.terminal_rows.specs.declared.MemberCall.{MemberCall}
use Rattle.terminal_rows.specs.declared.SequencerCall.{SequencerCall}
use Rattle.reset_simulator.specs.Whole.{Rows, stored_at, Terminals, terminal_at}
use Rattle.reset_simulator.specs.declared.Called.{Called}

-- what a call comes to, of either end
pub record Came : Type 0 where
  pub terminal : Terminal
  pub reply : Reply
  pub bytes : List ℕ

abbrev pub by_member : Outcome → Came
by_member o = record { terminal = o.terminal; reply = Reply.Member o.answer; bytes = o.bytes }

abbrev pub by_sequencer : SequencerOutcome → Came
by_sequencer o = record { terminal = o.terminal; reply = Reply.Sequencer o.answer; bytes = o.bytes }

-- no answer of either end
abbrev pub absent_at : Terminal → Came
absent_at t = record { terminal = t; reply = Reply.Absent; bytes = [] }

-- a call with the bytes that it comes with and that much room
unfoldable pub came_of : Call → List ℕ → ℕ → Terminal → Came
came_of Submit bytes room t = by_member (submit_of t bytes room)
came_of Repeat bytes room t = by_member (repeat_of t room)
came_of Take bytes room t = by_member (take_of t room)
came_of Status bytes room t = by_member (status_of t room)
came_of Receive bytes room t = by_member (receive_of t bytes room)
came_of (Invite number) bytes room t = by_member (invite_of t number room)
came_of (Make demand) bytes room t = by_member (make_of t demand room)
came_of Order bytes room t = by_sequencer (order_of t bytes room)
came_of Poll bytes room t = by_sequencer (poll_of t room)
came_of (Copy number) bytes room t = by_sequencer (copy_of t number room)
came_of (Open n number resilience i) bytes room t = absent_at (fresh_terminal n number resilience i)

-- the same, if the terminal can be called so
unfoldable pub came_at : Call → List ℕ → ℕ → Terminal → Came
came_at call bytes room t = when admits_of call t.sequencing then came_of call bytes room t else absent_at t

-- there are arrays for every terminal
pub record FullRows (rows : Rows) : Type 0 where
  pub queued : length rows.queued ≡ members_most
  pub held : length rows.held ≡ members_most
  pub queued_originators : length rows.queued_originators ≡ members_most
  pub queued_lengths : length rows.queued_lengths ≡ members_most
  pub held_originators : length rows.held_originators ≡ members_most
  pub held_lengths : length rows.held_lengths ≡ members_most
  pub queued_payloads : length rows.queued_payloads ≡ members_most
  pub held_payloads : length rows.held_payloads ≡ members_most
  pub past : length rows.past ≡ members_most
  pub past_originators : length rows.past_originators ≡ members_most
  pub past_lengths : length rows.past_lengths ≡ members_most
  pub past_payloads : length rows.past_payloads ≡ members_most
  pub highest : length rows.highest ≡ members_most
  pub replies : length rows.replies ≡ members_most
  pub taken : length rows.taken ≡ members_most
  pub counts : length rows.counts ≡ members_most
  pub repeats : length rows.repeats ≡ members_most
  pub kept : length rows.kept ≡ members_most
  pub marks : length rows.marks ≡ members_most
  pub originators : length rows.originators ≡ members_most
  pub lengths : length rows.lengths ≡ members_most
  pub payloads : length rows.payloads ≡ members_most

-- a call on the arrays of a terminal
pub record CallsOn (o : Came) (r : Called) (left : Stored) (before after : List ℕ) : Type 0 where
  pub answer : r.reply ≡ o.reply
  pub size : r.written ≡ length o.bytes
  pub state : terminal_of left ≡ o.terminal
  pub lent : after ≡ front o.bytes before

-- its member's look at no array of the sequencer, and its sequencer's at no other: they hold whatever those are
abbrev pub MemberCallsOn : MemberCall → List ℕ → Head → List ℕ → List ℕ → List ℕ → List ℕ → List ℕ → List ℕ → List ℕ → List ℕ → List ℕ → List ℕ → List ℕ → List ℕ → List ℕ → List ℕ → Called → List ℕ → List ℕ → List ℕ → List ℕ → List ℕ → List ℕ → List ℕ → List ℕ → List ℕ → List ℕ → List ℕ → List ℕ → List ℕ → List ℕ → List ℕ → List ℕ → Type 0
MemberCallsOn call bytes head queued held queued_originators queued_lengths held_originators held_lengths queued_payloads held_payloads past past_originators past_lengths past_payloads highest replies r queued' held' queued_originators' queued_lengths' held_originators' held_lengths' queued_payloads' held_payloads' past' past_originators' past_lengths' past_payloads' highest' replies' before after =
    (taken counts repeats kept marks originators lengths payloads : List ℕ)
    → CallsOn (came_of (of_member call) bytes (length before) (terminal_of (View.whole head queued held queued_originators queued_lengths held_originators held_lengths queued_payloads held_payloads past past_originators past_lengths past_payloads highest replies taken counts repeats kept marks originators lengths payloads))) r (View.whole r.head queued' held' queued_originators' queued_lengths' held_originators' held_lengths' queued_payloads' held_payloads' past' past_originators' past_lengths' past_payloads' highest' replies' taken counts repeats kept marks originators lengths payloads) before after

abbrev pub SequencerCallsOn : SequencerCall → List ℕ → Head → List ℕ → List ℕ → List ℕ → List ℕ → List ℕ → List ℕ → List ℕ → List ℕ → Called → List ℕ → List ℕ → List ℕ → List ℕ → List ℕ → List ℕ → List ℕ → List ℕ → List ℕ → List ℕ → Type 0
SequencerCallsOn call bytes head taken counts repeats kept marks originators lengths payloads r taken' counts' repeats' kept' marks' originators' lengths' payloads' before after =
    (queued held queued_originators queued_lengths held_originators held_lengths queued_payloads held_payloads past past_originators past_lengths past_payloads highest replies : List ℕ)
    → CallsOn (came_of (of_sequencer call) bytes (length before) (terminal_of (View.whole head queued held queued_originators queued_lengths held_originators held_lengths queued_payloads held_payloads past past_originators past_lengths past_payloads highest replies taken counts repeats kept marks originators lengths payloads))) r (View.whole r.head queued held queued_originators queued_lengths held_originators held_lengths queued_payloads held_payloads past past_originators past_lengths past_payloads highest replies taken' counts' repeats' kept' marks' originators' lengths' payloads') before after

-- a call of the terminal whose arrays stand at i; the others keep theirs
pub record CallsRow (call : Call) (i : ℕ) (bytes : List ℕ) (head : Head) (rows : Rows) (r : Called) (rows' : Rows) (before after : List ℕ) : Type 0 where
  pub own : CallsOn (came_of call bytes (length before) (terminal_of (stored_at rows i head))) r (stored_at rows' i r.head) before after
  pub others : (j : ℕ) (h : Head) → (j ≡ i → ⊥) → stored_at rows' j h ≡ stored_at rows j h

-- a call of terminal i, if it can be called so
pub record CallsAt (call : Call) (i : ℕ) (bytes : List ℕ) (t : Terminals) (r : Called) (t' : Terminals) (before after : List ℕ) : Type 0 where
  pub answer : r.reply ≡ (came_at call bytes (length before) (terminal_at t i)).reply
  pub size : r.written ≡ length (came_at call bytes (length before) (terminal_at t i)).bytes
  pub state : terminal_at t' i ≡ (came_at call bytes (length before) (terminal_at t i)).terminal
  pub lent : after ≡ front (came_at call bytes (length before) (terminal_at t i)).bytes before
  pub others : (j : ℕ) → (j ≡ i → ⊥) → terminal_at t' j ≡ terminal_at t j

-- what an event of terminal i leaves
abbrev pub leads : Group → ℕ → Call → Came → Happened
leads g i call o =
    record {
      group =
          record {
            terminals = set g.terminals i o.terminal;
            packets = g.packets ++ written (take (kept_size call (length o.bytes)) o.bytes);
          };
      answer = answer_of o.reply o.bytes;
    }

-- an event of terminal i, if there is such a terminal
unfoldable pub happened_at : Call → ℕ → List ℕ → Group → Happened
happened_at call i bytes g =
    when i <? length g.terminals then leads g i call (came_at call bytes longest_packet (reset.terminal_at g i)) else
    missing g

-- a packet handed over, if there is such a packet
unfoldable pub handed_by : Call → ℕ → Group → Option (List ℕ) → Happened
handed_by call i g none = missing g
handed_by call i g (some packet) = happened_at call i packet g

unfoldable pub handed_to : Call → ℕ → ℕ → Group → Happened
handed_to call k i g = handed_by call i g (get_elem? g.packets k)

-- the terminals below k are fresh
abbrev pub Begun : ℕ → ℕ → ℕ → Terminals → ℕ → Type 0
Begun n number resilience t k = (j : ℕ) → j < k → terminal_at t j ≡ fresh_terminal n number resilience j
