-- The executable world as the world of terminals: its terminals 0 to n - 1, and the packets that were written. With room for a packet, an
-- event does to it what `happen` says.
use Rattle.group.specs.Question.{all_yes}
use Rattle.std.specs.Prelude.{◌≡◌, List, [], ℕ, ◌+◌, ◌≤◌, ◌<◌, take, get_or}
use Rattle.group.specs.Lent.{front}
use Rattle.group.specs.Limits.{members_most, longest_packet}
use Rattle.group.specs.Question.{Verdict}
use Rattle.model.specs.World.{answer_of}
use Rattle.model.specs.declared.Reply.{Reply}
use Rattle.recovery.specs.Calls.{fresh_terminal}
use Rattle.recovery.specs.State.{Terminal}
use Rattle.recovery.specs.View.{Stored, whole, terminal_of}
use Rattle.recovery.specs.declared.Head.{Head}
use Rattle.reset.specs.World.{Group, Happened, fresh_terminals, fresh}
use Rattle.sequencer.specs.Calls.{fresh_of}
use Rattle.simulator.specs.Whole.{packets_most, list_of, Packets, packets_of, packet_at, packets_in}
use Rattle.terminal_rows.specs.Heads.{head_in}
use Rattle.terminal_rows.specs.Steps.{opened_with}
use Rattle.reset_simulator.specs.declared.Happening.{Happening}
use Rattle.reset_simulator.specs.declared.World.{World}

-- the arrays of all terminals, those of terminal i at i
pub record Rows : Type 0 where
  pub queued : List (List ℕ)
  pub held : List (List ℕ)
  pub queued_originators : List (List ℕ)
  pub queued_lengths : List (List ℕ)
  pub held_originators : List (List ℕ)
  pub held_lengths : List (List ℕ)
  pub queued_payloads : List (List ℕ)
  pub held_payloads : List (List ℕ)
  pub past : List (List ℕ)
  pub past_originators : List (List ℕ)
  pub past_lengths : List (List ℕ)
  pub past_payloads : List (List ℕ)
  pub highest : List (List ℕ)
  pub replies : List (List ℕ)
  pub taken : List (List ℕ)
  pub counts : List (List ℕ)
  pub repeats : List (List ℕ)
  pub kept : List (List ℕ)
  pub marks : List (List ℕ)
  pub originators : List (List ℕ)
  pub lengths : List (List ℕ)
  pub payloads : List (List ℕ)

abbrev pub rows_of : List (List ℕ) → List (List ℕ) → List (List ℕ) → List (List ℕ) → List (List ℕ) → List (List ℕ) → List (List ℕ) → List (List ℕ) → List (List ℕ) → List (List ℕ) → List (List ℕ) → List (List ℕ) → List (List ℕ) → List (List ℕ) → List (List ℕ) → List (List ℕ) → List (List ℕ) → List (List ℕ) → List (List ℕ) → List (List ℕ) → List (List ℕ) → List (List ℕ) → Rows
rows_of queued held queued_originators queued_lengths held_originators held_lengths queued_payloads held_payloads past past_originators past_lengths past_payloads highest replies taken counts repeats kept marks originators lengths payloads =
    record {
      queued = queued;
      held = held;
      queued_originators = queued_originators;
      queued_lengths = queued_lengths;
      held_originators = held_originators;
      held_lengths = held_lengths;
      queued_payloads = queued_payloads;
      held_payloads = held_payloads;
      past = past;
      past_originators = past_originators;
      past_lengths = past_lengths;
      past_payloads = past_payloads;
      highest = highest;
      replies = replies;
      taken = taken;
      counts = counts;
      repeats = repeats;
      kept = kept;
      marks = marks;
      originators = originators;
      lengths = lengths;
      payloads = payloads;
    }

-- the terminal whose arrays stand at i, with a head
abbrev pub stored_at : Rows → ℕ → Head → Stored
stored_at rows i head =
    whole head (get_or rows.queued i []) (get_or rows.held i []) (get_or rows.queued_originators i []) (get_or rows.queued_lengths i []) (get_or rows.held_originators i []) (get_or rows.held_lengths i []) (get_or rows.queued_payloads i []) (get_or rows.held_payloads i []) (get_or rows.past i []) (get_or rows.past_originators i []) (get_or rows.past_lengths i []) (get_or rows.past_payloads i []) (get_or rows.highest i []) (get_or rows.replies i []) (get_or rows.taken i []) (get_or rows.counts i []) (get_or rows.repeats i []) (get_or rows.kept i []) (get_or rows.marks i []) (get_or rows.originators i []) (get_or rows.lengths i []) (get_or rows.payloads i [])

-- the rows of all heads, and the arrays
pub record Terminals : Type 0 where
  pub small : List (List ℕ)
  pub masks : List (List ℕ)
  pub numbers : List (List ℕ)
  pub rows : Rows

abbrev pub terminals_of : List (List ℕ) → List (List ℕ) → List (List ℕ) → Rows → Terminals
terminals_of small masks numbers rows = record { small = small; masks = masks; numbers = numbers; rows = rows }

-- terminal i
abbrev pub head_at : Terminals → ℕ → Head
head_at t i = head_in (get_or t.small i []) (get_or t.masks i []) (get_or t.numbers i [])

unfoldable pub terminal_at : Terminals → ℕ → Terminal
terminal_at t i = terminal_of (stored_at t.rows i (head_at t i))

-- the whole
pub record Whole : Type 0 where
  pub n : ℕ
  pub terminals : Terminals
  pub packets : Packets

abbrev pub whole_of : World → List (List ℕ) → List (List ℕ) → List (List ℕ) → List (List ℕ) → List (List ℕ) → List (List ℕ) → List (List ℕ) → List (List ℕ) → List (List ℕ) → List (List ℕ) → List (List ℕ) → List (List ℕ) → List (List ℕ) → List (List ℕ) → List (List ℕ) → List (List ℕ) → List (List ℕ) → List (List ℕ) → List (List ℕ) → List (List ℕ) → List (List ℕ) → List (List ℕ) → List (List ℕ) → List (List ℕ) → List (List ℕ) → List ℕ → List (List ℕ) → Whole
whole_of world small masks numbers queued held queued_originators queued_lengths held_originators held_lengths queued_payloads held_payloads past past_originators past_lengths past_payloads highest replies taken counts repeats kept marks originators lengths payloads sizes packets =
    record {
      n = world.n;
      terminals = terminals_of small masks numbers (rows_of queued held queued_originators queued_lengths held_originators held_lengths queued_payloads held_payloads past past_originators past_lengths past_payloads highest replies taken counts repeats kept marks originators lengths payloads);
      packets = packets_of sizes packets world.count;
    }

-- the world that is run
abbrev pub group_of : Whole → Group
group_of w = record { terminals = list_of (terminal_at w.terminals) 0 w.n; packets = packets_in w.packets }

-- there is room for one packet more, and for every terminal
pub record Room (world : World) : Type 0 where
  pub packets : world.count < packets_most
  pub terminals : world.n ≤ members_most

-- nothing happened: it is answered as an event that names a packet or terminal not there
abbrev pub nothing : World → Happening
nothing world = record { world = world; reply = Reply.Absent; written = 0 }

-- the promise of an event, by what happens to the world; the bytes that a call wrote lie at the front of its output
pub record Plays (happens : Group → Happened) (world : World) (w : Whole) (r : Happening) (w' : Whole) (before after : List ℕ) : Type 0 where
  -- with room, what happens to the world
  pub group : Room world → group_of w' ≡ (happens (group_of w)).group
  pub answer : Room world → answer_of r.reply (take r.written after) ≡ (happens (group_of w)).answer
  -- without, nothing
  pub stays : (Room world → ⊥) → (r ≡ nothing world) × (w' ≡ w)
  pub lent : after ≡ front (take r.written after) before
  pub size : r.written ≤ longest_packet
  -- n stays, and there is at most one packet more: there is room until `packets_most` were written
  pub same : r.world.n ≡ world.n
  pub most : r.world.count ≤ world.count + 1
  -- of what the world does not show: no terminal from n on changes, and no packet but the one at count
  pub terminals : (j : ℕ) → world.n ≤ j → terminal_at w'.terminals j ≡ terminal_at w.terminals j
  pub packets : (k : ℕ) → (k ≡ world.count → ⊥) → packet_at w'.packets k ≡ packet_at w.packets k

-- the promise of opening, questions 18 and 24: every terminal is fresh, those from n on too, and no packet was written
pub record Opens (n number resilience : ℕ) (verdict : Verdict) (world : World) (w : Whole) : Type 0 where
  pub verdict_is : verdict ≡ (fresh_of n number resilience).verdict
  pub n_is : world.n ≡ opened_with verdict n
  pub count : world.count ≡ 0
  pub shown : group_of w ≡ record { terminals = fresh_terminals n number resilience 0 (opened_with verdict n); packets = [] }
  pub terminals : (j : ℕ) → j < members_most → terminal_at w.terminals j ≡ fresh_terminal n number resilience j
  -- where it is accepted, the world is a fresh one; there is room
  pub group : verdict ≡ all_yes → group_of w ≡ (fresh n number resilience).group
  pub room : Room world
