-- A terminal in parts, read as the state that the calls' meaning speaks of: numbers in its head, with its member's and its sequencer's
-- heads among them, and arrays.
use Rattle.std.specs.Prelude.{◌≡◌, Bool, List, ℕ, length}
use Rattle.group.specs.Choice.{when◌then◌else◌, ◌and◌, ◌≤?◌, ◌=?◌}
use Rattle.group.specs.Limits.{members_most}
use Rattle.store.specs.Places.{messages_in}
use Rattle.history.specs.View.{Places}
use Rattle.member.specs.View as member
use Rattle.sequencer.specs.View as sequencer
use Rattle.recovery.specs.State.{Kept, Reset, Terminal}
use Rattle.recovery.specs.declared.Head.{Head}

-- what the functions are lent beside the head: the member's arrays; of each place of the last messages taken its count, 0 for none, its
-- originator, its length and its payload; each originator's highest count among all taken; each replier's number; the sequencer's arrays
pub record Stored : Type 0 where
  pub head : Head
  pub queued : List ℕ
  pub held : List ℕ
  pub queued_originators : List ℕ
  pub queued_lengths : List ℕ
  pub held_originators : List ℕ
  pub held_lengths : List ℕ
  pub queued_payloads : List ℕ
  pub held_payloads : List ℕ
  pub past : List ℕ
  pub past_originators : List ℕ
  pub past_lengths : List ℕ
  pub past_payloads : List ℕ
  pub highest : List ℕ
  pub replies : List ℕ
  pub taken : List ℕ
  pub counts : List ℕ
  pub repeats : List ℕ
  pub kept : List ℕ
  pub marks : List ℕ
  pub originators : List ℕ
  pub lengths : List ℕ
  pub payloads : List ℕ

abbrev pub whole : Head → List ℕ → List ℕ → List ℕ → List ℕ → List ℕ → List ℕ → List ℕ → List ℕ → List ℕ → List ℕ → List ℕ → List ℕ → List ℕ → List ℕ → List ℕ → List ℕ → List ℕ → List ℕ → List ℕ → List ℕ → List ℕ → List ℕ → Stored
whole head queued held queued_originators queued_lengths held_originators held_lengths queued_payloads held_payloads past past_originators past_lengths past_payloads highest replies taken counts repeats kept marks originators lengths payloads =
    record {
      head = head;
      queued = queued;
      held = held;
      queued_originators = queued_originators;
      queued_lengths = queued_lengths;
      held_originators = held_originators;
      held_lengths = held_lengths;
      queued_payloads = queued_payloads;
      held_payloads = held_payloads;
      past = past;
      past_originators = past_originators;
      past_lengths = past_lengths;
      past_payloads = past_payloads;
      highest = highest;
      replies = replies;
      taken = taken;
      counts = counts;
      repeats = repeats;
      kept = kept;
      marks = marks;
      originators = originators;
      lengths = lengths;
      payloads = payloads;
    }

-- the member's parts, and the sequencer's
abbrev pub member_in : Stored → member.Stored
member_in s =
    member.whole s.head.member s.queued s.held s.queued_originators s.queued_lengths s.held_originators s.held_lengths s.queued_payloads s.held_payloads

abbrev pub sequencer_in : Stored → sequencer.Stored
sequencer_in s =
    sequencer.whole s.head.sequencer s.taken s.counts s.repeats s.kept s.marks s.originators s.lengths s.payloads

-- what it keeps, and its part in a reset: a flag is set if it is 1
abbrev pub kept_in : Head → List ℕ → List ℕ → List ℕ → List ℕ → List ℕ → Kept
kept_in head past past_originators past_lengths past_payloads highest =
    record { read = head.read; past = messages_in past past_originators past_lengths past_payloads; counts = highest }

abbrev pub reset_in : Head → List ℕ → Reset
reset_in head replies =
    record {
      replied = head.replied =? 1;
      attempt = head.attempt;
      number = head.number;
      inviting = head.inviting =? 1;
      invited = head.invited;
      repliers = head.repliers;
      replies = replies;
    }

-- the terminal
unfoldable pub terminal_of : Stored → Terminal
terminal_of s =
    record {
      member = member.view_of (member_in s);
      kept = kept_in s.head s.past s.past_originators s.past_lengths s.past_payloads s.highest;
      reset = reset_in s.head s.replies;
      sequencing = s.head.sequencing =? 1;
      frozen = s.head.frozen =? 1;
      sequencer = sequencer.view_of (sequencer_in s);
    }

-- each flag is 0 or 1
unfoldable pub flags_sound : Head → Bool
flags_sound head = head.replied ≤? 1 and head.inviting ≤? 1 and head.sequencing ≤? 1 and head.frozen ≤? 1

-- what is seen of the parts: a terminal; or, where a flag is neither 0 nor 1, the parts as they are, which no call changes
pub data View : Type 0 where
  seen : Terminal → View
  odd : Stored → View

unfoldable pub view_of : Stored → View
view_of s = when flags_sound s.head then seen (terminal_of s) else odd s

-- arrays of the lengths that they are declared with
pub record Sized (s : Stored) : Type 0 where
  pub member : member.Sized (member_in s)
  pub past : Places s.past s.past_originators s.past_lengths s.past_payloads
  pub highest_size : length s.highest ≡ members_most
  pub replies_size : length s.replies ≡ members_most
  pub sequencer : sequencer.Fits (sequencer_in s)

-- the view loses nothing
abbrev pub ViewWhole : Type 0
ViewWhole = (s t : Stored) → Sized s → Sized t → view_of s ≡ view_of t → s ≡ t
