-- The state that the meaning speaks of, read off its parts: the table of acknowledgements off three arrays, the history off three
-- arrays of numbers and the bytes of all payloads, and the marks.
use Rattle.std.specs.Prelude.{◌≡◌, List, [], ℕ, length}
use Rattle.group.specs.Limits.{members_most, places_most}
use Rattle.store.specs.Places.{messages_in}
use Rattle.history.specs.View.{Entries, Places, table_in}
use Rattle.sequencer.specs.State.{Sequencer}
use Rattle.sequencer.specs.declared.Head.{Head}

-- what the functions are lent: a head; of each member the last number that it is known to have taken, its last count that was
-- numbered, and how often it repeated itself; of each place of the history its message's count (0: none), who confirmed it,
-- originator, length and payload
pub record Stored : Type 0 where
  pub head : Head
  pub taken : List ℕ
  pub counts : List ℕ
  pub repeats : List ℕ
  pub kept : List ℕ
  pub marks : List ℕ
  pub originators : List ℕ
  pub lengths : List ℕ
  pub payloads : List ℕ

abbrev pub whole : Head → List ℕ → List ℕ → List ℕ → List ℕ → List ℕ → List ℕ → List ℕ → List ℕ → Stored
whole head taken counts repeats kept marks originators lengths payloads =
    record {
      head = head;
      taken = taken;
      counts = counts;
      repeats = repeats;
      kept = kept;
      marks = marks;
      originators = originators;
      lengths = lengths;
      payloads = payloads;
    }

-- one of which only the head and the marks are asked
abbrev pub marks_only : Head → List ℕ → Stored
marks_only head marks = whole head [] [] [] [] marks [] [] []

unfoldable pub view_of : Stored → Sequencer
view_of s =
    record {
      group = s.head.group;
      acknowledgements = table_in s.taken s.counts s.repeats;
      top = s.head.top;
      accepted = s.head.accepted;
      floor = s.head.floor;
      history = messages_in s.kept s.originators s.lengths s.payloads;
      marks = s.marks;
    }

-- arrays of the lengths that they are declared with; and all of them but the numbers taken
pub record Fits (s : Stored) : Type 0 where
  pub entries : Entries s.taken s.counts s.repeats
  pub places : Places s.kept s.originators s.lengths s.payloads
  pub marks_size : length s.marks ≡ places_most

pub record Placed (s : Stored) : Type 0 where
  pub counts_long : length s.counts ≡ members_most
  pub repeats_long : length s.repeats ≡ members_most
  pub places : Places s.kept s.originators s.lengths s.payloads
  pub marks_size : length s.marks ≡ places_most
