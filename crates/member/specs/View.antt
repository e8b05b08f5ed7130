-- A member in parts, read as the state that the calls' meaning speaks of: its numbers stand in its head, and its messages in arrays, their payloads side by side.
use Rattle.std.specs.Prelude.{◌≡◌, List, ℕ, ◌*◌, length}
use Rattle.group.specs.Limits.{held_most, waiting_most, payload_most}
use Rattle.store.specs.Places.{messages_in}
use Rattle.member.specs.State.{Member}
use Rattle.member.specs.declared.Head.{Head}

-- what the functions are lent: a head, and of each place of the waiting messages and of each that is held its count, 0 for none, its originator, its length
-- and its payload
pub record Stored : Type 0 where
  pub head : Head
  pub queued : List ℕ
  pub held : List ℕ
  pub queued_originators : List ℕ
  pub queued_lengths : List ℕ
  pub held_originators : List ℕ
  pub held_lengths : List ℕ
  pub queued_payloads : List ℕ
  pub held_payloads : List ℕ

abbrev pub whole : Head → List ℕ → List ℕ → List ℕ → List ℕ → List ℕ → List ℕ → List ℕ → List ℕ → Stored
whole head queued held queued_originators queued_lengths held_originators held_lengths queued_payloads held_payloads =
    record {
      head = head;
      queued = queued;
      held = held;
      queued_originators = queued_originators;
      queued_lengths = queued_lengths;
      held_originators = held_originators;
      held_lengths = held_lengths;
      queued_payloads = queued_payloads;
      held_payloads = held_payloads;
    }

unfoldable pub view_of : Stored → Member
view_of s =
    record {
      group = s.head.group;
      number = s.head.number;
      taken = s.head.taken;
      accepted = s.head.accepted;
      submitted = s.head.submitted;
      waiting = s.head.waiting;
      queue = messages_in s.queued s.queued_originators s.queued_lengths s.queued_payloads;
      held = messages_in s.held s.held_originators s.held_lengths s.held_payloads;
    }

-- its arrays have their lengths
pub record Sized (s : Stored) : Type 0 where
  pub queued_size : length s.queued ≡ waiting_most
  pub held_size : length s.held ≡ held_most
  pub queued_originators_size : length s.queued_originators ≡ waiting_most
  pub queued_lengths_size : length s.queued_lengths ≡ waiting_most
  pub held_originators_size : length s.held_originators ≡ held_most
  pub held_lengths_size : length s.held_lengths ≡ held_most
  pub queued_payloads_size : length s.queued_payloads ≡ waiting_most * payload_most
  pub held_payloads_size : length s.held_payloads ≡ held_most * payload_most
