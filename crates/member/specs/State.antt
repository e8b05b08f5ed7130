-- What a member holds: n, its number, group, t (last taken), the last number that it knows to be accepted, u (submissions so far), at
-- most five waiting messages (their counts are the last up to u), and 8 places for numbers t + 1 to t + 8.
use Rattle.std.specs.Prelude.{List, ℕ, ◌+◌, ◌-◌, replicate}
use Rattle.group.specs.Limits.{held_most, waiting_most, largest_number}
use Rattle.group.specs.declared.Group.{Group}
use Rattle.group.specs.declared.MemberNumber.{MemberNumber}
use Rattle.group.specs.declared.SequenceNumber.{SequenceNumber}
use Rattle.message.specs.Message.{Message, empty_message}
use Rattle.window.specs.Places.{row_end, smaller_of}

pub record Member : Type 0 where
  pub group : Group
  pub number : MemberNumber
  pub taken : SequenceNumber
  pub accepted : SequenceNumber
  pub submitted : ℕ
  pub waiting : ℕ
  pub queue : List Message
  pub held : List Message

-- its reach: the last number through which it has everything, taken or held, offered messages included; no number is over the largest
unfoldable pub reach_of : Member → ℕ
reach_of m = row_end m.held m.taken.0 (smaller_of largest_number (m.taken.0 + held_most) - m.taken.0)

-- the number that a member acknowledges in every packet that it writes: of its row the accepted messages count
unfoldable pub acknowledged_of : Member → SequenceNumber
acknowledged_of m = record { 0 = smaller_of (reach_of m) m.accepted.0 }

-- the count of the first waiting message; the next submission's where none waits
abbrev pub first_count : Member → ℕ
first_count m = m.submitted - m.waiting + 1

-- fresh: t and u zero, nothing held
unfoldable pub fresh_member : Group → MemberNumber → Member
fresh_member group number =
    record {
      group = group;
      number = number;
      taken = record { 0 = 0 };
      accepted = record { 0 = 0 };
      submitted = 0;
      waiting = 0;
      queue = replicate waiting_most empty_message;
      held = replicate held_most empty_message;
    }
