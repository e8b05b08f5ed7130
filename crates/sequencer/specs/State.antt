-- What the sequencer holds: n, the group number, for each member the last number known taken, the last own count
-- numbered and the repeat count, top (last number given), the last accepted number, floor, a history of 32 places, and who confirmed
-- each number above the last accepted.
use Rattle.std.specs.Prelude.{List, ℕ, replicate}
use Rattle.group.specs.Limits.{members_most, places_most}
use Rattle.group.specs.declared.Group.{Group}
use Rattle.group.specs.declared.MemberNumber.{MemberNumber}
use Rattle.group.specs.declared.SequenceNumber.{SequenceNumber}
use Rattle.message.specs.Message.{Message, empty_message}
use Rattle.history.specs.State.{Acknowledgement, no_acknowledgement, acknowledgement_of}

pub record Sequencer : Type 0 where
  pub group : Group
  pub acknowledgements : List Acknowledgement
  pub top : SequenceNumber
  pub accepted : SequenceNumber
  pub floor : SequenceNumber
  pub history : List Message
  pub marks : List ℕ

-- the last count p of member m
abbrev pub last_count : Sequencer → MemberNumber → ℕ
last_count s m = (acknowledgement_of s.acknowledgements m).count

-- its repeat count
abbrev pub repeat_count : Sequencer → MemberNumber → ℕ
repeat_count s m = (acknowledgement_of s.acknowledgements m).repeats

-- fresh: all zero but n, r and group
unfoldable pub fresh_sequencer : Group → Sequencer
fresh_sequencer group =
    record {
      group = group;
      acknowledgements = replicate members_most no_acknowledgement;
      top = record { 0 = 0 };
      accepted = record { 0 = 0 };
      floor = record { 0 = 0 };
      history = replicate places_most empty_message;
      marks = replicate places_most 0;
    }
