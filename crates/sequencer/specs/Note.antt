-- Noting an acknowledgement: the member's entry becomes the larger of old and new, floor is worked out afresh, and
-- everything up to floor is cleared to zeros.
use Rattle.std.specs.Prelude.{List, ℕ, ◌-◌}
use Rattle.group.specs.declared.MemberNumber.{MemberNumber}
use Rattle.group.specs.declared.SequenceNumber.{SequenceNumber}
use Rattle.history.specs.State.{Acknowledgement, floor_of}
use Rattle.history.specs.Note.{table_noted, cleared_of}
use Rattle.sequencer.specs.State.{Sequencer}

-- a state under a table of acknowledgements and its floor: what the floor passes is cleared
unfoldable pub with_table : Sequencer → List Acknowledgement → ℕ → Sequencer
with_table s table floor =
    record {
      group = s.group;
      acknowledgements = table;
      top = s.top;
      accepted = s.accepted;
      floor = record { 0 = floor };
      history = cleared_of s.history s.floor.0 (floor - s.floor.0);
      marks = s.marks;
    }

unfoldable pub note_of : Sequencer → MemberNumber → SequenceNumber → Sequencer
note_of s m taken =
    with_table s (table_noted s.acknowledgements m taken) (floor_of s.group.survivors (table_noted s.acknowledgements m taken))
