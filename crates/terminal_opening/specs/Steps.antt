-- What the steps inside the code promise. No call's promise speaks of these.
use Rattle.std.specs.Prelude.{Ok, Err}
use Rattle.std.specs.Prelude.{ℕ}
use Rattle.group.specs.Choice.{when◌then◌else◌, ◌=?◌}
use Rattle.group.specs.declared.MemberNumber.{MemberNumber}
use Rattle.group.specs.Question.{Verdict}
use Rattle.member.specs.declared.Head as member
use Rattle.sequencer.specs.declared.Head as sequencer
use Rattle.recovery.specs.declared.Head.{Head}

-- an opened terminal has the sequencer (1: yes, 0: no) if it is member 0's
unfoldable pub sequencing_of : Verdict → MemberNumber → ℕ
sequencing_of (Ok _) number = when number.0 =? 0 then 1 else 0
sequencing_of (Err refusal) number = 0

-- the head of both ends, with no part in a reset
abbrev pub fresh_head : member.Head → sequencer.Head → ℕ → Head
fresh_head m s sequencing =
    record {
      member = m;
      sequencer = s;
      read = record { 0 = 0 };
      attempt = 0;
      number = record { 0 = 0 };
      invited = 0;
      repliers = 0;
      replied = 0;
      inviting = 0;
      sequencing = sequencing;
      frozen = 0;
    }
