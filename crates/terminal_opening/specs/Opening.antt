-- Opening a terminal: its member opens, and member 0's terminal has the sequencer. What is proved of it has its proofs in
-- `proofs/Opened.antt`.
use Rattle.group.specs.Question.{all_yes}
use Rattle.std.specs.Prelude.{Err}
use Rattle.std.specs.Prelude.{◌≡◌, false, ℕ}
use Rattle.group.specs.Opening.{description_of}
use Rattle.group.specs.Question.{judged}
use Rattle.group.specs.Wording.{verdict_wording}
use Rattle.group.specs.declared.MemberNumber.{MemberNumber}
use Rattle.group.specs.declared.Refusal.{Refusal}
use Rattle.group.specs.Question.{Verdict}
use Rattle.member.specs.Calls as member
use Rattle.member.specs.State.{fresh_member}
use Rattle.recovery.specs.Calls.{fresh_terminal}
use Rattle.recovery.specs.State.{Terminal, fresh_kept, no_reset, no_sequencer}
use Rattle.recovery.specs.View.{Stored, seen, view_of}

-- a terminal that is not opened is all zero
abbrev pub closed_terminal : Terminal
closed_terminal =
    record {
      member = fresh_member (description_of 0 0 0) (record { 0 = 0 });
      kept = fresh_kept;
      reset = no_reset;
      sequencing = false;
      frozen = false;
      sequencer = no_sequencer;
    }

-- what opening comes to: questions 18 and 24, as its member's
pub record Opening : Type 0 where
  pub terminal : Terminal
  pub verdict : Verdict

abbrev pub not_opened : Refusal → Opening
not_opened refusal = record { terminal = closed_terminal; verdict = Err refusal }

unfoldable pub fresh_of : ℕ → MemberNumber → ℕ → ℕ → Opening
fresh_of n number group resilience =
    judged (member.fresh_of n number group resilience).verdict not_opened
    (record { terminal = fresh_terminal n group resilience number.0; verdict = all_yes })

-- it answers and leaves what that says
pub record Opens (o : Opening) (verdict : Verdict) (left : Stored) : Type 0 where
  pub answer : verdict ≡ o.verdict
  pub state : view_of left ≡ seen o.terminal
  pub wording : verdict_wording verdict ≡ verdict_wording o.verdict

-- an opening that is refused leaves it all zero
abbrev pub RefusedCloses : Type 0
RefusedCloses =
    (n : ℕ) (number : MemberNumber) (group resilience : ℕ) (refusal : Refusal) → (fresh_of n number group resilience).verdict ≡ Err refusal
    → (fresh_of n number group resilience).terminal ≡ closed_terminal
