-- What each call of the sequencer promises: its answer, the state that it leaves and every byte of the lent output are those of its
-- outcome, for every state, sound or not, and every input.
use Rattle.std.specs.Prelude.{◌≡◌, List, ℕ, length}
use Rattle.group.specs.Lent.{front}
use Rattle.group.specs.Wording.{verdict_wording}
use Rattle.group.specs.declared.SequenceNumber.{SequenceNumber}
use Rattle.group.specs.Question.{Verdict}
use Rattle.sequencer.specs.Calls.{Outcome, Opening, receive_of, poll_of, copy_of, fresh_of}
use Rattle.sequencer.specs.View.{Stored, view_of}
use Rattle.sequencer.specs.Wording.{wording_of}
use Rattle.sequencer.specs.declared.Reply.{Reply}

-- what a call gives back of its outcome
abbrev pub reply_of : Outcome → Reply
reply_of o = record { answer = o.answer; written = length o.bytes }

-- a call that may change the state
pub record Changed (o : Outcome) (reply : Reply) (s : Stored) (before after : List ℕ) : Type 0 where
  pub answer : reply ≡ reply_of o
  pub state : view_of s ≡ o.sequencer
  pub lent : after ≡ front o.bytes before
  pub wording : wording_of reply.answer ≡ wording_of o.answer

-- a call that only reads the state
pub record Told (o : Outcome) (reply : Reply) (before after : List ℕ) : Type 0 where
  pub answer : reply ≡ reply_of o
  pub lent : after ≡ front o.bytes before
  pub wording : wording_of reply.answer ≡ wording_of o.answer

-- opening
pub record Starts (o : Opening) (answered : Verdict) (s : Stored) : Type 0 where
  pub answer : answered ≡ o.verdict
  pub state : view_of s ≡ o.sequencer
  pub wording : verdict_wording answered ≡ verdict_wording o.verdict

-- the calls
abbrev pub Received : Stored → List ℕ → List ℕ → Reply → Stored → List ℕ → Type 0
Received s packet before reply s' after = Changed (receive_of (view_of s) packet (length before)) reply s' before after

abbrev pub Polled : Stored → List ℕ → Reply → List ℕ → Type 0
Polled s before reply after = Told (poll_of (view_of s) (length before)) reply before after

abbrev pub Copied : Stored → SequenceNumber → List ℕ → Reply → List ℕ → Type 0
Copied s number before reply after = Told (copy_of (view_of s) number (length before)) reply before after

abbrev pub Opens : Stored → ℕ → ℕ → ℕ → Verdict → Stored → Type 0
Opens s n group resilience verdict s' = Starts (fresh_of n group resilience) verdict s'
