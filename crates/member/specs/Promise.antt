-- What the calls promise, of the member in memory at entry and at exit and of the lent output: the answer, the state and the bytes are those of the call's meaning.
use Rattle.std.specs.Prelude.{◌≡◌, List, ℕ, length}
use Rattle.group.specs.Lent.{front}
use Rattle.group.specs.Wording.{verdict_wording}
use Rattle.group.specs.declared.MemberNumber.{MemberNumber}
use Rattle.group.specs.declared.SequenceNumber.{SequenceNumber}
use Rattle.group.specs.Question.{Verdict}
use Rattle.member.specs.Calls.{Outcome, Opening, submit_of, repeat_of, status_of, take_of, receive_of, fresh_of}
use Rattle.member.specs.State.{reach_of}
use Rattle.member.specs.View.{Stored, view_of}
use Rattle.member.specs.Wording.{wording_of}
use Rattle.member.specs.declared.Reply.{Reply}

-- what a call says of its outcome
abbrev pub reply_of : Outcome → Reply
reply_of o = record { answer = o.answer; written = length o.bytes }

-- a call that may change the state: it answers, leaves and lays what its outcome says
pub record Changed (o : Outcome) (reply : Reply) (left : Stored) (before after : List ℕ) : Type 0 where
  pub answer : reply ≡ reply_of o
  pub state : view_of left ≡ o.member
  pub lent : after ≡ front o.bytes before
  pub wording : wording_of reply.answer ≡ wording_of o.answer

-- a call that only reads the state
pub record Told (o : Outcome) (reply : Reply) (before after : List ℕ) : Type 0 where
  pub answer : reply ≡ reply_of o
  pub lent : after ≡ front o.bytes before
  pub wording : wording_of reply.answer ≡ wording_of o.answer

-- opening
pub record Opens (o : Opening) (verdict : Verdict) (left : Stored) : Type 0 where
  pub answer : verdict ≡ o.verdict
  pub state : view_of left ≡ o.member
  pub wording : verdict_wording verdict ≡ verdict_wording o.verdict

-- each call: the state and what it is handed at entry, its result, the state and the lent output at exit
abbrev pub Begins : Stored → ℕ → MemberNumber → ℕ → ℕ → Verdict → Stored → Type 0
Begins s n number group resilience verdict s' = Opens (fresh_of n number group resilience) verdict s'

abbrev pub Submitted : Stored → List ℕ → List ℕ → Reply → Stored → List ℕ → Type 0
Submitted s payload before reply s' after = Changed (submit_of (view_of s) payload (length before)) reply s' before after

abbrev pub Received : Stored → List ℕ → List ℕ → Reply → Stored → List ℕ → Type 0
Received s packet before reply s' after = Changed (receive_of (view_of s) packet (length before)) reply s' before after

abbrev pub Taken : Stored → List ℕ → Reply → Stored → List ℕ → Type 0
Taken s before reply s' after = Changed (take_of (view_of s) (length before)) reply s' before after

abbrev pub Repeated : Stored → List ℕ → Reply → List ℕ → Type 0
Repeated s before reply after = Told (repeat_of (view_of s) (length before)) reply before after

abbrev pub Reported : Stored → List ℕ → Reply → List ℕ → Type 0
Reported s before reply after = Told (status_of (view_of s) (length before)) reply before after

-- the end of its row, offered messages included
abbrev pub Ended : Stored → SequenceNumber → Type 0
Ended s end = end.0 ≡ reach_of (view_of s)
