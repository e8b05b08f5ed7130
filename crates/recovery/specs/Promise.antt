-- What the calls promise, of the terminal's parts at entry and at exit and of the lent output: the answer, what is seen of the parts and the
-- bytes are those of the call's meaning, for every input.
use Rattle.std.specs.Prelude.{◌≡◌, List, [], ℕ, length}
use Rattle.group.specs.Lent.{front}
use Rattle.group.specs.declared.Refusal.{Refusal}
use Rattle.group.specs.declared.SequenceNumber.{SequenceNumber}
use Rattle.member.specs.Wording as member
use Rattle.member.specs.declared.Answer as memberAnswer
use Rattle.member.specs.declared.Reply as memberReply
use Rattle.sequencer.specs.Wording as sequencer
use Rattle.sequencer.specs.declared.Answer as sequencerAnswer
use Rattle.sequencer.specs.declared.Reply as sequencerReply
use Rattle.recovery.specs.Calls.{Outcome, SequencerOutcome, submit_of, repeat_of, status_of, take_of, receive_of, invite_of, make_of, order_of, poll_of, copy_of}
use Rattle.recovery.specs.State.{Terminal}
use Rattle.recovery.specs.View.{Stored, View, seen, odd, view_of}

-- what a call comes to, of what is seen: of a terminal what its meaning says; parts with an odd flag are an unsound state, and stay
pub record Seen : Type 0 where
  pub view : View
  pub answer : memberAnswer.Answer
  pub bytes : List ℕ

unfoldable pub called : (Terminal → Outcome) → View → Seen
called call (seen t) = record { view = seen (call t).terminal; answer = (call t).answer; bytes = (call t).bytes }
called call (odd s) = record { view = odd s; answer = memberAnswer.Answer.Refused Refusal.UnsoundState; bytes = [] }

-- the same of the sequencer's calls
pub record SequencerSeen : Type 0 where
  pub view : View
  pub answer : sequencerAnswer.Answer
  pub bytes : List ℕ

unfoldable pub ordered : (Terminal → SequencerOutcome) → View → SequencerSeen
ordered call (seen t) = record { view = seen (call t).terminal; answer = (call t).answer; bytes = (call t).bytes }
ordered call (odd s) = record { view = odd s; answer = sequencerAnswer.Answer.Refused Refusal.UnsoundState; bytes = [] }

-- a call that may change the state: it answers, leaves and lays what its outcome says
pub record Changed (o : Seen) (reply : memberReply.Reply) (left : Stored) (before after : List ℕ) : Type 0 where
  pub answer : reply ≡ record { answer = o.answer; written = length o.bytes }
  pub state : view_of left ≡ o.view
  pub lent : after ≡ front o.bytes before
  pub wording : member.wording_of reply.answer ≡ member.wording_of o.answer

pub record Ordered (o : SequencerSeen) (reply : sequencerReply.Reply) (left : Stored) (before after : List ℕ) : Type 0 where
  pub answer : reply ≡ record { answer = o.answer; written = length o.bytes }
  pub state : view_of left ≡ o.view
  pub lent : after ≡ front o.bytes before
  pub wording : sequencer.wording_of reply.answer ≡ sequencer.wording_of o.answer

-- each call: the state and what it is handed at entry, its result, the state and the lent output at exit
abbrev pub Submitted : Stored → List ℕ → List ℕ → memberReply.Reply → Stored → List ℕ → Type 0
Submitted s payload before reply s' after =
    Changed (called (λ t. submit_of t payload (length before)) (view_of s)) reply s' before after

abbrev pub Repeated : Stored → List ℕ → memberReply.Reply → Stored → List ℕ → Type 0
Repeated s before reply s' after = Changed (called (λ t. repeat_of t (length before)) (view_of s)) reply s' before after

abbrev pub Reported : Stored → List ℕ → memberReply.Reply → Stored → List ℕ → Type 0
Reported s before reply s' after = Changed (called (λ t. status_of t (length before)) (view_of s)) reply s' before after

abbrev pub Taken : Stored → List ℕ → memberReply.Reply → Stored → List ℕ → Type 0
Taken s before reply s' after = Changed (called (λ t. take_of t (length before)) (view_of s)) reply s' before after

abbrev pub Received : Stored → List ℕ → List ℕ → memberReply.Reply → Stored → List ℕ → Type 0
Received s packet before reply s' after =
    Changed (called (λ t. receive_of t packet (length before)) (view_of s)) reply s' before after

abbrev pub Invited : Stored → ℕ → List ℕ → memberReply.Reply → Stored → List ℕ → Type 0
Invited s number before reply s' after = Changed (called (λ t. invite_of t number (length before)) (view_of s)) reply s' before after

abbrev pub Made : Stored → ℕ → List ℕ → memberReply.Reply → Stored → List ℕ → Type 0
Made s demand before reply s' after = Changed (called (λ t. make_of t demand (length before)) (view_of s)) reply s' before after

-- the sequencer's
abbrev pub OrderedBy : Stored → List ℕ → List ℕ → sequencerReply.Reply → Stored → List ℕ → Type 0
OrderedBy s packet before reply s' after =
    Ordered (ordered (λ t. order_of t packet (length before)) (view_of s)) reply s' before after

abbrev pub Polled : Stored → List ℕ → sequencerReply.Reply → Stored → List ℕ → Type 0
Polled s before reply s' after = Ordered (ordered (λ t. poll_of t (length before)) (view_of s)) reply s' before after

abbrev pub Copied : Stored → SequenceNumber → List ℕ → sequencerReply.Reply → Stored → List ℕ → Type 0
Copied s number before reply s' after = Ordered (ordered (λ t. copy_of t number (length before)) (view_of s)) reply s' before after
