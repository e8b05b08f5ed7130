-- What is proved of a terminal in memory where a call is refused. `proofs/Leaving.antt` has a proof of each statement.
use Rattle.std.specs.Prelude.{◌≡◌, List, ℕ}
use Rattle.group.specs.declared.Refusal.{Refusal}
use Rattle.member.specs.declared.Answer.{Answer}
use Rattle.member.specs.declared.Reply as member
use Rattle.sequencer.specs.declared.Answer as sequencerAnswer
use Rattle.sequencer.specs.declared.Reply as sequencer
use Rattle.terminal_state.specs.Terminal.{Sized, Submitted, Received, Taken, Invited, Made, OrderedBy}
use Rattle.terminal_state.specs.declared.Terminal.{Terminal}

-- a call that is refused leaves the terminal in memory as it was, every byte, and the lent output
abbrev pub RefusedSubmitLeaves : Type 0
RefusedSubmitLeaves =
    (s t : Terminal) (payload : List ℕ) (before after : List ℕ) (reply : member.Reply) (refusal : Refusal) → Sized s → Sized t
    → Submitted s payload before reply t after → reply.answer ≡ Answer.Refused refusal → (t ≡ s) × (after ≡ before)

abbrev pub RefusedReceiveLeaves : Type 0
RefusedReceiveLeaves =
    (s t : Terminal) (packet : List ℕ) (before after : List ℕ) (reply : member.Reply) (refusal : Refusal) → Sized s → Sized t
    → Received s packet before reply t after → reply.answer ≡ Answer.Refused refusal → (t ≡ s) × (after ≡ before)

abbrev pub RefusedTakeLeaves : Type 0
RefusedTakeLeaves =
    (s t : Terminal) (before after : List ℕ) (reply : member.Reply) (refusal : Refusal) → Sized s → Sized t
    → Taken s before reply t after → reply.answer ≡ Answer.Refused refusal → (t ≡ s) × (after ≡ before)

abbrev pub RefusedInviteLeaves : Type 0
RefusedInviteLeaves =
    (s t : Terminal) (number : ℕ) (before after : List ℕ) (reply : member.Reply) (refusal : Refusal) → Sized s → Sized t
    → Invited s number before reply t after → reply.answer ≡ Answer.Refused refusal → (t ≡ s) × (after ≡ before)

abbrev pub RefusedMakeLeaves : Type 0
RefusedMakeLeaves =
    (s t : Terminal) (demand : ℕ) (before after : List ℕ) (reply : member.Reply) (refusal : Refusal) → Sized s → Sized t
    → Made s demand before reply t after → reply.answer ≡ Answer.Refused refusal → (t ≡ s) × (after ≡ before)

abbrev pub RefusedOrderLeaves : Type 0
RefusedOrderLeaves =
    (s t : Terminal) (packet : List ℕ) (before after : List ℕ) (reply : sequencer.Reply) (refusal : Refusal) → Sized s → Sized t
    → OrderedBy s packet before reply t after → reply.answer ≡ sequencerAnswer.Answer.Refused refusal → (t ≡ s) × (after ≡ before)
