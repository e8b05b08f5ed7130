-- A member in memory, the struct that a program holds: what its methods promise is what the work that they lend its parts to promises. What is proved of it has
-- its proofs in `proofs/MemberLeaving.antt`.
use Rattle.std.specs.Prelude.{◌≡◌, List, ℕ}
use Rattle.group.specs.declared.MemberNumber.{MemberNumber}
use Rattle.group.specs.declared.Refusal.{Refusal}
use Rattle.group.specs.declared.SequenceNumber.{SequenceNumber}
use Rattle.group.specs.Question.{Verdict}
use Rattle.member.specs.Calls.{Outcome, Opening}
use Rattle.member.specs.Promise as promise
use Rattle.member.specs.State as state
use Rattle.member.specs.View as view
use Rattle.member.specs.declared.Answer.{Answer}
use Rattle.member.specs.declared.Reply.{Reply}
use Rattle.states.specs.declared.Member.{Member}

-- its parts
abbrev pub stored_of : Member → view.Stored
stored_of s =
    view.whole s.head s.queued s.held s.queued_originators s.queued_lengths s.held_originators s.held_lengths s.queued_payloads s.held_payloads

-- the state that the meaning speaks of
abbrev pub view_of : Member → state.Member
view_of s = view.view_of (stored_of s)

-- its arrays have their lengths
abbrev pub Sized : Member → Type 0
Sized s = view.Sized (stored_of s)

-- what is left of an outcome, and of an opening
abbrev pub Changed : Outcome → Reply → Member → List ℕ → List ℕ → Type 0
Changed o reply s before after = promise.Changed o reply (stored_of s) before after

abbrev pub Opens : Opening → Verdict → Member → Type 0
Opens o verdict s = promise.Opens o verdict (stored_of s)

-- each method: the state and what it is handed at entry, its result, the state and the lent output at exit
abbrev pub Begins : Member → ℕ → MemberNumber → ℕ → ℕ → Verdict → Member → Type 0
Begins s n number group resilience verdict s' = promise.Begins (stored_of s) n number group resilience verdict (stored_of s')

abbrev pub Submitted : Member → List ℕ → List ℕ → Reply → Member → List ℕ → Type 0
Submitted s payload before reply s' after = promise.Submitted (stored_of s) payload before reply (stored_of s') after

abbrev pub Received : Member → List ℕ → List ℕ → Reply → Member → List ℕ → Type 0
Received s packet before reply s' after = promise.Received (stored_of s) packet before reply (stored_of s') after

abbrev pub Taken : Member → List ℕ → Reply → Member → List ℕ → Type 0
Taken s before reply s' after = promise.Taken (stored_of s) before reply (stored_of s') after

abbrev pub Repeated : Member → List ℕ → Reply → List ℕ → Type 0
Repeated s before reply after = promise.Repeated (stored_of s) before reply after

abbrev pub Reported : Member → List ℕ → Reply → List ℕ → Type 0
Reported s before reply after = promise.Reported (stored_of s) before reply after

abbrev pub Ended : Member → SequenceNumber → Type 0
Ended s end = promise.Ended (stored_of s) end

-- the view loses nothing: two members in memory with the same view are the same, byte by byte
abbrev pub ViewWhole : Type 0
ViewWhole = (s t : Member) → Sized s → Sized t → view_of s ≡ view_of t → s ≡ t

-- a call that is refused leaves the member in memory as it was, every byte, and the lent output
abbrev pub RefusedSubmitLeaves : Type 0
RefusedSubmitLeaves =
    (s t : Member) (payload before after : List ℕ) (reply : Reply) (refusal : Refusal) → Sized s → Sized t
    → Submitted s payload before reply t after → reply.answer ≡ Answer.Refused refusal → (t ≡ s) × (after ≡ before)

abbrev pub RefusedReceiveLeaves : Type 0
RefusedReceiveLeaves =
    (s t : Member) (packet before after : List ℕ) (reply : Reply) (refusal : Refusal) → Sized s → Sized t
    → Received s packet before reply t after → reply.answer ≡ Answer.Refused refusal → (t ≡ s) × (after ≡ before)

abbrev pub RefusedTakeLeaves : Type 0
RefusedTakeLeaves =
    (s t : Member) (before after : List ℕ) (reply : Reply) (refusal : Refusal) → Sized s → Sized t
    → Taken s before reply t after → reply.answer ≡ Answer.Refused refusal → (t ≡ s) × (after ≡ before)
