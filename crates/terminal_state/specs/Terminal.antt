-- A terminal in memory, the struct that a program holds: what its methods promise is what the work that they lend its parts to promises. What is proved of
-- it has its proofs in `proofs/Leaving.antt`.
use Rattle.std.specs.Prelude.{◌≡◌, List, ℕ}
use Rattle.group.specs.declared.MemberNumber.{MemberNumber}
use Rattle.group.specs.declared.SequenceNumber.{SequenceNumber}
use Rattle.group.specs.Question.{Verdict}
use Rattle.member.specs.declared.Reply as member
use Rattle.sequencer.specs.declared.Reply as sequencer
use Rattle.recovery.specs.Promise as promise
use Rattle.recovery.specs.View as view
use Rattle.terminal_opening.specs.Opening.{Opens, fresh_of}
use Rattle.terminal_state.specs.declared.Terminal.{Terminal}

-- its parts
abbrev pub stored_of : Terminal → view.Stored
stored_of s =
    view.whole s.head s.queued s.held s.queued_originators s.queued_lengths s.held_originators s.held_lengths s.queued_payloads s.held_payloads s.past s.past_originators s.past_lengths s.past_payloads s.highest s.replies s.taken s.counts s.repeats s.kept s.marks s.originators s.lengths s.payloads

-- what is seen of it
abbrev pub view_of : Terminal → view.View
view_of s = view.view_of (stored_of s)

-- its arrays have their lengths
abbrev pub Sized : Terminal → Type 0
Sized s = view.Sized (stored_of s)

-- each method: the state and what it is handed at entry, its result, the state and the lent output at exit
abbrev pub Begins : Terminal → ℕ → MemberNumber → ℕ → ℕ → Verdict → Terminal → Type 0
Begins s n number group resilience verdict s' = Opens (fresh_of n number group resilience) verdict (stored_of s')

abbrev pub Submitted : Terminal → List ℕ → List ℕ → member.Reply → Terminal → List ℕ → Type 0
Submitted s payload before reply s' after = promise.Submitted (stored_of s) payload before reply (stored_of s') after

abbrev pub Repeated : Terminal → List ℕ → member.Reply → List ℕ → Type 0
Repeated s before reply after = promise.Repeated (stored_of s) before reply (stored_of s) after

abbrev pub Reported : Terminal → List ℕ → member.Reply → List ℕ → Type 0
Reported s before reply after = promise.Reported (stored_of s) before reply (stored_of s) after

abbrev pub Taken : Terminal → List ℕ → member.Reply → Terminal → List ℕ → Type 0
Taken s before reply s' after = promise.Taken (stored_of s) before reply (stored_of s') after

abbrev pub Received : Terminal → List ℕ → List ℕ → member.Reply → Terminal → List ℕ → Type 0
Received s packet before reply s' after = promise.Received (stored_of s) packet before reply (stored_of s') after

abbrev pub Invited : Terminal → ℕ → List ℕ → member.Reply → Terminal → List ℕ → Type 0
Invited s number before reply s' after = promise.Invited (stored_of s) number before reply (stored_of s') after

abbrev pub Made : Terminal → ℕ → List ℕ → member.Reply → Terminal → List ℕ → Type 0
Made s demand before reply s' after = promise.Made (stored_of s) demand before reply (stored_of s') after

-- its sequencer's
abbrev pub OrderedBy : Terminal → List ℕ → List ℕ → sequencer.Reply → Terminal → List ℕ → Type 0
OrderedBy s packet before reply s' after = promise.OrderedBy (stored_of s) packet before reply (stored_of s') after

abbrev pub Polled : Terminal → List ℕ → sequencer.Reply → List ℕ → Type 0
Polled s before reply after = promise.Polled (stored_of s) before reply (stored_of s) after

abbrev pub Copied : Terminal → SequenceNumber → List ℕ → sequencer.Reply → List ℕ → Type 0
Copied s number before reply after = promise.Copied (stored_of s) number before reply (stored_of s) after

-- the view loses nothing: two terminals in memory with the same view are the same, byte by byte
abbrev pub ViewWhole : Type 0
ViewWhole = (s t : Terminal) → Sized s → Sized t → view_of s ≡ view_of t → s ≡ t
