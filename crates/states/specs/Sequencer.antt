-- A sequencer in memory, the struct that a program holds: what its methods promise is what the work that they lend its parts to promises. What is proved of
-- it has its proofs in `proofs/SequencerLeaving.antt`.
use Rattle.std.specs.Prelude.{◌≡◌, List, ℕ}
use Rattle.group.specs.declared.Refusal.{Refusal}
use Rattle.group.specs.declared.SequenceNumber.{SequenceNumber}
use Rattle.group.specs.Question.{Verdict}
use Rattle.sequencer.specs.Calls.{Outcome, Opening}
use Rattle.sequencer.specs.Promise as promise
use Rattle.sequencer.specs.State as state
use Rattle.sequencer.specs.View as view
use Rattle.sequencer.specs.declared.Answer.{Answer}
use Rattle.sequencer.specs.declared.Reply.{Reply}
use Rattle.states.specs.declared.Sequencer.{Sequencer}

-- its parts
abbrev pub stored_of : Sequencer → view.Stored
stored_of s = view.whole s.head s.taken s.counts s.repeats s.kept s.marks s.originators s.lengths s.payloads

-- the state that the meaning speaks of
abbrev pub view_of : Sequencer → state.Sequencer
view_of s = view.view_of (stored_of s)

-- its arrays have their lengths
abbrev pub Fits : Sequencer → Type 0
Fits s = view.Fits (stored_of s)

-- what is left of an outcome, and of an opening
abbrev pub Changed : Outcome → Reply → Sequencer → List ℕ → List ℕ → Type 0
Changed o reply s before after = promise.Changed o reply (stored_of s) before after

abbrev pub Starts : Opening → Verdict → Sequencer → Type 0
Starts o verdict s = promise.Starts o verdict (stored_of s)

-- each method: the state and what it is handed at entry, its result, the state and the lent output at exit
abbrev pub Opens : Sequencer → ℕ → ℕ → ℕ → Verdict → Sequencer → Type 0
Opens s n group resilience verdict s' = promise.Opens (stored_of s) n group resilience verdict (stored_of s')

abbrev pub Received : Sequencer → List ℕ → List ℕ → Reply → Sequencer → List ℕ → Type 0
Received s packet before reply s' after = promise.Received (stored_of s) packet before reply (stored_of s') after

abbrev pub Polled : Sequencer → List ℕ → Reply → List ℕ → Type 0
Polled s before reply after = promise.Polled (stored_of s) before reply after

abbrev pub Copied : Sequencer → SequenceNumber → List ℕ → Reply → List ℕ → Type 0
Copied s number before reply after = promise.Copied (stored_of s) number before reply after

-- the view loses nothing: two structs whose arrays have their lengths, with one view, are one struct, every number and byte of it
abbrev pub ViewWhole : Type 0
ViewWhole = (s t : Sequencer) → Fits s → Fits t → view_of s ≡ view_of t → s ≡ t

-- a packet that is refused leaves every number and byte of the struct, and of the lent output
abbrev pub RefusedLeaves : Type 0
RefusedLeaves =
    (s s' : Sequencer) (packet before after : List ℕ) (reply : Reply) (refusal : Refusal) → Fits s → Fits s'
    → Received s packet before reply s' after → reply.answer ≡ Answer.Refused refusal → (s' ≡ s) × (after ≡ before)
