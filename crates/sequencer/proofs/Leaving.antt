-- A refusal, by the law of the first no, leaves the state and writes nothing; a poll and a copy leave the state. Assumes nothing.
use Rattle.std.specs.Prelude.{Ok, Err}
use mathlib.Core.Path.{◌≡◌, refl}
use mathlib.Core.List.{List}
use Prim.Native.Nat.{ℕ}
use Rattle.group.specs.Choice.{◌and◌, ◌<?◌, ◌≤?◌}
use Rattle.group.specs.Question.{first_no}
use Rattle.group.specs.declared.Refusal.{Refusal}
use Rattle.group.specs.Question.{Verdict}
use Rattle.group.proofs.Lists.{when_elim, judged_elim}
use Rattle.sequencer.specs.Calls.{Outcome, answered, refused, call_verdict, receive_of, poll_of, copy_of}
use Rattle.sequencer.specs.Laws.{FirstNo, receive_questions, PollLeaves, CopyLeaves}
use Rattle.sequencer.specs.State.{Sequencer}
use Rattle.sequencer.specs.declared.Answer.{Answer}
use Rattle.sequencer.proofs.Laws.{receive_first_no}

-- an outcome that refuses is a refusal, which leaves the state and writes nothing
pub refuses : (s : Sequencer) (packet : List ℕ) (room : ℕ) (refusal : Refusal) → (receive_of s packet room).answer ≡ Answer.Refused refusal
    → (r : Refusal) × (receive_of s packet room ≡ refused s r)
refuses s packet room refusal e = go (first_no (receive_questions s packet room)) refl
  where
    first : FirstNo s (receive_questions s packet room) (receive_of s packet room)
    first = receive_first_no s packet room

    go : (v : Verdict) → first_no (receive_questions s packet room) ≡ v → (r : Refusal) × (receive_of s packet room ≡ refused s r)
    go (Ok _) q = absurd (first.accepts refusal q e)
    go (Err r) q = (r, first.refuses r q)

abbrev Leaves : Sequencer → Outcome → Type 0
Leaves s o = o.sequencer ≡ s

pub poll_leaves : PollLeaves
unfolding poll_of answered
poll_leaves s room = judged_elim (Leaves s) (call_verdict s room) (λ r e. refl) (λ e. refl)

pub copy_leaves : CopyLeaves
unfolding copy_of answered
copy_leaves s number room =
    judged_elim (Leaves s) (call_verdict s room) (λ r e. refl)
    (λ e. when_elim (Leaves s) (s.floor.0 <? number.0 and number.0 ≤? s.top.0) (λ t. refl) (λ t. refl))
