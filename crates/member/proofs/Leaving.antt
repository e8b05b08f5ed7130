-- A call that is refused leaves the lent output, and its outcome the state, by the law of the first no; so do a repeat and a status of the state.
-- Assumes nothing.
use Rattle.std.specs.Prelude.{Ok, Err}
use mathlib.Core.Path.{◌≡◌, refl, sym, ap, ◌∙◌, subst}
use mathlib.Core.List.{List, [], ◌++◌}
use Prim.Native.Nat.{ℕ}
use lib.ListN.{length, drop}
use Rattle.group.specs.Question.{Question, first_no}
use Rattle.group.specs.declared.Refusal.{Refusal}
use Rattle.group.specs.Question.{Verdict}
use Rattle.group.proofs.Lists.{when_elim, judged_elim}
use Rattle.member.specs.Calls.{Outcome, answered, repeat_of, status_of}
use Rattle.member.specs.Laws.{FirstNo, RepeatLeaves, StatusLeaves}
use Rattle.member.specs.Promise.{Told}
use Rattle.member.specs.State.{Member}
use Rattle.member.specs.declared.Answer.{Answer}
use Rattle.member.specs.declared.Reply.{Reply}
use Rattle.member.proofs.Asking.{repeat_first_no, status_first_no}

-- an outcome that answers a refusal is that refusal
pub refusal_is : {m : Member} {questions : List Question} {o : Outcome} → FirstNo m questions o → (refusal : Refusal) → o.answer ≡ Answer.Refused refusal → (o.member ≡ m) × (o.bytes ≡ [])
unfolding answered
refusal_is {m} {questions} {o} f refusal e = go (first_no questions) refl
  where
    go : (v : Verdict) → first_no questions ≡ v → (o.member ≡ m) × (o.bytes ≡ [])
    go (Ok _) z = absurd (f.accepts refusal z e)
    go (Err q) z = let y = f.refuses q z in (ap (λ (p : Outcome). p.member) y, ap (λ (p : Outcome). p.bytes) y)

-- so the lent output is as it was
pub lent_left : {m : Member} {questions : List Question} {o : Outcome} {reply : Reply} {before after : List ℕ} → FirstNo m questions o → (refusal : Refusal)
    → Told o reply before after → reply.answer ≡ Answer.Refused refusal → after ≡ before
lent_left {before = before} {after = after} f refusal d e =
    let r = refusal_is f refusal (ap (λ (x : Reply). x.answer) (sym d.answer) ∙ e) in
    subst (λ (bytes : List ℕ). after ≡ bytes ++ drop (length bytes) before) r.1 d.lent

pub repeat_leaves : RepeatLeaves
unfolding repeat_of answered
repeat_leaves m before after reply =
    (judged_elim (λ (o : Outcome). o.member ≡ m) _ (λ _ _. refl) (λ _. when_elim (λ (o : Outcome). o.member ≡ m) _ (λ _. refl) (λ _. refl)), λ refusal d e. lent_left (repeat_first_no m (length before)) refusal d e)

pub status_leaves : StatusLeaves
unfolding status_of answered
status_leaves m before after reply =
    (judged_elim (λ (o : Outcome). o.member ≡ m) _ (λ _ _. refl) (λ _. refl), λ refusal d e. lent_left (status_first_no m (length before)) refusal d e)
