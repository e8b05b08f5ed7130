-- From what a function gave back to what its caller promises: an outcome stays one of every outcome that is equal to it, and a refusal
-- leaves the state. Assumes nothing.
use mathlib.Core.Path.{◌≡◌, refl, ap, subst}
use mathlib.Core.List.{List}
use Prim.Native.Nat.{ℕ}
use Rattle.group.specs.Lent.{Laid}
use Rattle.group.specs.declared.Refusal.{Refusal}
use Rattle.sequencer.specs.Calls.{Outcome, answered, refused}
use Rattle.sequencer.specs.Owed.{Refuses}
use Rattle.sequencer.specs.Promise.{Changed, Told}
use Rattle.sequencer.specs.State.{Sequencer}
use Rattle.sequencer.specs.View.{Stored, view_of}
use Rattle.sequencer.specs.Wording.{wording_of}
use Rattle.sequencer.specs.declared.Reply.{Reply}

pub changed_as : {o p : Outcome} {r : Reply} {s : Stored} (e : o ≡ p) {x y : List ℕ} → Changed o r s x y → Changed p r s x y
changed_as {r = r} {s} e {x} {y} d = subst (λ (q : Outcome). Changed q r s x y) e d

pub told_as_lem : {o p : Outcome} {r : Reply} (e : o ≡ p) {x y : List ℕ} → Told o r x y → Told p r x y
told_as_lem {r = r} e {x} {y} d = subst (λ (q : Outcome). Told q r x y) e d

-- what was laid with an answer is the reply of its outcome
pub told_laid : (o : Outcome) (written : ℕ) (x y : List ℕ) → Laid o.bytes written x y → Told o (record { answer = o.answer; written = written }) x y
told_laid o written x y l = record { answer = λ i. record { answer = o.answer; written = l.size i }; lent = l.lent; wording = refl }

pub changed_laid : (o : Outcome) (s : Stored) (written : ℕ) (x y : List ℕ) → view_of s ≡ o.sequencer → Laid o.bytes written x y
    → Changed o (record { answer = o.answer; written = written }) s x y
changed_laid o s written x y e l =
    record { answer = λ i. record { answer = o.answer; written = l.size i }; state = e; lent = l.lent; wording = refl }

-- a refusal leaves state and output
module _ (refusal : Refusal) (r : Reply) (x : List ℕ) (q : Refuses refusal r) where
  pub refusal_told : (s : Sequencer) → Told (refused s refusal) r x x
  unfolding answered
  refusal_told s = record { answer = q.answer; lent = refl; wording = ap (λ (a : Reply). wording_of a.answer) q.answer }

  pub refusal_changed : (s : Stored) → Changed (refused (view_of s) refusal) r s x x
  unfolding answered
  refusal_changed s = record { answer = q.answer; state = refl; lent = refl; wording = ap (λ (a : Reply). wording_of a.answer) q.answer }
