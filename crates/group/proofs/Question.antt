-- Going down a list of questions, one at a time or in parts, comes to the first no; and what came to no refusal was accepted.
-- Assumes nothing.
use mathlib.Core.Path.{◌≡◌, refl, ap, ◌∙◌}
use mathlib.Core.Bool.{Bool, true, false}
use mathlib.Core.List.{List, [], ◌∷◌, ◌++◌}
use Rattle.group.specs.Choice.{when◌then◌else◌, ask◌or◌then◌}
use Rattle.std.specs.Prelude.{Ok, Err}
use Rattle.group.specs.Question.{Question, Verdict, all_yes, first_no, judged}
use Rattle.group.specs.declared.Refusal.{Refusal}

-- a question before the others
pub judged_ask : {A : Type 0} (refused : Refusal → A) (step : A) (yes : Bool) (refusal : Refusal) (rest : List Question)
    → ask yes or refused refusal then judged (first_no rest) refused step ≡ judged (first_no (record { yes = yes; refusal = refusal } ∷ rest)) refused step
unfolding when◌then◌else◌ first_no judged
judged_ask refused step true refusal rest = refl
judged_ask refused step false refusal rest = refl

-- questions before the others
pub first_no-append : (before rest : List Question) → judged (first_no before) Err (first_no rest) ≡ first_no (before ++ rest)
unfolding when◌then◌else◌ first_no judged
first_no-append [] rest = refl
first_no-append (q ∷ before) rest = go q.yes (first_no-append before rest)
  where
    go : (yes : Bool) → judged (first_no before) Err (first_no rest) ≡ first_no (before ++ rest)
        → judged (ask yes or Err q.refusal then first_no before) Err (first_no rest) ≡ ask yes or Err q.refusal then first_no (before ++ rest)
    go true e = e
    go false e = refl

-- the verdict that is not a refusal
pub accepted≢ : (r : Refusal) → Err r ≡ all_yes → ⊥
accepted≢ r e = cc

-- a verdict that did not come to a refusal was none
pub judged_was : {A : Type 0} (v : Verdict) (refused : Refusal → A) (x z : A) → ((r : Refusal) → refused r ≡ z → ⊥) → judged v refused x ≡ z
    → (v ≡ all_yes) × (x ≡ z)
unfolding judged
judged_was (Ok _) refused x z n e = (refl, e)
judged_was (Err r) refused x z n e = absurd (n r e)

-- the step behind some questions, and the step behind those and others before them
pub judged_append : {A : Type 0} (refused : Refusal → A) (step : A) (before rest : List Question)
    → judged (first_no before) refused (judged (first_no rest) refused step) ≡ judged (first_no (before ++ rest)) refused step
unfolding judged
judged_append refused step before rest = go (first_no before) ∙ ap (λ (v : Verdict). judged v refused step) (first_no-append before rest)
  where
    go : (v : Verdict) → judged v refused (judged (first_no rest) refused step) ≡ judged (judged v Err (first_no rest)) refused step
    go (Ok _) = refl
    go (Err r) = refl

-- a step may be another where the questions before it say yes
pub judged_same : {A : Type 0} (v : Verdict) (refused : Refusal → A) (x y : A) → (v ≡ all_yes → x ≡ y) → judged v refused x ≡ judged v refused y
unfolding judged
judged_same (Ok _) refused x y e = e refl
judged_same (Err r) refused x y e = refl
