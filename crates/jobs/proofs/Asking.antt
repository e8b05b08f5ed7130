-- A feed answers the first no of its questions, or a step that is no refusal: it is what its questions come to, before that step.
-- Assumes nothing.
use mathlib.Core.Path.{◌≡◌, refl, sym, ap, ◌∙◌}
use mathlib.Core.Bool.{Bool, true, false}
use mathlib.Core.List.{List, [], ◌∷◌}
use Prim.Native.Nat.{ℕ}
use native.Mathlib.Omega.{arith}
use lib.ListN.{drop, set}
use Rattle.std.specs.Prelude.{Result, Ok, Err}
use Rattle.group.specs.Choice.{when◌then◌else◌, ask◌or◌then◌, ◌<?◌}
use Rattle.group.specs.Limits.{jobs_most}
use Rattle.group.specs.Question.{Question, first_no, judged}
use Rattle.group.specs.declared.MemberNumber.{MemberNumber}
use Rattle.group.specs.declared.Refusal.{Refusal}
use Rattle.group.specs.Question.{Verdict}
use Rattle.group.proofs.Lists.{when_elim}
use Rattle.group.proofs.Question.{judged_ask}
use Rattle.jobs.specs.Feed.{is_add, is_fetch, for_list, refused, add_of, finish_of, give_of, form_of, feed_of}
use Rattle.jobs.specs.Job.{unused_state, waiting_state, waiting_job, place_of}
use Rattle.jobs.specs.Laws.{feed_questions, FirstNo, FeedFirstNo}
use Rattle.jobs.specs.Sound.{sound_of}
use Rattle.jobs.specs.declared.Answer.{Answer}
use Rattle.jobs.specs.declared.Answer.TheVariants.{Added}
use Rattle.jobs.specs.declared.Job.{Job}
use Rattle.jobs.specs.declared.Outcome.{Outcome}
use Rattle.jobs.proofs.Forms.{for_list_adds, fetch_no_add}

-- whether an answer is a refusal
abbrev refuses : Result Answer Refusal → Bool
refuses (Err refusal) = true
refuses (Ok answer) = false

record Accepts (o : Outcome) : Type 0 where
  no : refuses o.answer ≡ false

asked : (jobs : List Job) (questions : List Question) (o step : Outcome) → o ≡ judged (first_no questions) (refused jobs) step → Accepts step → FirstNo jobs questions o
unfolding judged
asked jobs questions o step e accepts =
    record {
      refuses = λ refusal n. e ∙ ap (λ (v : Verdict). judged v (refused jobs) step) n;
      accepts = λ refusal n z.
          let a : o.answer ≡ step.answer = ap (λ (o : Outcome). o.answer) (e ∙ ap (λ (v : Verdict). judged v (refused jobs) step) n) in
          let b : true ≡ false = ap refuses (sym z ∙ a) ∙ accepts.no in
          let c : ◌≡◌ {A = ℕ} 0 1 = cc in
          omega arith;
    }

ask_same : (t : Bool) (r x y : Outcome) → (t ≡ true → x ≡ y) → ask t or r then x ≡ ask t or r then y
unfolding when◌then◌else◌
ask_same true r x y e = e refl
ask_same false r x y e = refl

module _ (jobs : List Job) (m : MemberNumber) (payload : List ℕ) where
  -- the step behind the questions
  abbrev taken : Outcome
  taken =
      when is_fetch payload then give_of (finish_of jobs m) m else
      record { jobs = set jobs (place_of unused_state 0 jobs) (waiting_job (drop 1 payload)); answer = Ok Added }

  -- question 20, of an add
  abbrev full : Question
  full = record { yes = when is_add payload then place_of unused_state 0 jobs <? jobs_most else true; refusal = Refusal.ListFull }

  form_asked : for_list m payload ≡ true → form_of jobs m payload ≡ judged (first_no (full ∷ [])) (refused jobs) taken
  unfolding form_of add_of first_no judged when◌then◌else◌
  form_asked f = go (is_fetch payload) refl
    where
      go : (t : Bool) → is_fetch payload ≡ t → form_of jobs m payload ≡ judged (first_no (full ∷ [])) (refused jobs) taken
      go true e = rw (e, fetch_no_add payload e)
      go false e =
          rw (e, (for_list_adds m payload f e).0)
          (judged_ask (refused jobs) (record { jobs = set jobs (place_of unused_state 0 jobs) (waiting_job (drop 1 payload)); answer = Ok Added })
          (place_of unused_state 0 jobs <? jobs_most) Refusal.ListFull [])

  taken_accepts : Accepts taken
  unfolding give_of
  taken_accepts =
      when_elim Accepts (is_fetch payload)
      (λ _. when_elim Accepts (place_of waiting_state 0 (finish_of jobs m) <? jobs_most) (λ _. record { no = refl }) (λ _. record { no = refl }))
      (λ _. record { no = refl })

pub feed_first_no : FeedFirstNo
unfolding feed_of
feed_first_no jobs m payload =
    let forms : Question = record { yes = for_list m payload; refusal = Refusal.NotForList } in
    asked jobs (feed_questions jobs m payload) (feed_of jobs m payload) (taken jobs m payload)
    (ask_same (sound_of jobs) (refused jobs Refusal.UnsoundState) _ _
    (λ s. ask_same (for_list m payload) (refused jobs Refusal.NotForList) _ _ (form_asked jobs m payload)
    ∙ judged_ask (refused jobs) (taken jobs m payload) (for_list m payload) Refusal.NotForList (full jobs m payload ∷ []))
    ∙ judged_ask (refused jobs) (taken jobs m payload) (sound_of jobs) Refusal.UnsoundState (forms ∷ full jobs m payload ∷ []))
    (taken_accepts jobs m payload)
