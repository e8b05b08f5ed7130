-- What is proved of a feed. `proofs/` has a proof of each statement.
use Rattle.group.specs.Question.{all_yes}
use Rattle.std.specs.Prelude.{◌≡◌, true, List, [], ◌∷◌, ℕ, ◌+◌, length, Err}
use Rattle.group.specs.Choice.{when◌then◌else◌, ◌<?◌}
use Rattle.group.specs.Limits.{jobs_most}
use Rattle.group.specs.Question.{Question, first_no}
use Rattle.group.specs.declared.MemberNumber.{MemberNumber}
use Rattle.group.specs.declared.Refusal.{Refusal}
use Rattle.group.specs.Question.{Verdict}
use Rattle.jobs.specs.Count.{waiting_in, given_in, added_by, finished_by}
use Rattle.jobs.specs.Feed.{is_add, for_list, refused, feed_of}
use Rattle.jobs.specs.Job.{unused_state, place_of}
use Rattle.jobs.specs.Sound.{sound_of}
use Rattle.jobs.specs.declared.Job.{Job}
use Rattle.jobs.specs.declared.Outcome.{Outcome}

-- the questions of a feed, in their order: 1, 19, and of an add 20
abbrev pub feed_questions : List Job → MemberNumber → List ℕ → List Question
feed_questions jobs m payload =
    record { yes = sound_of jobs; refusal = Refusal.UnsoundState }
    ∷ record { yes = for_list m payload; refusal = Refusal.NotForList }
    ∷ record { yes = when is_add payload then place_of unused_state 0 jobs <? jobs_most else true; refusal = Refusal.ListFull }
    ∷ []

-- demand 1: a refusal is answered exactly if some question says no, with the first one's number; then every record is left.
-- Every other input is accepted
pub record FirstNo (jobs : List Job) (questions : List Question) (o : Outcome) : Type 0 where
  pub refuses : (refusal : Refusal) → first_no questions ≡ Err refusal → o ≡ refused jobs refusal
  pub accepts : (refusal : Refusal) → first_no questions ≡ all_yes → o.answer ≡ Err refusal → ⊥

abbrev pub FeedFirstNo : Type 0
FeedFirstNo = (jobs : List Job) (m : MemberNumber) (payload : List ℕ) → FirstNo jobs (feed_questions jobs m payload) (feed_of jobs m payload)

-- a sound list stays sound, and every list as long as it was
pub record Keeps (jobs : List Job) (o : Outcome) : Type 0 where
  pub size : length o.jobs ≡ length jobs
  pub sound : sound_of jobs ≡ true → sound_of o.jobs ≡ true

abbrev pub FeedKeeps : Type 0
FeedKeeps = (jobs : List Job) (m : MemberNumber) (payload : List ℕ) → Keeps jobs (feed_of jobs m payload)

-- what a feed adds is what waits, is given or is finished after it and was not before
pub record Balances (jobs : List Job) (m : MemberNumber) (o : Outcome) : Type 0 where
  pub balance : waiting_in o.jobs + given_in o.jobs + finished_by jobs m o.answer ≡ waiting_in jobs + given_in jobs + added_by o.answer

abbrev pub FeedBalances : Type 0
FeedBalances = (jobs : List Job) (m : MemberNumber) (payload : List ℕ) → Balances jobs m (feed_of jobs m payload)
