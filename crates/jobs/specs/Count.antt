-- How many jobs wait and are given, and what a feed adds to those added and finished.
use Rattle.std.specs.Prelude.{Bool, List, [], ◌∷◌, ℕ, ◌+◌, length, Result, Ok, Err}
use Rattle.group.specs.Choice.{when◌then◌else◌, ◌<?◌, ◌=?◌}
use Rattle.group.specs.declared.MemberNumber.{MemberNumber}
use Rattle.group.specs.declared.Refusal.{Refusal}
use Rattle.jobs.specs.Job.{waiting_state, given_state, place_of}
use Rattle.jobs.specs.declared.Answer.{Answer}
use Rattle.jobs.specs.declared.Answer.TheVariants.{Added, Given, None}
use Rattle.jobs.specs.declared.Job.{Job}

-- the records with a state
unfoldable pub count_of : ℕ → List Job → ℕ
count_of state [] = 0
count_of state (job ∷ rest) = (when job.state =? state then 1 else 0) + count_of state rest

abbrev pub waiting_in : List Job → ℕ
waiting_in jobs = count_of waiting_state jobs

abbrev pub given_in : List Job → ℕ
given_in jobs = count_of given_state jobs

-- a member holds a job: a record is given to it
unfoldable pub holds : List Job → MemberNumber → Bool
holds jobs m = place_of given_state m.0 jobs <? length jobs

-- a job is added by an add that was accepted
unfoldable pub added_by : Result Answer Refusal → ℕ
added_by (Err refusal) = 0
added_by (Ok Added) = 1
added_by (Ok (Given place)) = 0
added_by (Ok None) = 0

-- a job is finished by a fetch that was accepted, whose sender held one before
unfoldable pub finished_by : List Job → MemberNumber → Result Answer Refusal → ℕ
finished_by jobs m (Err refusal) = 0
finished_by jobs m (Ok Added) = 0
finished_by jobs m (Ok (Given place)) = when holds jobs m then 1 else 0
finished_by jobs m (Ok None) = when holds jobs m then 1 else 0
