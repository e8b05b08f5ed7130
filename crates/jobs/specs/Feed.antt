-- A feed: a message that was taken, by its originator and its payload. It goes down its questions in their order, and then takes
-- its step.
use Rattle.std.specs.Prelude.{Bool, true, List, [], ◌∷◌, ◌++◌, ℕ, ◌+◌, length, take, drop, get_or, set, Ok, Err}
use Rattle.group.specs.Choice.{when◌then◌else◌, ask◌or◌then◌, ◌and◌, ◌<?◌, ◌≤?◌, ◌=?◌}
use Rattle.group.specs.Limits.{members_most, payload_most, jobs_most}
use Rattle.group.specs.declared.MemberNumber.{MemberNumber}
use Rattle.group.specs.declared.Refusal.{Refusal}
use Rattle.group.specs.declared.Refusal.TheVariants.{UnsoundState, NotForList, ListFull}
use Rattle.jobs.specs.Job.{unused_state, waiting_state, given_state, no_job, waiting_job, given_to, place_of}
use Rattle.jobs.specs.Sound.{sound_of}
use Rattle.jobs.specs.declared.Answer.TheVariants.{Added, Given, None}
use Rattle.jobs.specs.declared.Job.{Job}
use Rattle.jobs.specs.declared.Outcome.{Outcome}

-- a payload that starts with byte 1 adds the job in its remaining bytes
unfoldable pub is_add : List ℕ → Bool
is_add payload = 1 ≤? length payload and get_or payload 0 0 =? 1

-- the single byte 2 fetches
unfoldable pub is_fetch : List ℕ → Bool
is_fetch payload = length payload =? 1 and get_or payload 0 0 =? 2

abbrev pub of_form : List ℕ → Bool
of_form payload = when is_add payload then true else is_fetch payload

-- question 19, one question: a member to 15, and a payload of a form and at most the limit's bytes
unfoldable pub for_list : MemberNumber → List ℕ → Bool
for_list m payload = m.0 <? members_most and length payload ≤? payload_most and of_form payload

-- a no: every record is left
unfoldable pub refused : List Job → Refusal → Outcome
refused jobs refusal = record { jobs = jobs; answer = Err refusal }

-- an add: the job waits in the first unused record. Question 20: is there one?
unfoldable pub add_of : List Job → List ℕ → Outcome
add_of jobs bytes =
    ask place_of unused_state 0 jobs <? jobs_most or refused jobs ListFull then
    record { jobs = set jobs (place_of unused_state 0 jobs) (waiting_job bytes); answer = Ok Added }

-- a record is removed: those behind it move down by one, and the last place is unused
unfoldable pub without_place : ℕ → List Job → List Job
without_place place jobs = take place jobs ++ (drop (place + 1) jobs ++ (no_job ∷ []))

-- a fetch first finishes the member's earlier job, if it has one
unfoldable pub finish_of : List Job → MemberNumber → List Job
finish_of jobs m =
    when place_of given_state m.0 jobs <? jobs_most then without_place (place_of given_state m.0 jobs) jobs else
    jobs

-- the job at a place, given to a member
abbrev pub with_given : ℕ → MemberNumber → List Job → List Job
with_given place m jobs = set jobs place (given_to m (get_or jobs place no_job))

-- then it gives the member the oldest job not given out, if there is one
unfoldable pub give_of : List Job → MemberNumber → Outcome
give_of jobs m =
    when place_of waiting_state 0 jobs <? jobs_most
    then record { jobs = with_given (place_of waiting_state 0 jobs) m jobs; answer = Ok (Given (place_of waiting_state 0 jobs)) }
    else record { jobs = jobs; answer = Ok None }

-- a payload of a form
unfoldable pub form_of : List Job → MemberNumber → List ℕ → Outcome
form_of jobs m payload =
    when is_fetch payload then give_of (finish_of jobs m) m else
    add_of jobs (drop 1 payload)

-- the call
unfoldable pub feed_of : List Job → MemberNumber → List ℕ → Outcome
feed_of jobs m payload =
    ask sound_of jobs or refused jobs UnsoundState then
    ask for_list m payload or refused jobs NotForList then
    form_of jobs m payload
