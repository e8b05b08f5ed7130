-- When a list is sound: question 1, sentence by sentence.
use Rattle.std.specs.Prelude.{Bool, true, List, ℕ, length, drop}
use Rattle.group.specs.Choice.{when◌then◌else◌, ◌and◌, ◌<?◌, ◌≤?◌, ◌=?◌}
use Rattle.group.specs.Fold.{all}
use Rattle.group.specs.Limits.{members_most, jobs_most, job_most}
use Rattle.message.specs.Message.{all_zero}
use Rattle.jobs.specs.Job.{unused_state, waiting_state, given_state, place_of}
use Rattle.jobs.specs.declared.Job.{Job}

-- an unused record has no member and no length, a waiting one no member; a given one's member is at most 15
unfoldable pub holder_sound : Job → Bool
holder_sound job =
    when job.state =? unused_state then job.member.0 =? 0 and job.length =? 0 else
    when job.state =? waiting_state then job.member.0 =? 0 else
    job.state =? given_state and job.member.0 <? members_most

-- the job is short of the payload limit, and the bytes behind it are zero
unfoldable pub job_sound : Job → Bool
job_sound job = holder_sound job and job.length ≤? job_most and all_zero (drop job.length job.bytes)

-- used ones first, and no member with two: a used record stands before the first unused one, and a given one is the first that is
-- given to its member
unfoldable pub place_sound : List Job → ℕ → Job → Bool
place_sound jobs place job =
    when job.state =? unused_state then true else
    place <? place_of unused_state 0 jobs
    and (when job.state =? given_state then place_of given_state job.member.0 jobs =? place else true)

unfoldable pub record_sound : List Job → ℕ → Job → Bool
record_sound jobs place job = job_sound job and place_sound jobs place job

-- a list has 64 records
unfoldable pub sound_of : List Job → Bool
sound_of jobs = length jobs =? jobs_most and all (record_sound jobs) 0 jobs
