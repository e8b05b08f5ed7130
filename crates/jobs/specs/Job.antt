-- A record of the work list, and where in the list the first of a kind stands.
use Rattle.std.specs.Prelude.{Bool, List, [], ◌∷◌, ℕ, suc, length, replicate}
use Rattle.group.specs.Choice.{when◌then◌else◌, ◌and◌, ◌=?◌}
use Rattle.group.specs.Lent.{front}
use Rattle.group.specs.Limits.{jobs_most, job_most}
use Rattle.group.specs.declared.MemberNumber.{MemberNumber}
use Rattle.jobs.specs.declared.Job.{Job}

-- a record is unused, or its job waits, or it is given to a member
abbrev pub unused_state : ℕ
unused_state = 0

abbrev pub waiting_state : ℕ
waiting_state = 1

abbrev pub given_state : ℕ
given_state = 2

-- an unused record is all zero; past its end a list is read as unused
unfoldable pub no_job : Job
no_job = record { state = unused_state; member = record { 0 = 0 }; length = 0; bytes = replicate job_most 0 }

-- a job that waits: no member has it, and zeros stand behind it
unfoldable pub waiting_job : List ℕ → Job
waiting_job bytes =
    record { state = waiting_state; member = record { 0 = 0 }; length = length bytes; bytes = front bytes (replicate job_most 0) }

-- the same job, given to a member
unfoldable pub given_to : MemberNumber → Job → Job
given_to m job = record { state = given_state; member = m; length = job.length; bytes = job.bytes }

-- the list is empty at first
abbrev pub no_jobs : List Job
no_jobs = replicate jobs_most no_job

-- a record has that state and member
unfoldable pub is_of : ℕ → ℕ → Job → Bool
is_of state member job = job.state =? state and job.member.0 =? member

-- the place of the first record with that state and member: how many stand before it; all of them, where there is none
unfoldable pub place_of : ℕ → ℕ → List Job → ℕ
place_of state member [] = 0
place_of state member (job ∷ rest) = when is_of state member job then 0 else suc (place_of state member rest)
