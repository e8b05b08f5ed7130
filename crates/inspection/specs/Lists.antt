-- What `inspect` prints of the work lists: a heading, and then a line a job, terminals and places in turn.
use Rattle.std.specs.Prelude.{◌≡◌, List, [], ◌∷◌, ◌++◌, ℕ, zero, suc, ◌+◌, ◌*◌, length, take, get_or}
use Rattle.group.specs.Choice.{when◌then◌else◌, ◌=?◌}
use Rattle.group.specs.Limits.{job_most}
use Rattle.group.specs.declared.MemberNumber.{MemberNumber}
use Rattle.jobs.specs.Job.{unused_state, waiting_state, no_job}
use Rattle.jobs.specs.declared.Job.{Job}
use Rattle.model.specs.World.{Group}
use Rattle.player.specs.Player.{taken_at, Shown}
use Rattle.simulator.specs.declared.Head.{Head}
use Rattle.terminal.specs.Left.{heard_all, fresh_left, list_in}
use Rattle.text.specs.Text.{text_of}
use Rattle.text.specs.Written.{decimal_of, payload_text, line, number_digits}

-- the columns
abbrev pub job_columns : List (List ℕ)
job_columns = text_of "terminal" ∷ text_of "place" ∷ text_of "holder" ∷ text_of "job" ∷ []

-- the member that a job is given to, or that it waits
unfoldable pub holder_text : ℕ → MemberNumber → List ℕ
holder_text state m = when state =? waiting_state then text_of "waiting" else decimal_of m.0

-- the job at a place of terminal i's list: whom it is given to, and its bytes in hex
abbrev pub used_line : ℕ → ℕ → Job → List ℕ
used_line i place job =
    line (decimal_of i ∷ decimal_of place ∷ holder_text job.state job.member ∷ payload_text (take job.length job.bytes) ∷ [])

-- an unused record has no line
unfoldable pub job_line : ℕ → ℕ → Job → List ℕ
job_line i place job = when job.state =? unused_state then [] else used_line i place job

-- those of the first k places
unfoldable pub job_lines : ℕ → List Job → ℕ → List ℕ
job_lines i jobs zero = []
job_lines i jobs (suc k) = job_lines i jobs k ++ job_line i k (get_or jobs k no_job)

-- the lists of the first k terminals
unfoldable pub list_lines : (ℕ → List Job) → ℕ → List ℕ
list_lines list zero = []
list_lines list (suc k) = list_lines list k ++ job_lines k (list k) (length (list k))

-- terminal i's list from the rows of numbers and the packets; that of a group is `list_in`
abbrev pub list_on : List (List ℕ) → List (List ℕ) → ℕ → List Job
list_on numbers packets i = (heard_all (taken_at numbers i) fresh_left packets).jobs

abbrev pub lists_of : Group → List ℕ
lists_of g = line job_columns ++ list_lines (list_in g) (length g.members)

-- the room of a line: three numbers, the job in hex, and what stands between and behind them
abbrev pub job_room : ℕ
job_room = 3 * number_digits + 5 + 2 * job_most

-- a group that is shown by its head and its rows of numbers, and has these packets
pub record Listed (head : Head) (numbers packets : List (List ℕ)) (g : Group) : Type 0 where
  pub shown : Shown head numbers g
  pub written : g.packets ≡ packets
