-- Each terminal's work list after a list of events, read off the log that demand 3 speaks of; and the jobs added and finished on the
-- way.
use Rattle.std.specs.Prelude.{List, [], ◌∷◌, ℕ, ◌+◌}
use Rattle.jobs.specs.Count.{added_by, finished_by}
use Rattle.jobs.specs.Job.{no_jobs}
use Rattle.jobs.specs.declared.Job.{Job}
use Rattle.message.specs.Order.{Ordered}
use Rattle.model.specs.Log.{took_at}
use Rattle.model.specs.World.{Entry}
use Rattle.terminal.specs.Take.{fed_of, fed_by}

-- a list of terminal i from an entry on: it is fed what the terminal took in each
unfoldable pub list_from : ℕ → List Job → List Entry → List Job
list_from i jobs [] = jobs
list_from i jobs (entry ∷ rest) = list_from i (fed_by jobs (took_at i entry.event entry.answer)) rest

-- it is empty at first
abbrev pub list_of : ℕ → List Entry → List Job
list_of i log = list_from i no_jobs log

-- a list with the number of jobs added to it and finished so far
pub record Tally : Type 0 where
  pub jobs : List Job
  pub added : ℕ
  pub finished : ℕ

abbrev pub fresh_tally : Tally
fresh_tally = record { jobs = no_jobs; added = 0; finished = 0 }

-- a message is fed
abbrev pub counted : Tally → Ordered → Tally
counted t m =
    record {
      jobs = (fed_of t.jobs m).jobs;
      added = t.added + added_by (fed_of t.jobs m).answer;
      finished = t.finished + finished_by t.jobs (record { 0 = m.originator }) (fed_of t.jobs m).answer;
    }

-- messages are fed one after the other
unfoldable pub tally_from : Tally → List Ordered → Tally
tally_from t [] = t
tally_from t (m ∷ rest) = tally_from (counted t m) rest
