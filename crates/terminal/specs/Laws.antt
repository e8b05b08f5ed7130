-- What is proved of the work lists, of every log, so of that of every list of events that demand 3 speaks of. `proofs/Lists.antt`,
-- `proofs/Order.antt` and, of a take, `proofs/Telling.antt` have the proofs.
use Rattle.std.specs.Prelude.{◌≡◌, true, List, length, take, ℕ, ◌+◌, ◌<◌}
use Rattle.jobs.specs.declared.Job.{Job}
use Rattle.jobs.specs.Count.{waiting_in, given_in}
use Rattle.jobs.specs.Sound.{sound_of}
use Rattle.member.specs.Calls.{take_of}
use Rattle.member.specs.Order.{took_by}
use Rattle.member.specs.Promise.{Taken}
use Rattle.member.specs.View.{Stored, view_of}
use Rattle.member.specs.declared.Reply.{Reply}
use Rattle.model.specs.Claim.{Opens}
use Rattle.model.specs.Closing.{closing}
use Rattle.model.specs.Log.{taken}
use Rattle.model.specs.World.{Event, Entry, World, run, fresh}
use Rattle.terminal.specs.Left.{list_in}
use Rattle.terminal.specs.Take.{feeding_of, taking_of}
use Rattle.terminal.specs.Log.{list_of, Tally, fresh_tally, tally_from}

-- a member's take, and then a feed of what its answer and the front of the lent output hand out: the list is fed what was taken
abbrev pub TakeFeeds : Type 0
TakeFeeds =
    (s s' : Stored) (before after : List ℕ) (reply : Reply) (jobs : List Job) → Taken s before reply s' after
    → feeding_of jobs (took_by reply.answer (take reply.written after)) ≡ taking_of (take_of (view_of s) (length before)) jobs

-- terminals with the same taken messages hold the same list
abbrev pub SameList : Type 0
SameList = (i j : ℕ) (log log' : List Entry) → taken i log ≡ taken j log' → list_of i log ≡ list_of j log'

-- jobs added = waiting + given + finished, finished being the fetches whose sender held a job
pub record Balanced (i : ℕ) (log : List Entry) (t : Tally) : Type 0 where
  -- (the list that is counted is the terminal's)
  pub list : t.jobs ≡ list_of i log
  pub added : t.added ≡ waiting_in t.jobs + given_in t.jobs + t.finished

abbrev pub Balance : Type 0
Balance = (i : ℕ) (log : List Entry) → Balanced i log (tally_from fresh_tally (taken i log))

-- every terminal's list is sound, so that question 1 refuses it nothing
abbrev pub ListSound : Type 0
ListSound = (i : ℕ) (log : List Entry) → sound_of (list_of i log) ≡ true

-- after a closing round all terminals of the group hold the same list
abbrev pub ClosedAlike : Type 0
ClosedAlike =
    (n number resilience : ℕ) → Opens n number resilience → (events : List Event) (i j : ℕ) → i < n → j < n
    → let w : World = run (fresh n number resilience) events in
    list_of i (run w (closing w)).log ≡ list_of j (run w (closing w)).log

-- what is read off a group that was run is each terminal's list
abbrev pub ListLeft : Type 0
ListLeft =
    (n number resilience : ℕ) → Opens n number resilience → (events : List Event) (i : ℕ) → i < n
    → list_in (run (fresh n number resilience) events).group i ≡ list_of i (run (fresh n number resilience) events).log
