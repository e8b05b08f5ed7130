-- A terminal's take: its member's take, and then, once that is done, its work list is fed what was taken. The take stands, whatever
-- the list answers.
use Rattle.std.specs.Prelude.{List, [], ◌∷◌, Option, Some, None, Result}
use Rattle.group.specs.declared.Refusal.{Refusal}
use Rattle.jobs.specs.Feed.{feed_of}
use Rattle.jobs.specs.declared.Answer.{Answer}
use Rattle.jobs.specs.declared.Job.{Job}
use Rattle.jobs.specs.declared.Outcome as fed
use Rattle.member.specs.Calls as member
use Rattle.member.specs.Order.{took_by}
use Rattle.message.specs.Order.{Ordered}
use Rattle.terminal.specs.declared.Feeding.{Feeding}

-- a feed of a message: by its originator and its payload
abbrev pub fed_of : List Job → Ordered → fed.Outcome
fed_of jobs m = feed_of jobs (record { 0 = m.originator }) m.payload

-- a list that is fed messages, one after the other
unfoldable pub fed_by : List Job → List Ordered → List Job
fed_by jobs [] = jobs
fed_by jobs (m ∷ rest) = fed_by (fed_of jobs m).jobs rest

-- what it answers to the first of them
unfoldable pub answered_by : List Job → List Ordered → Option (Result Answer Refusal)
answered_by jobs [] = None
answered_by jobs (m ∷ rest) = Some (fed_of jobs m).answer

-- a list that is fed them, and its answer
unfoldable pub feeding_of : List Job → List Ordered → Feeding
feeding_of jobs messages = record { jobs = fed_by jobs messages; fed = answered_by jobs messages }

-- what a member's take hands out is fed to a list
abbrev pub taking_of : member.Outcome → List Job → Feeding
taking_of o jobs = feeding_of jobs (took_by o.answer o.bytes)
