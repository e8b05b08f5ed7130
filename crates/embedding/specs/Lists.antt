-- What the feed of a work list tells and leaves.
use Rattle.std.specs.Prelude.{◌≡◌, List, Result}
use Rattle.group.specs.declared.Refusal.{Refusal}
use Rattle.jobs.specs.Wording.{wording_of}
use Rattle.jobs.specs.declared.Answer as jobs
use Rattle.jobs.specs.declared.Job.{Job}
use Rattle.jobs.specs.declared.Outcome.{Outcome}
use Rattle.embedding.specs.Codes.{answer_of}
use Rattle.embedding.specs.declared.Answer.{Answer}

abbrev pub feed_told : Result jobs.Answer Refusal → Answer
feed_told answer = answer_of (wording_of answer)

pub record Feeds (o : Outcome) (r : Answer) (left : List Job) : Type 0 where
  pub answers : r ≡ feed_told o.answer
  pub jobs : left ≡ o.jobs
