-- How the paper words what a feed answers: a fetch gives the place of the job; an add gives nothing.
use Rattle.std.specs.Prelude.{[], ◌∷◌, Result, Ok, Err}
use Rattle.group.specs.Wording.{Wording, word, number, refused_wording}
use Rattle.group.specs.declared.Refusal.{Refusal}
use Rattle.jobs.specs.declared.Answer.{Answer}
use Rattle.jobs.specs.declared.Answer.TheVariants.{Added, Given, None}

unfoldable pub wording_of : Result Answer Refusal → Wording
wording_of (Err r) = refused_wording r
wording_of (Ok Added) = word "added" []
wording_of (Ok (Given place)) = word "given" (number place ∷ [])
wording_of (Ok None) = word "none" []
