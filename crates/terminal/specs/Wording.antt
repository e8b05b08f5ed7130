-- How the paper words what a list answers to a take: as it words the feed's answer; where nothing was fed there is nothing to word.
use Rattle.std.specs.Prelude.{List, [], ◌∷◌, Option, Some, None, Result}
use Rattle.group.specs.Wording.{Wording}
use Rattle.group.specs.declared.Refusal.{Refusal}
use Rattle.jobs.specs.Wording.{wording_of}
use Rattle.jobs.specs.declared.Answer.{Answer}

unfoldable pub fed_wording : Option (Result Answer Refusal) → List Wording
fed_wording None = []
fed_wording (Some answer) = wording_of answer ∷ []
