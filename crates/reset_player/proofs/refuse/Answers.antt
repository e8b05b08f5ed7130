-- The line fits the output.
use mathlib.Core.Path.{refl}
use Rattle.reset_player.proofs.Telling.{tells_closed}
use borrow.Author.Rules.{rules}
use Rattle.reset_player.proofs.refuse.Goals as goal

pub returns : goal.returns
returns c = λ w. tells_closed _ _ _ _ w _ (search rules) c.write_refused_opening-written.ensures.size c.write_refused_opening-written.ensures.lent refl
