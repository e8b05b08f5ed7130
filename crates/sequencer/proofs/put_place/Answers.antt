-- The first bytes of the place are what is lent.
use Rattle.sequencer.proofs.View.{place_laid}
use Rattle.sequencer.proofs.put_place.Goals as goal

pub returns : goal.returns
returns c = let a = c.args in place_laid _ a.payloads.now a.at a.size _ c.requires.1 c.put.ensures
