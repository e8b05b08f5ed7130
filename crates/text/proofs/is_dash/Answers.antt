-- The test is the definition's.
use Rattle.text.specs.Text.{dash}
use Rattle.text.proofs.Split.{letter_is}
use Rattle.text.proofs.is_dash.Goals as goal

pub returns : goal.returns
returns c = rw (c.eq.ensures, ← c.letter.ensures) (letter_is dash c.letter.result)
