-- Each row is set.
use mathlib.Core.Path.{refl}
use Rattle.terminal_rows.proofs.write_head.Goals as goal

pub returns : goal.returns
returns c = (rw c.small_of.ensures refl, rw c.masks_of.ensures refl, rw c.numbers_of.ensures refl)
