-- The line that is left, and then what is printed at the end.
use mathlib.Core.Path.{refl}
use Rattle.descriptor.proofs.Laws.{takes_both, takes_as}
use Rattle.player.specs.Player.{phase_of}
use Rattle.stream.proofs.Laws.{said_told, hands_told}
use Rattle.stream.proofs.finish.Goals as goal

pub returns : goal.returns
unfolding phase_of
returns g c =
    let a = c.args in
    let d = c.end-fed.ensures in
    let t = said_told a.quiet d c.said-size.ensures in
    takes_both (takes_as t c.put_text-next.ensures) (hands_told a.quiet d c.put_last.ensures refl)
