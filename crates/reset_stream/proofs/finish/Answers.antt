-- The line that is left, and then what is printed at the end.
use Rattle.descriptor.proofs.Laws.{takes_both, takes_as}
use Rattle.reset_stream.proofs.Laws.{text_told, hands_told}
use Rattle.reset_stream.proofs.finish.Goals as goal

pub returns : goal.returns
returns g c =
    let d = c.end-fed.ensures in
    takes_both (takes_as (text_told d) c.put_text-next.ensures) (hands_told d c.put_last.ensures)
