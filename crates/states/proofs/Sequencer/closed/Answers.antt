-- All arrays are zero.
use mathlib.Core.Path.{◌≡◌}
use Rattle.group.specs.Opening.{description_of}
use Rattle.sequencer.proofs.View.{fresh_view}
use Rattle.states.proofs.Sequencer.closed.Goals as goal

pub returns : goal.returns
returns c =
    let h = c.default.ensures in
    let none : c.default.result ≡ description_of 0 0 0 = λ i. record { n = h.0 i; resilience = h.1.0 i; survivors = h.1.1.0 i; elected = record { 0 = h.1.1.1.0 i }; number = h.1.1.1.1 i } in
    rw (c.fresh_head.ensures, none) (fresh_view _)
