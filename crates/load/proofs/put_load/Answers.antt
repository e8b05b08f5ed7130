-- The first line, and then the lines of the events; where the load is refused, nothing.
use mathlib.Core.Path.{ap}
use Rattle.descriptor.proofs.Laws.{takes_as}
use Rattle.workload.specs.Calls.{open_of}
use Rattle.workload.specs.declared.Step.{Step}
use Rattle.load.proofs.Lines.{taken, prints_whole, prints_nothing}
use Rattle.load.proofs.put_load.Goals as goal

pub returns-in-Err : goal.returns-in-Err
returns-in-Err g c =
    let a = c.args in
    prints_nothing a.seed a.n a.group a.events a.sink c.open-step.ensures.answer c.in-Err.is

pub returns : goal.returns
returns g c =
    let a = c.args in
    let e = c.open-step.ensures in
    let text = taken (open_of a.seed a.n a.group).bytes _ _ _ e.lent (ap (λ (x : Step). x.written) e.answer) in
    prints_whole a.seed a.n a.group a.events a.sink e.answer c.in_default.is (takes_as text c.write-first.ensures) c.put_events.ensures
