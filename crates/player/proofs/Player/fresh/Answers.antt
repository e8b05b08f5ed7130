-- Nothing was read.
use mathlib.Core.Path.{ap}
use mathlib.Core.List.{[]}
use native.Mathlib.Omega.{arith}
use Rattle.player.specs.Player.{stage_in}
use Rattle.player.specs.declared.Phase.{Phase}
use Rattle.player.specs.declared.Phase.TheVariants.{Opening}
use Rattle.simulator.specs.Whole.{group_of}
use Rattle.simulator.specs.declared.Head.{Head}
use Rattle.player.proofs.Telling.{phase_is}
use Rattle.player.proofs.Player.fresh.Goals as goal

pub returns : goal.returns
unfolding stage_in
returns c =
    let head : Head = record { sequencer = record { group = record { n = 0; resilience = 0; survivors = 0; elected = record { 0 = 0 }; number = 0 }; top = record { 0 = 0 }; accepted = record { 0 = 0 }; floor = record { 0 = 0 } }; count = 0 } in
    let e = phase_is head Opening (record { members = omega arith; packets = omega arith }) in
    λ w line i. record { stage = ap (λ (p : Phase). stage_in p (group_of w) 0) e i; line = [] }
