-- Nothing was read.
use mathlib.Core.Path.{ap}
use mathlib.Core.List.{[]}
use native.Mathlib.Omega.{arith}
use Rattle.player.specs.declared.Phase.{Phase}
use Rattle.player.specs.declared.Phase.TheVariants.{Opening}
use Rattle.reset_simulator.specs.Whole.{group_of}
use Rattle.reset_simulator.specs.declared.World.{World}
use Rattle.reset_player.specs.Player.{stage_in}
use Rattle.reset_player.proofs.Telling.{phase_is}
use Rattle.reset_player.proofs.Player.fresh.Goals as goal

pub returns : goal.returns
unfolding stage_in
returns c =
    let world : World = record { n = 0; count = 0 } in
    let e = phase_is world Opening (record { terminals = omega arith; packets = omega arith }) in
    λ w line i. record { stage = ap (λ (p : Phase). stage_in p (group_of w) 0) e i; line = [] }
