-- What is printed in each phase.
use mathlib.Core.Logic.{◌⊎◌, inl, inr}
use mathlib.Core.Path.{◌≡◌, sym, ap, ◌∙◌}
use Prim.Native.Nat.{ℕ}
use Rattle.descriptor.proofs.Laws.{takes_none, takes_as}
use Rattle.player.proofs.Telling.{running≢, ended≢}
use Rattle.player.specs.declared.Phase.{Phase}
use Rattle.player.specs.declared.Phase.TheVariants.{Running, Ended}
use Rattle.reset.specs.World.{Group}
use Rattle.reset_player.proofs.Telling.{phase_was}
use Rattle.reset_player.specs.Player.{stage_in, phase_of}
use Rattle.reset_output.specs.Recover.{terminals_told, last_of}
use Rattle.reset_player.specs.Steps.{Fits}
use Rattle.reset_simulator.specs.declared.World.{World}
use Rattle.reset_stream.specs.Steps.{terminals_by}
use Rattle.reset_stream.proofs.Laws.{laid_text}
use Rattle.reset_stream.proofs.put_last.Goals as goal

-- the lines of the terminals stand where the group runs, and where it has ended
open_lines : (r : Phase) (g : Group) (number : ℕ) → (r ≡ Running) ⊎ (r ≡ Ended) → terminals_told 0 g.terminals ≡ last_of (stage_in r g number)
unfolding last_of stage_in
open_lines r g number (inl e) = ap (λ (x : Phase). last_of (stage_in x g number)) (sym e)
open_lines r g number (inr e) = ap (λ (x : Phase). last_of (stage_in x g number)) (sym e)

-- such a group fits
fits_open : (w : World) (phase r : Phase) → phase_of w phase ≡ r → (r ≡ Running) ⊎ (r ≡ Ended) → Fits w
fits_open w phase r e (inl i) = (phase_was w phase Running (e ∙ i) running≢).0
fits_open w phase r e (inr i) = (phase_was w phase Ended (e ∙ i) ended≢).0

pub put_terminals-requires : goal.put_terminals-requires
unfolding phase_of
put_terminals-requires g c = (fits_open c.args.player.world c.args.player.phase _ (sym c.phase_of.ensures) c.in-Running.is).terminals

pub returns-in-Opening : goal.returns-in-Opening
unfolding last_of stage_in phase_of
returns-in-Opening g c =
    let a = c.args in
    let p = a.player in
    λ rows packets.
    let here : Group = record { terminals = terminals_by a.small.now a.masks.now a.numbers.now rows p.world.n; packets = packets } in
    let e = ap (λ (x : Phase). last_of (stage_in x here p.number)) (sym c.in-Opening.is ∙ c.phase_of.ensures) in
    takes_as (laid_text c.write_unopened-size.ensures ∙ e) c.put_text.ensures

pub returns-in-Running : goal.returns-in-Running
unfolding last_of stage_in phase_of
returns-in-Running g c =
    let a = c.args in
    let p = a.player in
    λ rows packets.
    let here : Group = record { terminals = terminals_by a.small.now a.masks.now a.numbers.now rows p.world.n; packets = packets } in
    let e = open_lines _ here p.number c.in-Running.is ∙ ap (λ (x : Phase). last_of (stage_in x here p.number)) c.phase_of.ensures in
    takes_as e (c.put_terminals.ensures rows)

pub returns-in-Closed : goal.returns-in-Closed
unfolding last_of stage_in phase_of
returns-in-Closed g c =
    let a = c.args in
    let p = a.player in
    λ rows packets.
    let here : Group = record { terminals = terminals_by a.small.now a.masks.now a.numbers.now rows p.world.n; packets = packets } in
    let e = ap (λ (x : Phase). last_of (stage_in x here p.number)) (sym c.in-Closed.is ∙ c.phase_of.ensures) in
    takes_as e (takes_none _)
