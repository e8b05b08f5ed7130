-- The lists of each phase.
use mathlib.Core.Logic.{◌⊎◌, inl, inr}
use mathlib.Core.Path.{◌≡◌, sym, ap, ◌∙◌}
use mathlib.Core.List.{[]}
use Prim.Native.Nat.{ℕ}
use Rattle.descriptor.proofs.Laws.{takes_none, takes_as}
use Rattle.inspection.proofs.Rows.{fits_open}
use Rattle.inspection.specs.Lists.{lists_of}
use Rattle.inspection.specs.Table.{lists_left}
use Rattle.model.specs.World.{Group}
use Rattle.player.specs.Player.{stage_in, phase_of}
use Rattle.player.specs.declared.Phase.{Phase}
use Rattle.player.specs.declared.Phase.TheVariants.{Opening, Running, Ended, Closed}
use Rattle.stream.proofs.put_left.Goals as goal

-- there are lists where the group runs, and where it has ended; and none before it opens, and after a bad opening
open_lists : (r : Phase) (g : Group) (number : ℕ) → (r ≡ Running) ⊎ (r ≡ Ended) → lists_of g ≡ lists_left (stage_in r g number)
unfolding lists_left stage_in
open_lists r g number (inl e) = ap (λ (x : Phase). lists_left (stage_in x g number)) (sym e)
open_lists r g number (inr e) = ap (λ (x : Phase). lists_left (stage_in x g number)) (sym e)

no_lists : (r : Phase) (g : Group) (number : ℕ) → (r ≡ Opening) ⊎ (r ≡ Closed) → [] ≡ lists_left (stage_in r g number)
unfolding lists_left stage_in
no_lists r g number (inl e) = ap (λ (x : Phase). lists_left (stage_in x g number)) (sym e)
no_lists r g number (inr e) = ap (λ (x : Phase). lists_left (stage_in x g number)) (sym e)

pub put_group-requires : goal.put_group-requires
unfolding phase_of
put_group-requires g c = fits_open c.args.player.head c.args.player.phase _ (sym c.phase_of.ensures) c.in-Running.is

pub returns-in-Running : goal.returns-in-Running
unfolding phase_of
returns-in-Running g c =
    let p = c.args.player in
    λ g s.
    let e = open_lists _ g p.number c.in-Running.is ∙ ap (λ (x : Phase). lists_left (stage_in x g p.number)) c.phase_of.ensures in
    takes_as e (c.put_group.ensures g s)

pub returns-in-Opening : goal.returns-in-Opening
unfolding phase_of
returns-in-Opening g c =
    let p = c.args.player in
    λ g s.
    let e = no_lists _ g p.number c.in-Opening.is ∙ ap (λ (x : Phase). lists_left (stage_in x g p.number)) c.phase_of.ensures in
    takes_as e (takes_none _)
