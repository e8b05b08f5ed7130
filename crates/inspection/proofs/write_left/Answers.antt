-- What is left in each phase.
use mathlib.Core.Logic.{◌⊎◌, inl, inr}
use mathlib.Core.Path.{◌≡◌, sym, ap, ◌∙◌}
use mathlib.Core.List.{List}
use Prim.Native.Nat.{ℕ}
use native.Mathlib.Omega.{arith}
use lib.ListN.{length}
use Rattle.group.specs.Lent.{front}
use Rattle.model.specs.World.{Group}
use Rattle.inspection.proofs.Rows.{fits_open}
use Rattle.report.specs.Print.{bad_opening, line_room}
use Rattle.player.specs.Player.{stage_in, phase_of}
use Rattle.player.specs.declared.Phase.{Phase}
use Rattle.player.specs.declared.Phase.TheVariants.{Running, Ended}
use Rattle.inspection.specs.Table.{table_of, table_left, table_room}
use Rattle.player.proofs.Telling.{fits_in}
use borrow.Author.Rules.{rules}
use Rattle.inspection.proofs.write_left.Goals as goal

-- a table stands where the group runs, and where it has ended
open_table : (r : Phase) (g : Group) (number : ℕ) → (r ≡ Running) ⊎ (r ≡ Ended) → table_of g ≡ table_left (stage_in r g number)
unfolding table_left stage_in
open_table r g number (inl e) = ap (λ (x : Phase). table_left (stage_in x g number)) (sym e)
open_table r g number (inr e) = ap (λ (x : Phase). table_left (stage_in x g number)) (sym e)

pub put_table-requires : goal.put_table-requires
unfolding phase_of
put_table-requires c = ((fits_open c.args.player.head c.args.player.phase _ (sym c.phase_of.ensures) c.in-Running.is).members, search rules)

pub returns-in-Opening : goal.returns-in-Opening
unfolding table_left stage_in phase_of
returns-in-Opening c =
    let p = c.args.player in
    let lent = c.args.out.now in
    let room : length lent ≡ table_room = search rules in
    let fit = fits_in line_room (length lent) bad_opening (omega arith) in
    λ g s.
    let text : Phase → List ℕ = λ x. table_left (stage_in x g p.number) in
    let f = fit ∙ ap text (sym c.in-Opening.is ∙ c.phase_of.ensures) in
    record { size = c.write_bad_opening.ensures.size ∙ ap length f; lent = c.write_bad_opening.ensures.lent ∙ ap (λ (bytes : List ℕ). front bytes lent) f }

pub returns-in-Running : goal.returns-in-Running
unfolding table_left stage_in phase_of
returns-in-Running c =
    let p = c.args.player in
    let lent = c.args.out.now in
    λ g s.
    let text : Phase → List ℕ = λ x. table_left (stage_in x g p.number) in
    let e = open_table _ g p.number c.in-Running.is ∙ ap text c.phase_of.ensures in
    let l = c.put_table.ensures g s in
    record { size = l.size ∙ ap length e; lent = l.lent ∙ ap (λ (bytes : List ℕ). front bytes lent) e }

pub returns-in-Closed : goal.returns-in-Closed
unfolding table_left stage_in phase_of
returns-in-Closed c =
    let p = c.args.player in
    let lent = c.args.out.now in
    λ g s.
    let text : Phase → List ℕ = λ x. table_left (stage_in x g p.number) in
    let e = sym c.in-Closed.is ∙ c.phase_of.ensures in
    record { size = ap (λ (x : Phase). length (text x)) e; lent = ap (λ (x : Phase). front (text x) lent) e }
