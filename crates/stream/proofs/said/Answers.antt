-- Quiet or not, and then the phase.
use Rattle.std.proofs.Common.{◌≡◌, refl, sym, ap, ◌∙◌, Bool, true, ℕ}
use Rattle.player.specs.Player.{phase_with}
use Rattle.player.specs.declared.Phase.{Phase}
use Rattle.player.specs.declared.Phase.TheVariants.{Opening, Running, Ended, Closed}
use Rattle.stream.specs.Steps.{said_size}
use Rattle.stream.proofs.said.Goals as goal

nothing : (p : Phase) (size : ℕ) → (p ≡ Closed → ⊥) → 0 ≡ said_size true p size
unfolding said_size
nothing Opening size n = refl
nothing Running size n = refl
nothing Ended size n = refl
nothing Closed size n = absurd (n refl)

pub returns-then-not-quiet : goal.returns-then-not-quiet
unfolding said_size
returns-then-not-quiet c = let a = c.args in ap (λ (b : Bool). said_size b (phase_with a.n a.count a.phase) a.size) (sym c.if-not-quiet.true)

pub returns-in-Closed : goal.returns-in-Closed
unfolding said_size
returns-in-Closed c =
    let a = c.args in
    ap (λ (p : Phase). said_size true p a.size) (sym c.in-Closed.is ∙ c.phase_of.ensures)
    ∙ ap (λ (b : Bool). said_size b (phase_with a.n a.count a.phase) a.size) (sym c.if-not-quiet.false)

pub returns-in_default : goal.returns-in_default
returns-in_default c =
    let a = c.args in
    nothing c.phase_of.result a.size c.in_default.not-Closed
    ∙ ap (λ (p : Phase). said_size true p a.size) c.phase_of.ensures
    ∙ ap (λ (b : Bool). said_size b (phase_with a.n a.count a.phase) a.size) (sym c.if-not-quiet.false)
