-- What is held above is dropped; the fields are assigned.
use mathlib.Core.Path.{refl, ap, ◌∙◌}
use Prim.Native.Nat.{ℕ}
use Rattle.election.specs.Steps.{entered_head}
use Rattle.election.proofs.enter_member.Goals as goal

pub returns : goal.returns
returns c = let a = c.args in record { head_is = c.enter_head.ensures ∙ ap (λ (x : ℕ). entered_head a.head a.group (record { 0 = x })) c.later.ensures; held_are = c.drop_above.ensures; replies_are = refl }
