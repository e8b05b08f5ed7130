-- The smaller of the two is the definition's choice.
use mathlib.Core.Path.{◌≡◌}
use Prim.Native.Nat.{ℕ}
use native.Mathlib.Omega.{arith}
use borrow.Author.Tests.{ltb-true, ltb-false}
use Rattle.group.proofs.Lists.{when_elim}
use Rattle.group.specs.Choice.{◌<?◌}
use Rattle.group.specs.Limits.{members_most}
use Rattle.player.specs.Player.{degree_of}
use Rattle.player.proofs.degree.Goals as goal

pub returns : goal.returns
unfolding degree_of
returns c =
    let r = c.args.resilience in
    when_elim (λ (x : ℕ). c.min.result ≡ x) (r <? members_most) (λ t. let z = ltb-true r members_most t in omega arith) (λ t. let z = ltb-false r members_most t in omega arith)
