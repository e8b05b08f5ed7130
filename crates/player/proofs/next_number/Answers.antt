-- One more, or as many as there are.
use mathlib.Core.Path.{◌≡◌}
use Prim.Native.Nat.{ℕ}
use native.Mathlib.Omega.{arith}
use borrow.Author.Tests.{ltb-true, ltb-false}
use Rattle.group.proofs.Lists.{when_elim}
use Rattle.group.specs.Choice.{◌<?◌}
use Rattle.player.specs.Play.{count_largest, next_number}
use Rattle.player.proofs.next_number.Goals as goal

pub returns : goal.returns
unfolding next_number
returns c =
    let n = c.args.number in
    when_elim (λ (x : ℕ). c.saturating_add.result ≡ x) (n <? count_largest) (λ t. let z = ltb-true n count_largest t in omega arith) (λ t. let z = ltb-false n count_largest t in omega arith)
