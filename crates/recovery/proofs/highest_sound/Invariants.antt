-- The loop's invariant: the entries are sound exactly if those after the first `i` are.
use mathlib.Core.Path.{◌≡◌}
use lib.ListN.{drop}
use Rattle.group.specs.Choice.{when◌then◌else◌, ◌<?◌, ◌=?◌}
use Rattle.group.specs.Fold.{all}
use mathlib.Core.Bool.{true}
use Rattle.recovery.proofs.highest_sound.Given as goal

abbrev pub invariant-loop-i : goal.invariant-loop-i
invariant-loop-i l = all (λ k c. when k <? l.n then true else c =? 0) 0 l.highest ≡ all (λ k c. when k <? l.n then true else c =? 0) l.i (drop l.i l.highest)
