-- The loop's invariant: the entries are sound exactly if those after the first `i` are.
use mathlib.Core.Path.{◌≡◌}
use lib.ListN.{drop}
use Rattle.group.specs.Choice.{when◌then◌else◌, ◌=?◌}
use Rattle.group.specs.Fold.{all}
use mathlib.Core.Bool.{true}
use Rattle.group.specs.Members.{is_in}
use Rattle.recovery.proofs.replies_sound.Given as goal

abbrev pub invariant-loop-i : goal.invariant-loop-i
invariant-loop-i l = all (λ k number. when is_in l.repliers k then true else number =? 0) 0 l.replies ≡ all (λ k number. when is_in l.repliers k then true else number =? 0) l.i (drop l.i l.replies)
