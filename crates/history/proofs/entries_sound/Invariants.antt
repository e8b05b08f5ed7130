-- The loop's invariant: the entries are sound exactly if those after the first `i` are.
use mathlib.Core.Path.{◌≡◌}
use lib.ListN.{drop}
use Rattle.group.specs.Fold.{all}
use Rattle.history.specs.Sound.{entry_sound}
use Rattle.history.specs.View.{Entries, table_in}
use Rattle.history.proofs.entries_sound.Given as goal

abbrev pub invariant-loop-i : goal.invariant-loop-i
invariant-loop-i l = Entries l.taken l.counts l.repeats × (all (entry_sound l.group l.top.0) 0 (table_in l.taken l.counts l.repeats) ≡ all (entry_sound l.group l.top.0) l.i (drop l.i (table_in l.taken l.counts l.repeats)))
