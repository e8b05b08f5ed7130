-- The loop's invariant: from here on the character is found where it is found in the whole.
use mathlib.Core.Path.{◌≡◌}
use lib.ListN.{drop}
use Rattle.text.specs.Field.{first_from}
use Rattle.text.proofs.first.Given as goal

abbrev pub invariant-loop-i : goal.invariant-loop-i
invariant-loop-i l = first_from l.character l.from (drop l.from l.text) ≡ first_from l.character l.i (drop l.i l.text)
