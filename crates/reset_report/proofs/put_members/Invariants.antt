-- The loop's invariant: the members passed are laid.
use mathlib.Core.List.{map}
use Prim.Native.Nat.{◌+◌, ◌*◌, ◌≤◌}
use Rattle.text.specs.LaidAt.{LaidAt}
use Rattle.text.specs.Written.{decimal_of, spaced}
use Rattle.reset_report.specs.Print.{members_below}
use Rattle.reset_report.proofs.put_members.Given as goal

abbrev pub invariant-loop-i : goal.invariant-loop-i
invariant-loop-i l = (l.next ≤ l.at + 11 * l.i) × LaidAt l.at (spaced (map decimal_of (members_below l.mask l.i))) l.initial.out l.out l.next
