-- The loop's invariant: the members passed have their number in the list.
use mathlib.Core.Path.{◌≡◌}
use Prim.Native.Nat.{◌≤◌}
use lib.ListN.{length, take}
use Rattle.group.specs.Limits.{members_most}
use Rattle.simulator.specs.Whole.{list_of}
use Rattle.player.specs.Player.{taken_at}
use Rattle.player.proofs.each_taken.Given as goal

abbrev pub invariant-loop-i : goal.invariant-loop-i
invariant-loop-i l = (l.i ≤ members_most) × (length l.taken ≡ members_most) × (take l.i l.taken ≡ list_of (taken_at l.numbers) 0 l.i)
