-- The loop's invariant: what was found and the lowest of the rest are the lowest of the mask.
use mathlib.Core.Path.{◌≡◌}
use Prim.Native.Nat.{◌^◌, ◌<◌, ◌-◌}
use lib.Bits.{bit_or}
use Rattle.group.specs.Limits.{members_most}
use Rattle.group.specs.Members.{lowest_of}
use Rattle.group.proofs.lowest_of.Given as goal

abbrev pub invariant-loop : goal.invariant-loop
invariant-loop l = (l.rest < 2 ^ members_most) × (bit_or l.found (lowest_of (l.k - l.counter) l.rest) ≡ lowest_of l.k l.mask)
