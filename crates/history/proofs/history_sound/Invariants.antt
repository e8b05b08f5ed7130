-- The loop's invariant: the places are sound exactly if those of the numbers after the first `i` are.
use mathlib.Core.Path.{◌≡◌}
use Prim.Native.Nat.{◌+◌, ◌-◌}
use lib.ListN.{length}
use Rattle.group.specs.Fold.{all_above}
use Rattle.group.specs.Limits.{members_most, places_most}
use Rattle.store.specs.Places.{messages_in, mask_of}
use Rattle.history.specs.Sound.{place_sound}
use Rattle.history.specs.View.{Places, counts_only}
use Rattle.history.proofs.history_sound.Given as goal

abbrev pub invariant-loop-i : goal.invariant-loop-i
invariant-loop-i l = (length l.counts ≡ members_most) × Places l.kept l.originators l.lengths l.payloads × (l.mask ≡ mask_of) × (all_above (place_sound l.n (counts_only l.counts) (messages_in l.kept l.originators l.lengths l.payloads) l.top.0) l.floor.0 places_most ≡ all_above (place_sound l.n (counts_only l.counts) (messages_in l.kept l.originators l.lengths l.payloads) l.top.0) (l.floor.0 + l.i) (places_most - l.i))
