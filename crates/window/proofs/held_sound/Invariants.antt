-- The loop's invariant: the places are sound exactly if those of the numbers after the first `i` are.
use mathlib.Core.Path.{◌≡◌}
use Prim.Native.Nat.{◌+◌, ◌-◌}
use Rattle.group.specs.Fold.{all_above}
use Rattle.group.specs.Limits.{held_most}
use Rattle.store.specs.Places.{messages_in}
use Rattle.window.specs.Sound.{place_sound}
use Rattle.window.proofs.held_sound.Given as goal

abbrev pub invariant-loop-i : goal.invariant-loop-i
invariant-loop-i l = all_above (place_sound l.n (messages_in l.counts l.originators l.lengths l.payloads)) l.taken.0 held_most ≡ all_above (place_sound l.n (messages_in l.counts l.originators l.lengths l.payloads)) (l.taken.0 + l.i) (held_most - l.i)
