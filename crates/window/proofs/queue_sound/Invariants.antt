-- The loop's invariant: the places are sound exactly if those of the counts after the first `i` are.
use mathlib.Core.Path.{◌≡◌}
use Prim.Native.Nat.{◌+◌, ◌-◌}
use Rattle.group.specs.Fold.{all_above}
use Rattle.group.specs.Limits.{waiting_most}
use Rattle.store.specs.Places.{messages_in}
use Rattle.window.specs.Sound.{queue_sound}
use Rattle.window.proofs.queue_sound.Given as goal

abbrev pub invariant-loop-i : goal.invariant-loop-i
invariant-loop-i l = all_above (queue_sound l.number (messages_in l.counts l.originators l.lengths l.payloads) l.submitted) l.taken waiting_most ≡ all_above (queue_sound l.number (messages_in l.counts l.originators l.lengths l.payloads) l.submitted) (l.taken + l.i) (waiting_most - l.i)
