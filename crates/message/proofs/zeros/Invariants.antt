-- The loop's invariant: what was seen is zero exactly if all bytes so far are.
use mathlib.Core.Path.{◌≡◌}
use lib.ListN.{take}
use Rattle.group.specs.Choice.{◌=?◌}
use Rattle.message.specs.Message.{all_zero}
use Rattle.message.proofs.zeros.Given as goal

abbrev pub invariant-loop-byte : goal.invariant-loop-byte
invariant-loop-byte l = (l.seen =? 0) ≡ all_zero (take l.byte-index l.bytes)
