-- The loop's invariant: what was seen is zero and the rest is under the mask, exactly if all bytes from the index on are.
use mathlib.Core.Path.{◌≡◌}
use lib.ListN.{drop}
use Rattle.group.specs.Choice.{◌and◌, ◌=?◌}
use Rattle.message.specs.Message.{all_zero}
use Rattle.store.proofs.Scanning.{under}
use Rattle.store.proofs.scan.Given as goal

abbrev pub invariant-loop-byte : goal.invariant-loop-byte
invariant-loop-byte l = (l.seen =? 0) and all_zero (under l.byte-iterator.a.rest.now l.byte-iterator.b.rest.now) ≡ all_zero (drop l.from l.block)
