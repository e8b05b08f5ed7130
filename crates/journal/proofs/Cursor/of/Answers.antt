-- A journal with a block is as long as one.
use mathlib.Core.Path.{sym}
use native.Mathlib.Omega.{arith}
use lib.Seq.{length-take-le}
use Rattle.journal.specs.Limits.{block_size}
use Rattle.journal.proofs.Cursor.of.Goals as goal

pub slice_bounds-bytes-end : goal.slice_bounds-bytes-end
slice_bounds-bytes-end c = sym (length-take-le block_size c.args.journal.now (omega arith))

pub invariant_of-entered : goal.invariant_of-entered
invariant_of-entered c = length-take-le block_size c.args.journal.now (omega arith)
