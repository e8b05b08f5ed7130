-- The block has a byte that counts and is not zero, or what lies behind it decides.
use mathlib.Core.Path.{◌≡◌}
use Prim.Native.Nat.{◌+◌, ◌-◌}
use native.Mathlib.Omega.{arith}
use Rattle.store.specs.Places.{block_size}
use Rattle.store.proofs.Scanning.{block_fails, block_passes}
use Rattle.store.proofs.unused_in.Goals as goal

pub returns-then-scan : goal.returns-then-scan
returns-then-scan g c =
    let s = g.row.START in
    let e : s + block_size - s ≡ block_size = omega arith in
    block_passes c.args.part.now s (c.args.from - s) c.args.from (omega arith) (omega arith) (omega arith) c.scan.result c.zeros.result 240
    (rw e at c.scan.ensures) c.if-scan.true c.requires.part.0 c.zeros.ensures

pub returns-else-scan : goal.returns-else-scan
returns-else-scan g c =
    let s = g.row.START in
    let e : s + block_size - s ≡ block_size = omega arith in
    block_fails c.args.part.now s (c.args.from - s) c.args.from (omega arith) (omega arith) (omega arith) c.scan.result (rw e at c.scan.ensures) c.if-scan.false
