-- The loop's invariant: the sum so far and those of the rest of each half are what they were for the halves.
use mathlib.Core.Path.{◌≡◌, sym, ap, ◌∙◌}
use native.Mathlib.Omega.{arith}
use lib.ListN.{length}
use Rattle.journal.specs.Limits.{block_size}
use Rattle.journal.proofs.Summing.{turn, halves_done}
use Rattle.journal.proofs.Block.sum.Goals as goal

pub loop-i-preserved : goal.loop-i-preserved
loop-i-preserved c =
    let l = c.loop-i in
    let e : c.self.inside.bytes.now ≡ c.args.self.now = c.self.view_is in
    let n : length c.args.self.now ≡ block_size = ap length (sym e) ∙ c.self.invariant in
    let (w, most, inv) = l.invariant in
    let (same, small) = rw e at c.parts-total.ensures in
    (omega arith, omega arith, rw (same, w) (turn c.args.self.now l.i l.total n inv c.loop-i-test.true))

pub returns : goal.returns
returns c =
    let l = c.loop-i in
    let n : length c.args.self.now ≡ block_size = ap length (sym c.self.view_is) ∙ c.self.invariant in
    halves_done c.args.self.now l.i l.total n l.invariant.2 l.auto.i-end c.loop-i-test.false
