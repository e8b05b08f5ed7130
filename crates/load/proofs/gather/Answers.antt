-- Each turn lays one line behind the others, while there is room for it.
use Rattle.std.proofs.Common.{◌≤◌, arith, rules}
use Rattle.load.proofs.Lines.{lays_on}
use Rattle.load.proofs.gather.Goals as goal

pub loop-left-preserved : goal.loop-left-preserved
loop-left-preserved c =
    let l = c.loop-left in
    let r = c.put_next-size.ensures in
    let t : 1 ≤ l.left = c.loop-left-test.true in
    let k = l.invariant.2 in (search rules, search rules, search rules, λ e. absurd (omega arith), lays_on _ _ l.invariant.4 t r.laid r.load)
