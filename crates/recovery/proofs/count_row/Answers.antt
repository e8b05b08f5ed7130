-- The loop's invariant: the messages up to `number` count.
use mathlib.Core.Path.{◌≡◌, sym, ◌∙◌}
use Prim.Native.Nat.{◌-◌}
use native.Mathlib.Omega.{arith}
use Rattle.recovery.proofs.Turning.{count_on, counts_begun}
use Rattle.recovery.proofs.count_row.Goals as goal

pub loop-number-init : goal.loop-number-init
loop-number-init c = (c.requires.0, omega arith, counts_begun _ _ _)

pub loop-number-preserved : goal.loop-number-preserved
loop-number-preserved c =
    let l = c.loop-number in
    (c.counts-1.given ∙ l.invariant.0, omega arith, count_on _ _ c.requires.1 _ _ l.number _ _ _ (omega arith) c.place-at.ensures c.count_one.ensures l.invariant.2)

pub shape_of-counts : goal.shape_of-counts
shape_of-counts c = c.loop-number.invariant.0 ∙ sym c.requires.0

pub returns : goal.returns
returns c =
    let l = c.loop-number in
    let e : l.number - c.args.taken.0 ≡ c.args.last.0 - c.args.taken.0 = omega arith in
    rw (← e) l.invariant.2
