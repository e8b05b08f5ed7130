-- The loop's invariant: the marks of the numbers up to `number` are cleared.
use mathlib.Core.Path.{◌≡◌, ◌∙◌}
use Prim.Native.Nat.{◌-◌}
use lib.ListN.{length-set}
use native.Mathlib.Omega.{arith}
use Rattle.history.specs.Marks.{unmarked_of}
use Rattle.history.proofs.Marking.{unmark_on}
use Rattle.history.proofs.unmark.Goals as goal

pub loop-number-init : goal.loop-number-init
unfolding unmarked_of
loop-number-init c = let a = c.args in let e : a.from.0 - a.from.0 ≡ 0 = omega arith in (c.requires, omega arith, rw e)

pub loop-number-preserved : goal.loop-number-preserved
loop-number-preserved c =
    let l = c.loop-number in
    let p = c.place.ensures in
    (length-set l.marks c.place.result 0 ∙ l.invariant.0, omega arith, unmark_on _ _ _ l.number _ (omega arith) p l.invariant.2)

pub returns : goal.returns
returns c =
    let l = c.loop-number in
    let e : l.number - c.args.from.0 ≡ c.args.to.0 - c.args.from.0 = omega arith in
    rw (← e) l.invariant.2
