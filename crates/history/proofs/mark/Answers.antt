-- The loop's invariant: the member is marked for the numbers up to `number`.
use mathlib.Core.Path.{◌≡◌, ◌∙◌}
use Prim.Native.Nat.{◌-◌}
use lib.Bits.{bit_or}
use lib.ListN.{get_or, length-set}
use native.Mathlib.Omega.{arith}
use Rattle.history.specs.Marks.{marked_of}
use Rattle.history.proofs.Marking.{mark_on}
use Rattle.history.proofs.mark.Goals as goal

pub loop-number-init : goal.loop-number-init
unfolding marked_of
loop-number-init c = let a = c.args in let e : a.from.0 - a.from.0 ≡ 0 = omega arith in (c.requires.0, omega arith, rw e)

pub loop-number-preserved : goal.loop-number-preserved
loop-number-preserved c =
    let l = c.loop-number in
    let p = c.place.ensures in
    (length-set l.marks c.place.result (bit_or (get_or l.marks c.place.result 0) c.only-bit.result) ∙ l.invariant.0, omega arith, mark_on _ _ _ l.number _ (omega arith) p _ _ c.only-bit.ensures l.invariant.2)

pub returns : goal.returns
returns c =
    let l = c.loop-number in
    let e : l.number - c.args.from.0 ≡ c.args.to.0 - c.args.from.0 = omega arith in
    rw (← e) l.invariant.2
