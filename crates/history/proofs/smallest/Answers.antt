-- The loop's invariant: the smaller of `low` and the smallest of the rest is floor.
use mathlib.Core.Path.{refl, sym, ◌∙◌}
use native.Mathlib.Omega.{arith}
use Rattle.history.specs.State.{floor_of}
use Rattle.history.proofs.View.{smallest_on, smallest_end}
use borrow.Author.Rules.{rules}
use Rattle.history.proofs.smallest.Goals as goal

pub loop-i-init : goal.loop-i-init
unfolding floor_of
loop-i-init c = (search rules, search rules, refl)

pub loop-i-preserved : goal.loop-i-preserved
loop-i-preserved c =
    let l = c.loop-i in
    let a = c.args in
    (search rules, l.invariant.1, sym (smallest_on a.survivors l.low l.i c.smaller-low.result a.taken (omega arith) c.smaller-low.ensures) ∙ l.invariant.2)

pub returns : goal.returns
returns c =
    let l = c.loop-i in
    let a = c.args in
    sym (smallest_end a.survivors l.low l.i a.taken (omega arith)) ∙ l.invariant.2
