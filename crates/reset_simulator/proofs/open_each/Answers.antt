-- One terminal after the other.
use mathlib.Core.Path.{◌≡◌, refl, ◌∙◌}
use native.Mathlib.Omega.{arith}
use Rattle.group.specs.Limits.{members_most}
use Rattle.reset_simulator.proofs.Opening.{begun_none, begun_on, begun_lent}
use Rattle.reset_simulator.proofs.open_each.Goals as goal

pub loop-i-init : goal.loop-i-init
loop-i-init c = (omega arith, begun_none _ _ _ _, refl)

pub call_at-opened-requires : goal.call_at-opened-requires
call_at-opened-requires c = let l = c.loop-i-test.true in omega arith

pub overflow_add-i : goal.overflow_add-i
overflow_add-i c = let t = c.loop-i-test.true in omega arith

pub loop-i-smaller : goal.loop-i-smaller
loop-i-smaller c = let t = c.loop-i-test.true in omega arith

pub loop-i-preserved : goal.loop-i-preserved
loop-i-preserved c =
    let a = c.args in
    let l = c.loop-i in
    ((let t = c.loop-i-test.true in omega arith), begun_on a.n a.number a.resilience _ _ l.i _ _ _ _ l.invariant.1 c.call_at-opened.ensures, begun_lent a.n a.number a.resilience l.i _ _ _ _ _ _ c.call_at-opened.ensures ∙ l.invariant.2)

pub returns : goal.returns
returns c =
    let l = c.loop-i in
    let t = c.loop-i-test.false in
    let b = l.invariant.0 in
    let e : l.i ≡ members_most = omega arith in
    record { terminals = rw e at l.invariant.1; lent = l.invariant.2 }
