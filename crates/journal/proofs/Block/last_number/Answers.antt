-- The loop's invariant: the last number, of all records, is that of those that are left, from here on.
use mathlib.Core.Path.{◌≡◌, refl, sym, ap, ◌∙◌}
use Prim.Native.Nat.{◌+◌, ◌-◌}
use native.Mathlib.Omega.{arith}
use Rattle.group.proofs.Choice.{when_true, when_false}
use Rattle.journal.specs.Walk.{last_or}
use Rattle.journal.proofs.Walking.{passed_off, passed_on, passed_done}
use Rattle.journal.proofs.Block.last_number.Goals as goal

pub returns-in_err-passed : goal.returns-in_err-passed
returns-in_err-passed c =
    let l = c.loop in
    let a = c.args in
    c.from_residual.ensures ∙ passed_off a.form a.self.now l.at l.number (a.records - l.counter) _ l.invariant.1 (omega arith) c.in_err-passed.ensures

pub loop-preserved : goal.loop-preserved
loop-preserved c =
    let l = c.loop in
    let a = c.args in
    let e : a.records - l.counter - 1 ≡ a.records - (l.counter + 1) = omega arith in
    let p = c.in_ok-passed.passed in
    let (most, on) = passed_on a.form a.self.now l.at l.number (a.records - l.counter) _ l.invariant.1 p (omega arith) c.in_ok-passed.ensures in
    (most, on ∙ ap (last_or a.form a.self.now p.end p.number) e)

pub returns-then-zeros : goal.returns-then-zeros
returns-then-zeros c =
    let l = c.loop in
    let a = c.args in
    let e : c.self.inside.bytes.now ≡ c.args.self.now = c.self.view_is in
    when_true _ _ _ _ c.if-zeros.true refl
    ∙ sym (passed_done a.form a.self.now l.at l.number (a.records - l.counter) _ l.invariant.1 (omega arith) _ (rw e at c.zeros.ensures))

pub returns-else-zeros : goal.returns-else-zeros
returns-else-zeros c =
    let l = c.loop in
    let a = c.args in
    let e : c.self.inside.bytes.now ≡ c.args.self.now = c.self.view_is in
    when_false _ _ _ _ c.if-zeros.false refl
    ∙ sym (passed_done a.form a.self.now l.at l.number (a.records - l.counter) _ l.invariant.1 (omega arith) _ (rw e at c.zeros.ensures))
