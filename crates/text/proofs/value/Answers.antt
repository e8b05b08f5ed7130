-- The loop's invariant: the rest of the digits bring the value so far to the whole value.
use mathlib.Core.Path.{refl}
use native.Mathlib.Omega.{arith}
use lib.ListN.{get_or}
use Rattle.text.specs.Text.{digit_of}
use Rattle.text.proofs.Digits.{value_on, value_past, value_end}
use borrow.Author.Rules.{rules}
use Rattle.text.proofs.value.Goals as goal

pub returns-in_err-checked_mul : goal.returns-in_err-checked_mul
returns-in_err-checked_mul c =
    let l = c.loop-c in
    let h = c.in_err-checked_mul.ensures in
    rw c.from_residual.ensures (value_past _ l.value l.c-index l.invariant.1 (digit_of (get_or c.args.field.now l.c-index 0)) (search rules) refl (omega arith))

pub returns-in_err-value : goal.returns-in_err-value
returns-in_err-value c =
    let l = c.loop-c in
    let h = c.in_err-value.ensures in
    let m = c.in_ok-checked_mul.ensures in
    rw c.from_residual-in_err-value.ensures (value_past _ l.value l.c-index l.invariant.1 c.digit.result (search rules) c.digit.ensures (omega arith))

pub loop-c-preserved : goal.loop-c-preserved
loop-c-preserved c =
    let l = c.loop-c in
    let a = c.in_ok-value.ensures in
    let m = c.in_ok-checked_mul.ensures in
    (omega arith, rw (a.1, m.1) (value_on _ l.value l.c-index l.invariant.1 c.digit.result (search rules) c.digit.ensures))

pub returns : goal.returns
returns c = let l = c.loop-c in value_end _ l.value l.c-index l.invariant.1 c.loop-c-test.false l.invariant.0
