-- 0 is one digit; the digits of any other number are spelled and copied.
use Prim.Native.Nat.{◌-◌}
use native.Mathlib.Omega.{arith}
use lib.ListN.{drop, length-drop}
use Rattle.text.proofs.Decimal.{decimal_zero, decimal_digits_lem}
use Rattle.text.specs.Text.{glyph_of}
use Rattle.text.specs.Written.{count_digits}
use Rattle.group.specs.Choice.{when◌then◌else◌}
use lib.Seq.{take_all}
use Rattle.text.proofs.put_decimal.Goals as goal

pub put-requires : goal.put-requires
put-requires c = let p = rw (c.if-n-eq0.true, decimal_zero) at c.requires in omega arith

pub returns-then-n-eq0 : goal.returns-then-n-eq0
unfolding glyph_of when◌then◌else◌
returns-then-n-eq0 c = rw (c.if-n-eq0.true, decimal_zero) c.put.ensures

pub put_text-requires : goal.put_text-requires
put_text-requires c =
    let s = c.spell-start.result in
    let t = take_all (count_digits - s.start) (drop s.start s.digits) (simp length-drop (omega arith)) in
    let e = c.spell-start.ensures.digits in
    let d = decimal_digits_lem c.args.n c.if-n-eq0.false in
    rw (t, e, ← d) c.requires

pub returns : goal.returns
returns c =
    let s = c.spell-start.result in
    let t = take_all (count_digits - s.start) (drop s.start s.digits) (simp length-drop (omega arith)) in
    let e = c.spell-start.ensures.digits in
    let d = decimal_digits_lem c.args.n c.if-n-eq0.false in
    rw d (rw (t, e) at c.put_text.ensures)
