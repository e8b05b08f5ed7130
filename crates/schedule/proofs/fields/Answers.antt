-- A space is looked for three times: there is none, or it ends a field.
use mathlib.Core.Path.{sym}
use Prim.Native.Nat.{◌+◌, zero-le}
use native.Mathlib.Nat.{sub-zero}
use native.Mathlib.Omega.{arith}
use Rattle.text.specs.Text.{space}
use Rattle.schedule.specs.Parts.{parts_at}
use Rattle.text.proofs.Split.{fields_one, fields_more, found_from}
use borrow.Author.Rules.{rules}
use Rattle.schedule.proofs.fields.Goals as goal

pub returns-in_default : goal.returns-in_default
unfolding parts_at
returns-in_default c = record { parts = fields_one c.args.line.now 0 (sym c.in_default.ensures); within = tt }

pub overflow_add-a : goal.overflow_add-a
overflow_add-a c = let k = (found_from space c.args.line.now 0 c.in-Some.a zero-le (sym c.in-Some.ensures)).1 in search rules

pub first-requires-2 : goal.first-requires-2
first-requires-2 c = let k = (found_from space c.args.line.now 0 c.in-Some.a zero-le (sym c.in-Some.ensures)).1 in omega arith

pub returns-in_default-first : goal.returns-in_default-first
unfolding parts_at
returns-in_default-first c =
    let l = c.args.line.now in
    let a = c.in-Some.a in
    let k = (found_from space l 0 a zero-le (sym c.in-Some.ensures)).1 in
    let e = fields_more l 0 a zero-le (sym c.in-Some.ensures) in
    let f = fields_one l (a + 1) (sym c.in_default-first.ensures) in
    record { parts = rw (rw sub-zero at e, f); within = k }

pub overflow_add-b : goal.overflow_add-b
overflow_add-b c =
    let l = c.args.line.now in
    let k = (found_from space l 0 c.in-Some.a zero-le (sym c.in-Some.ensures)).1 in
    let n = (found_from space l (c.in-Some.a + 1) c.in-Some-first.b (omega arith) (sym c.in-Some-first.ensures)).1 in
    search rules

pub first-requires-3 : goal.first-requires-3
first-requires-3 c =
    let l = c.args.line.now in
    let k = (found_from space l 0 c.in-Some.a zero-le (sym c.in-Some.ensures)).1 in
    let n = (found_from space l (c.in-Some.a + 1) c.in-Some-first.b (omega arith) (sym c.in-Some-first.ensures)).1 in
    omega arith

pub returns-in_default-first-2 : goal.returns-in_default-first-2
unfolding parts_at
returns-in_default-first-2 c =
    let l = c.args.line.now in
    let a = c.in-Some.a in
    let b = c.in-Some-first.b in
    let k = (found_from space l 0 a zero-le (sym c.in-Some.ensures)).1 in
    let n = found_from space l (a + 1) b (omega arith) (sym c.in-Some-first.ensures) in
    let e = fields_more l 0 a zero-le (sym c.in-Some.ensures) in
    let f = fields_more l (a + 1) b (omega arith) (sym c.in-Some-first.ensures) in
    let g = fields_one l (b + 1) (sym c.in_default-first-2.ensures) in
    record { parts = rw (rw sub-zero at e, f, g); within = (omega arith, n.1) }

pub returns : goal.returns
unfolding parts_at
returns c =
    let l = c.args.line.now in
    let a = c.in-Some.a in
    let b = c.in-Some-first.b in
    let d = c.in-Some-first-2.c in
    let k = (found_from space l 0 a zero-le (sym c.in-Some.ensures)).1 in
    let n = found_from space l (a + 1) b (omega arith) (sym c.in-Some-first.ensures) in
    let m = found_from space l (b + 1) d (omega arith) (sym c.in-Some-first-2.ensures) in
    let e = fields_more l 0 a zero-le (sym c.in-Some.ensures) in
    let f = fields_more l (a + 1) b (omega arith) (sym c.in-Some-first.ensures) in
    let g = fields_more l (b + 1) d (omega arith) (sym c.in-Some-first-2.ensures) in
    record { parts = rw (rw sub-zero at e, f, g); within = (omega arith, omega arith, m.1) }
