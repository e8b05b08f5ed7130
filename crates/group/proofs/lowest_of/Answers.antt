-- The loop's invariant: what was found and the lowest of the rest are the lowest of the mask.
use mathlib.Core.Path.{◌≡◌, sym, ◌∙◌}
use Prim.Native.Nat.{suc, ◌-◌, ◌+◌}
use native.Mathlib.Omega.{arith}
use lib.Bits.{or_zero_r}
use Rattle.group.specs.Members.{lowest, lowest_of}
use Rattle.group.proofs.Members.{without_lt, lowest_lt, lowest_turn, lowest_none, one_shifted}
use Rattle.group.proofs.lowest_of.Goals as goal

pub returns-then-rest-eq0 : goal.returns-then-rest-eq0
returns-then-rest-eq0 c =
    let l = c.loop in
    sym (lowest_none l.found (c.args.k - l.counter)) ∙ rw (← c.if-rest-eq0.true) l.invariant.1

pub loop-preserved : goal.loop-preserved
loop-preserved c =
    let l = c.loop in
    let e = one_shifted (lowest l.rest) 16 (lowest_lt l.rest (omega arith) l.invariant.0) in
    let k : suc (c.args.k - (l.counter + 1)) ≡ c.args.k - l.counter = omega arith in
    (without_lt l.rest l.invariant.0, rw e (lowest_turn l.found l.rest (c.args.k - (l.counter + 1)) c.if-rest-eq0.false ∙ rw k l.invariant.1))

pub returns-after-loop : goal.returns-after-loop
unfolding lowest_of
returns-after-loop c =
    let l = c.loop in
    let z : c.args.k - l.counter ≡ 0 = omega arith in
    sym (or_zero_r l.found) ∙ rw z at l.invariant.1
