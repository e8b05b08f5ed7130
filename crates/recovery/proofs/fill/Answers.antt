-- The loop's invariant: the history has the numbers above floor up to `number`.
use mathlib.Core.Path.{◌≡◌, sym, ◌∙◌}
use Prim.Native.Nat.{◌-◌}
use native.Mathlib.Omega.{arith}
use Rattle.recovery.proofs.Turning.{filled_on, filled_begun}
use Rattle.recovery.proofs.fill.Goals as goal

pub loop-number-init : goal.loop-number-init
loop-number-init c = (c.requires.0, omega arith, filled_begun _ _ _ _ _)

pub fill_one-requires : goal.fill_one-requires
fill_one-requires c = (c.loop-number.invariant.0, c.requires.1, c.requires.2)

pub loop-number-preserved : goal.loop-number-preserved
loop-number-preserved c =
    let l = c.loop-number in
    let k = l.invariant.0 in
    (record { kept_size = c.kept-1.given ∙ k.kept_size; originators_size = c.originators-1.given ∙ k.originators_size; lengths_size = c.lengths-1.given ∙ k.lengths_size; payloads_size = c.payloads-1.given ∙ k.payloads_size }, omega arith, filled_on _ _ _ _ _ l.number (omega arith) c.fill_one.ensures l.invariant.2)

pub shape_of-kept : goal.shape_of-kept
shape_of-kept c = c.loop-number.invariant.0.kept_size ∙ sym c.requires.0.kept_size

pub shape_of-originators : goal.shape_of-originators
shape_of-originators c = c.loop-number.invariant.0.originators_size ∙ sym c.requires.0.originators_size

pub shape_of-lengths : goal.shape_of-lengths
shape_of-lengths c = c.loop-number.invariant.0.lengths_size ∙ sym c.requires.0.lengths_size

pub shape_of-payloads : goal.shape_of-payloads
shape_of-payloads c = c.loop-number.invariant.0.payloads_size ∙ sym c.requires.0.payloads_size

pub returns : goal.returns
returns c =
    let l = c.loop-number in
    let e : l.number - c.args.floor.0 ≡ c.args.last.0 - c.args.floor.0 = omega arith in
    rw (← e) l.invariant.2
