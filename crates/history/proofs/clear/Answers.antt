-- The loop's invariant: the history is cleared of the numbers from the old floor up to `number`.
use mathlib.Core.Path.{◌≡◌}
use Prim.Native.Nat.{ℕ, ◌-◌, ◌<◌}
use lib.ListN.{length-replicate, replicate}
use native.Mathlib.Omega.{arith}
use Rattle.group.specs.Limits.{places_most, payload_most}
use Rattle.history.specs.Note.{cleared_of}
use Rattle.history.proofs.Laying.{laid_sizes, clear_on}
use Rattle.history.proofs.clear.Goals as goal

pub loop-number-init : goal.loop-number-init
unfolding cleared_of
loop-number-init c = let a = c.args in let e : a.was.0 - a.was.0 ≡ 0 = omega arith in (c.requires, omega arith, rw e)

pub loop-number-preserved : goal.loop-number-preserved
loop-number-preserved c =
    let l = c.loop-number in
    let p = c.place-at.ensures in
    let inside : c.place-at.result < places_most = omega (arith, p) in
    rw c.clear.ensures (laid_sizes _ _ _ _ l.invariant.0 _ inside 0 0 0 (replicate payload_most 0) (length-replicate {A = ℕ} payload_most 0), omega arith, clear_on _ _ _ _ l.invariant.0 _ inside _ _ l.number (omega arith) p l.invariant.2)

pub returns : goal.returns
returns c =
    let l = c.loop-number in
    let e : l.number - c.args.was.0 ≡ c.args.floor.0 - c.args.was.0 = omega arith in
    rw (← e) l.invariant.2
