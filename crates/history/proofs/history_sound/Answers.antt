-- The loop's invariant: the places are sound exactly if those of the numbers after the first `i` are.
use native.Mathlib.Omega.{arith}
use Rattle.group.proofs.Fold.{above_on, above_off, above_done}
use Rattle.history.proofs.View.{place_asked}
use Rattle.history.proofs.history_sound.Goals as goal

pub loop-i-preserved : goal.loop-i-preserved
loop-i-preserved c =
    let l = c.loop-i in
    let p = c.place-at.ensures in
    (l.invariant.0, l.invariant.1, l.invariant.2, above_on _ _ _ l.i l.invariant.3 c.place_sound.result (omega arith) (place_asked _ _ _ _ _ _ _ _ _ _ p (omega (arith, p, l.invariant.1)) c.place_sound.ensures) c.if-not-place_sound.false)

pub returns-then-not-place_sound : goal.returns-then-not-place_sound
returns-then-not-place_sound c =
    let l = c.loop-i in
    let p = c.place-at.ensures in
    above_off _ _ _ l.i l.invariant.3 c.place_sound.result (omega arith) (place_asked _ _ _ _ _ _ _ _ _ _ p (omega (arith, p, l.invariant.1)) c.place_sound.ensures) c.if-not-place_sound.true

pub returns : goal.returns
returns c =
    let l = c.loop-i in
    above_done _ _ _ l.i l.invariant.3 (omega arith)
