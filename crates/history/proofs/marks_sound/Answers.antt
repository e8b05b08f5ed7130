-- The loop's invariant: the marks are sound exactly if those of the numbers after the first `i` are.
use native.Mathlib.Omega.{arith}
use Rattle.group.proofs.Fold.{above_on, above_off, above_done}
use Rattle.history.proofs.Marking.{mark_asked}
use Rattle.history.proofs.marks_sound.Goals as goal

pub loop-i-preserved : goal.loop-i-preserved
loop-i-preserved c =
    let l = c.loop-i in
    let p = c.place.ensures in
    (l.invariant.0, above_on _ _ _ l.i l.invariant.1 c.mark_sound.result (omega arith) (mark_asked _ _ _ _ _ _ _ p c.mark_sound.ensures) c.if-not-mark_sound.false)

pub returns-then-not-mark_sound : goal.returns-then-not-mark_sound
returns-then-not-mark_sound c =
    let l = c.loop-i in
    let p = c.place.ensures in
    above_off _ _ _ l.i l.invariant.1 c.mark_sound.result (omega arith) (mark_asked _ _ _ _ _ _ _ p c.mark_sound.ensures) c.if-not-mark_sound.true

pub returns : goal.returns
returns c =
    let l = c.loop-i in
    above_done _ _ _ l.i l.invariant.1 (omega arith)
