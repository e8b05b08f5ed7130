-- The loop's invariant: the search from the last number finds what the search from `below` finds.
use mathlib.Core.Path.{◌≡◌, ap, ◌∙◌}
use Prim.Native.Nat.{◌+◌, ◌-◌}
use native.Mathlib.Omega.{arith}
use Rattle.history.specs.State.{place_of}
use Rattle.history.proofs.Finding.{numbered_some, numbered_none}
use Rattle.history.proofs.Marking.{enough_found, enough_on, enough_end}
use Rattle.history.proofs.enough.Goals as goal

pub returns-then-needed-marks : goal.returns-then-needed-marks
returns-then-needed-marks c =
    let l = c.loop-below in
    let same : l.below - 1 + 1 ≡ l.below = omega arith in
    let p : c.place.result ≡ place_of l.below = c.place.ensures ∙ ap place_of same in
    numbered_some _ _ (omega arith) (same ∙ enough_found _ _ _ _ l.below l.invariant.1 (omega arith) (rw (← p) c.if-needed-marks.true))

pub loop-below-preserved : goal.loop-below-preserved
loop-below-preserved c =
    let l = c.loop-below in
    let same : l.below - 1 + 1 ≡ l.below = omega arith in
    let p : c.place.result ≡ place_of l.below = c.place.ensures ∙ ap place_of same in
    (l.invariant.0, enough_on _ _ _ _ l.below l.invariant.1 (omega arith) (rw (← p) c.if-needed-marks.false))

pub returns : goal.returns
returns c = numbered_none _ (enough_end _ _ _ _ c.loop-below.below c.loop-below.invariant.1 (omega arith))
