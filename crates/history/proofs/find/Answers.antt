-- The loop's invariant: the search from top finds what the search from `below` finds.
use mathlib.Core.Path.{◌≡◌, ap, ◌∙◌}
use Prim.Native.Nat.{◌+◌, ◌-◌}
use native.Mathlib.Omega.{arith}
use Rattle.history.specs.State.{place_of}
use Rattle.history.proofs.Finding.{numbered_some, numbered_none, find_found, find_on, find_end}
use Rattle.history.proofs.View.{of_asked}
use Rattle.history.proofs.find.Goals as goal

pub returns-then-is_of : goal.returns-then-is_of
returns-then-is_of c =
    let l = c.loop-below in
    let same : l.below - 1 + 1 ≡ l.below = omega arith in
    let p : c.place-at.result ≡ place_of l.below = c.place-at.ensures ∙ ap place_of same in
    numbered_some _ _ (omega arith) (same ∙ find_found _ _ _ _ _ l.below l.invariant.2 c.is_of.result (omega arith) (of_asked _ _ _ _ l.below _ _ p (omega (arith, p, l.invariant.0)) c.is_of.ensures) c.if-is_of.true)

pub loop-below-preserved : goal.loop-below-preserved
loop-below-preserved c =
    let l = c.loop-below in
    let same : l.below - 1 + 1 ≡ l.below = omega arith in
    let p : c.place-at.result ≡ place_of l.below = c.place-at.ensures ∙ ap place_of same in
    (l.invariant.0, l.invariant.1, find_on _ _ _ _ _ l.below l.invariant.2 c.is_of.result (omega arith) (of_asked _ _ _ _ l.below _ _ p (omega (arith, p, l.invariant.0)) c.is_of.ensures) c.if-is_of.false)

pub returns : goal.returns
returns c = numbered_none _ (find_end _ _ _ _ _ c.loop-below.below c.loop-below.invariant.2 (omega arith))
