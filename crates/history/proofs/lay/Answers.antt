-- A number up to top has its own message; one above it gets the message that is laid.
use native.Mathlib.Omega.{arith}
use Rattle.history.proofs.Laying.{lay_own, lay_new}
use borrow.Author.Rules.{rules}
use Rattle.history.proofs.lay.Goals as goal

pub returns-then-le : goal.returns-then-le
returns-then-le c = lay_own _ _ _ _ (search rules)

pub returns : goal.returns
returns c =
    let p = c.place-at.ensures in
    rw c.keep.ensures (lay_new _ _ _ _ c.requires.1 _ (omega (arith, p)) _ _ _ _ _ p (search rules) c.requires.0)
