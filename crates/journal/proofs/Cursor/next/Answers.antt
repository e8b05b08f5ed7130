-- Each test of the code is the next of `walk_of`.
use mathlib.Core.Path.{◌≡◌, ◌∙◌}
use native.Mathlib.Omega.{arith}
use Prim.Native.Nat.{◌+◌, ◌-◌}
use Rattle.journal.specs.Limits.{block_size}
use Rattle.journal.proofs.Cursors.{walk_here, walk_on}
use borrow.Author.Rules.{rules}
use Rattle.journal.proofs.Cursor.next.Goals as goal

pub returns-then-self-gt0 : goal.returns-then-self-gt0
returns-then-self-gt0 c =
    let a = c.args in
    let e : a.self.base + block_size - a.self.base ≡ block_size = omega arith in
    rw e at c.given.ensures ∙ walk_here a.self a.journal.now (search rules) (search rules)

pub returns : goal.returns
returns c =
    let a = c.args in
    let next = a.self.base + block_size in
    let e : next + block_size - next ≡ block_size = omega arith in
    rw (c.entered.ensures, e) at c.given-2.ensures ∙ walk_on a.self a.journal.now (search rules) (search rules)
