-- A packet of no bytes is none.
use native.Mathlib.Omega.{arith}
use Rattle.simulator.proofs.Acting.{stores_none, stores_one}
use borrow.Author.Rules.{rules}
use Rattle.simulator.proofs.store.Goals as goal

pub returns-then-size-eq0 : goal.returns-then-size-eq0
returns-then-size-eq0 c = let a = c.args in stores_none a.sizes.now a.packets.now a.count a.size a.bytes c.if-size-eq0.true (search rules)

pub returns-else-size-eq0 : goal.returns-else-size-eq0
returns-else-size-eq0 c =
    let a = c.args in
    let k = c.requires.0 in
    let s = c.requires.1 in
    let p = c.requires.2 in
    stores_one a.sizes.now a.packets.now a.count a.size a.bytes (search rules) (search rules) (omega arith) (omega arith)
