-- The first bytes are compared one by one.
use mathlib.Core.Path.{◌≡◌, sym, ap, ◌∙◌}
use native.Mathlib.Omega.{arith}
use lib.ListN.{length}
use Rattle.journal.specs.Limits.{block_size}
use Rattle.journal.proofs.Lists.{begins_all}
use borrow.Author.Rules.{rules}
use Rattle.journal.proofs.Block.begins.Goals as goal

pub returns : goal.returns
returns c =
    let e : c.self.inside.bytes.now ≡ c.args.self.now = c.self.view_is in
    let n : length c.args.mark ≡ 4 = search rules in
    let m : length c.args.self.now ≡ block_size = ap length (sym e) ∙ c.self.invariant in
    rw e at c.starts_with.ensures.value ∙ begins_all c.args.mark c.args.self.now 0 (omega arith)
