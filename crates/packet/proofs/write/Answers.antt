-- What was accepted has room.
use mathlib.Core.Path.{sym, ◌∙◌}
use native.Mathlib.Omega.{arith}
use Rattle.packet.proofs.Verdicts.{writable}
use borrow.Author.Rules.{rules}
use Rattle.packet.proofs.write.Goals as goal

pub lay-requires : goal.lay-requires
lay-requires c =
    let w = writable _ _ _ (sym c.ask_writing.ensures ∙ search rules) in
    omega arith
