-- One byte is stored.
use Rattle.text.proofs.Pieces.{laid_byte}
use borrow.Author.Rules.{rules}
use Rattle.text.proofs.put.Goals as goal

pub returns : goal.returns
returns c = let a = c.args in laid_byte a.at a.out.now a.byte (search rules)
