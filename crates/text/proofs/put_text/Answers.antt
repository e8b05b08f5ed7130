-- The text is copied to the part from the index on.
use Rattle.text.proofs.Pieces.{laid_text}
use borrow.Author.Rules.{rules}
use Rattle.text.proofs.put_text.Goals as goal

pub returns : goal.returns
returns c = let a = c.args in laid_text a.at a.out.now a.text.now c.copy.new.part (search rules) c.copy.ensures
