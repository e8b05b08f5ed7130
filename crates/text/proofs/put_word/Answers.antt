-- A space, and the text behind it.
use Rattle.text.proofs.Pieces.{laid_field}
use borrow.Author.Rules.{rules}
use Rattle.text.proofs.put_word.Goals as goal

pub returns : goal.returns
returns c = record { laid = laid_field c.args.text.now c.put-next.ensures c.put_text.ensures; short = search rules }
