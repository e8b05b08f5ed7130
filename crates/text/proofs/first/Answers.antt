-- The loop's invariant: from here on the character is found where it is found in the whole.
use Rattle.text.proofs.Split.{first_here, first_on, first_done}
use borrow.Author.Rules.{rules}
use Rattle.text.proofs.first.Goals as goal

pub returns-then-text-i : goal.returns-then-text-i
returns-then-text-i c = let l = c.loop-i in first_here _ _ l.i _ l.invariant (search rules) c.if-text-i.true

pub loop-i-preserved : goal.loop-i-preserved
loop-i-preserved c = let l = c.loop-i in first_on _ _ l.i _ l.invariant (search rules) c.if-text-i.false

pub returns : goal.returns
returns c = let l = c.loop-i in first_done _ _ l.i _ l.invariant c.loop-i-test.false
