-- The loop's invariant: the acknowledgements of the first `i` members start.
use mathlib.Core.Path.{◌≡◌, sym, ◌∙◌}
use lib.ListN.{length-set}
use native.Mathlib.Omega.{arith}
use Rattle.group.specs.Limits.{members_most}
use Rattle.recovery.proofs.Turning.{starts_on, starts_begun}
use Rattle.recovery.proofs.begin_taken.Goals as goal

pub loop-i-init : goal.loop-i-init
loop-i-init c = (c.requires, starts_begun _ _ _)

pub loop-i-preserved : goal.loop-i-preserved
loop-i-preserved c = let l = c.loop-i in (length-set l.taken l.i c.reply_counted.result ∙ l.invariant.0, starts_on _ _ _ _ l.i _ l.invariant.1 c.reply_counted.ensures)

pub shape_of-taken : goal.shape_of-taken
shape_of-taken c = c.loop-i.invariant.0 ∙ sym c.requires

pub returns : goal.returns
returns c = let l = c.loop-i in let z : l.i ≡ members_most = omega arith in rw z at l.invariant.1
