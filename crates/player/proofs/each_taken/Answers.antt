-- The loop's invariant: the members passed have their number in the list.
use mathlib.Core.Path.{◌≡◌, refl, sym, ap, ◌∙◌}
use native.Mathlib.Omega.{arith}
use lib.ListN.{length-set}
use lib.Seq.{take_all}
use Rattle.group.specs.Limits.{members_most}
use Rattle.simulator.specs.Whole.{list_of}
use Rattle.player.specs.Player.{taken_at}
use Rattle.player.proofs.Telling.{taken_on}
use borrow.Author.Rules.{rules}
use Rattle.player.proofs.each_taken.Goals as goal

pub loop-i-init : goal.loop-i-init
unfolding list_of
loop-i-init c = (search rules, refl, refl)

pub loop-i-preserved : goal.loop-i-preserved
loop-i-preserved c = let l = c.loop-i in (search rules, simp length-set l.invariant.1, taken_on (taken_at c.args.numbers.now) l.taken l.i (search rules) l.invariant.2)

pub returns : goal.returns
returns c =
    let l = c.loop-i in
    let b = l.invariant.0 in
    let e : l.i ≡ members_most = omega arith in
    sym (take_all l.i l.taken (search rules)) ∙ l.invariant.2 ∙ ap (list_of (taken_at c.args.numbers.now) 0) e
