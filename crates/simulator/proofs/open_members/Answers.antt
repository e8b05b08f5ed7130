-- One member after the other.
use mathlib.Core.Path.{◌≡◌}
use native.Mathlib.Omega.{arith}
use Rattle.group.specs.Limits.{members_most}
use Rattle.simulator.proofs.Opening.{begun_none, begun_on}
use borrow.Author.Rules.{rules}
use Rattle.simulator.proofs.open_members.Goals as goal

pub loop-i-init : goal.loop-i-init
loop-i-init c = (search rules, begun_none _)

pub loop-i-preserved : goal.loop-i-preserved
loop-i-preserved c = (search rules, begun_on c.args.group _ _ _ _ c.loop-i.i c.loop-i.invariant.1 c.open_member.ensures)

pub returns : goal.returns
returns c =
    let l = c.loop-i in
    let e : l.i ≡ members_most = omega arith in
    rw e at l.invariant.1
