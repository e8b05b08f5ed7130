-- The loop's invariant: the members passed are laid.
use mathlib.Core.Path.{◌≡◌}
use mathlib.Core.List.{map}
use Rattle.group.specs.Limits.{members_most}
use Rattle.text.proofs.Pieces.{laid_fields, laid_none}
use Rattle.text.specs.Written.{decimal_of, spaced}
use Rattle.reset_report.specs.Print.{listed_at, members_below}
use Rattle.reset_report.proofs.Pieces.{members_on}
use borrow.Author.Rules.{rules}
use Rattle.reset_report.proofs.put_members.Goals as goal

pub loop-i-init : goal.loop-i-init
unfolding spaced members_below
loop-i-init c = (search rules, laid_none c.args.at c.args.out.now (search rules))

pub loop-i-preserved : goal.loop-i-preserved
loop-i-preserved c =
    let l = c.loop-i in
    let m = c.args.mask in (
      search rules,
      rw (members_on m l.i) (laid_fields (map decimal_of (members_below m l.i)) (map decimal_of (listed_at m l.i)) l.invariant.1 c.put_listed-next.ensures.laid),
    )

pub returns : goal.returns
returns c =
    let l = c.loop-i in
    let e : l.i ≡ members_most = search rules in
    record { laid = rw e at l.invariant.1; short = search rules }
