-- The loop's invariant: the numbers passed are laid.
use mathlib.Core.List.{[], ◌∷◌, map}
use lib.ListN.{take, get_or}
use Rattle.text.proofs.Pieces.{laid_fields, laid_none}
use Rattle.report.proofs.Pieces.{each_on}
use Rattle.text.specs.Written.{decimal_of, spaced}
use lib.Seq.{take_all}
use borrow.Author.Rules.{rules}
use Rattle.report.proofs.put_each.Goals as goal

pub loop-number-init : goal.loop-number-init
unfolding spaced
loop-number-init c = (search rules, laid_none c.args.at c.args.out.now (search rules))

pub loop-number-preserved : goal.loop-number-preserved
loop-number-preserved c =
    let l = c.loop-number in
    let n = c.args.numbers.now in (
      search rules,
      rw (each_on n l.number-index (search rules)) (laid_fields (map decimal_of (take l.number-index n)) (decimal_of (get_or n l.number-index 0) ∷ []) l.invariant.1 c.put_number-next.ensures.laid),
    )

pub returns : goal.returns
returns c =
    let l = c.loop-number in
    record { laid = rw (take_all l.number-index c.args.numbers.now (search rules)) at l.invariant.1; short = search rules }
