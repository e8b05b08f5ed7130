-- The loop's invariant: what was added up and the sum of the rest are the sum, which no number of 64 bits is too small for.
use mathlib.Core.Path.{◌≡◌}
use mathlib.Core.List.{[]}
use native.Mathlib.Omega.{arith}
use Rattle.group.specs.Limits.{largest_number}
use Rattle.group.proofs.Lists.{le_or}
use Rattle.history.specs.Repeat.{repeats_sum}
use Rattle.history.specs.View.{repeats_only}
use Rattle.history.proofs.Repeating.{sum_step, sum_end, held_low, held_high}
use Rattle.history.proofs.View.{length_table, repeat_in}
use borrow.Author.Rules.{rules}
use Rattle.history.proofs.repeats.Goals as goal

pub loop-count-preserved : goal.loop-count-preserved
loop-count-preserved c =
    let l = c.loop-count in
    let repeats = c.args.repeats.now in
    let n = length_table repeats [] repeats in
    let f = c.type_inv.repeats l.count-index in
    let z = sum_step (repeats_only repeats) l.count-index (omega arith) in
    let y = repeat_in repeats l.count-index (omega arith) in
    (l.invariant.0, search rules, omega arith)

pub returns : goal.returns
returns c =
    let l = c.loop-count in
    let repeats = c.args.repeats.now in
    let n = length_table repeats [] repeats in
    let e = sum_end (repeats_only repeats) l.count-index (omega arith) in
    let sum : l.sum ≡ repeats_sum (repeats_only repeats) = omega arith in
    let m = c.min.ensures in
    le_or largest_number (repeats_sum (repeats_only repeats)) (λ h. let q = held_high (repeats_only repeats) h in omega arith)
    (λ h. let q = held_low (repeats_only repeats) h in omega arith)
