-- What is laid lies in the output.
use Rattle.std.proofs.Common.{sym, length-take-le, rules}
use Rattle.journal_tool.proofs.Within.{plan_within}
use Rattle.journal_tool.proofs.plan.Goals as goal

pub slice_bounds-out-end : goal.slice_bounds-out-end
slice_bounds-out-end c =
    let w = plan_within _ _ _ (sym c.in_ok-size.ensures.answer) in
    search rules

pub slice_bounds-print_rows-end : goal.slice_bounds-print_rows-end
slice_bounds-print_rows-end c =
    let w = plan_within _ _ _ (sym c.in_ok-size.ensures.answer) in
    sym (length-take-le _ _ (search rules))
