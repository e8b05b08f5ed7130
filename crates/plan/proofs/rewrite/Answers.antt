-- Question 21 is that of reading; the others are those of what was found.
use Rattle.std.proofs.Common.{sym}
use Rattle.std.proofs.lemmas.Result.{err_from_is_err_and}
use Rattle.plan.specs.Calls.{rewrite_of}
use Rattle.plan.proofs.Planning.{lays_says, read_found, asked_refused}
use Rattle.plan.proofs.rewrite.Goals as goal

pub rewrite_found-requires : goal.rewrite_found-requires
rewrite_found-requires c = read_found c.args.journal.now _ (sym c.in_ok-found.ensures.answer)

pub returns : goal.returns
returns c = let both = lays_says c.rewrite_found.ensures in record { answer = both.0; lent = both.1.0; wording = both.1.1 }

pub returns-in_err-found : goal.returns-in_err-found
unfolding rewrite_of
returns-in_err-found c =
    let p = err_from_is_err_and c.from_residual.result c.from_residual.ensures.1 in
    let l = asked_refused c.args.journal.now _ _ _ c.args.out.now (sym c.in_err-found.ensures.answer) in
    let both = lays_says l in
    rw (p.1, p.2) (record { answer = both.0; lent = both.1.0; wording = both.1.1 })
