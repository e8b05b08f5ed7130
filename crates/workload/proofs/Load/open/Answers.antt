-- More members than there may be, then the answer of the group.
use mathlib.Core.Path.{refl, sym, ap, ◌∙◌}
use Rattle.workload.specs.Calls.{opened}
use Rattle.workload.proofs.Choosing.{laid_whole, open_many, done, none_within}
use borrow.Author.Rules.{rules}
use Rattle.workload.proofs.Load.open.Goals as goal

pub returns-then-n : goal.returns-then-n
unfolding opened
returns-then-n c =
    let a = c.args in
    let both = done (ap (opened a.seed) (open_many a.n a.group c.if-n.true)) _ _ c.refused.ensures refl (none_within c.refused.ensures) in
    record { answer = both.0; lent = both.1.0; wording = both.1.1.0; within = both.1.1.1 }

pub returns-in-Ok : goal.returns-in-Ok
unfolding opened
returns-in-Ok c =
    let a = c.args in
    let e = sym c.fresh.ensures.answer ∙ c.in-Ok.is in
    let l = laid_whole c.put_two-written.ensures in
    let f = c.put_two-written.ensures.fits in
    let both = done (ap (opened a.seed) e) _ _ (rw l.size) l.lent (search rules) in
    record { answer = both.0; lent = both.1.0; wording = both.1.1.0; within = both.1.1.1 }

pub returns-in-Err : goal.returns-in-Err
unfolding opened
returns-in-Err c =
    let a = c.args in
    let e = sym c.fresh.ensures.answer ∙ c.in-Err.is in
    let both = done (ap (opened a.seed) e) _ _ c.refused-in-Err.ensures refl (none_within c.refused-in-Err.ensures) in
    record { answer = both.0; lent = both.1.0; wording = both.1.1.0; within = both.1.1.1 }
