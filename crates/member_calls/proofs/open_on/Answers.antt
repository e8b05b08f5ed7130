-- All arrays are zero; question 18 of the member's number, then those of the group.
use mathlib.Core.Path.{sym, ap, ◌∙◌}
use Rattle.group.proofs.Choice.{choices}
use Rattle.member.specs.Calls.{fresh_of, opened_of}
use Rattle.member.specs.declared.Begun.{Begun}
use Rattle.member.proofs.Opening.{opens}
use borrow.Author.Rules.{rules}
use Rattle.member_calls.proofs.open_on.Goals as goal

pub returns-then-n-number : goal.returns-then-n-number
unfolding fresh_of
returns-then-n-number c = opens (ap (λ (b : Begun). b.head) c.unopened.ensures) (rw c.unopened.ensures (search (choices, rules) depth 9))

pub returns-in-Ok : goal.returns-in-Ok
unfolding fresh_of opened_of
returns-in-Ok c = opens c.idle.ensures (rw (sym c.fresh.ensures.answer ∙ c.in-Ok.is) (search (choices, rules) depth 9))

pub returns-in-Err : goal.returns-in-Err
unfolding fresh_of opened_of
returns-in-Err c = opens (ap (λ (b : Begun). b.head) c.unopened-in-Err.ensures) (rw (sym c.fresh.ensures.answer ∙ c.in-Err.is, c.unopened-in-Err.ensures) (search (choices, rules) depth 9))
