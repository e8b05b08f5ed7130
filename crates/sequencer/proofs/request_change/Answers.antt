-- Each test is one of the definition's.
use mathlib.Core.Path.{sym, ◌∙◌}
use Rattle.group.proofs.Choice.{choices}
use Rattle.sequencer.specs.Steps.{request_change}
use Rattle.sequencer.proofs.Settling.{again_some, again_none}
use borrow.Author.Rules.{rules}
use Rattle.sequencer.proofs.request_change.Goals as goal

pub returns-then-count-last : goal.returns-then-count-last
unfolding request_change
returns-then-count-last c = rw (c.quiet.ensures, c.one_more-more.ensures) (search (choices, rules) depth 9)

pub returns-in-Some : goal.returns-in-Some
unfolding request_change
returns-in-Some c =
    let a = c.args in
    let z = again_some _ a.last a.top a.accepted _ a.repeats (sym c.find.ensures ∙ c.in-Some.is) in
    rw c.one_more-more.ensures (search (choices, rules) depth 9)

pub returns-in-None : goal.returns-in-None
unfolding request_change
returns-in-None c =
    let a = c.args in
    let z = again_none _ a.last a.top a.accepted a.repeats (sym c.find.ensures ∙ c.in-None.is) in
    rw (c.quiet-in-None.ensures, c.one_more-more.ensures) (search (choices, rules) depth 9)

pub returns-then-kept-eq-PLACES : goal.returns-then-kept-eq-PLACES
unfolding request_change
returns-then-kept-eq-PLACES c = rw c.quiet-then-kept-eq-PLACES.ensures (search (choices, rules) depth 9)

pub returns : goal.returns
unfolding request_change
returns c = rw c.accepted_next.ensures (search (choices, rules) depth 9)
