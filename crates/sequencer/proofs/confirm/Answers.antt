-- Each test is one of the definition's, and the marks are what it says.
use mathlib.Core.Path.{refl, sym, ◌∙◌}
use Rattle.history.proofs.Finding.{numbered_was, numbered_least, numbered_not}
use native.Mathlib.Omega.{arith}
use Rattle.sequencer.proofs.Confirmed.{confirm_old, confirm_marked, confirm_accepted}
use Rattle.sequencer.proofs.confirm.Goals as goal

pub returns-then-number-head : goal.returns-then-number-head
returns-then-number-head c = let a = c.args in confirm_old a.head a.marks.now a.member a.number c.if-number-head.true _ c.unwritten.ensures a.out.now

pub send_accept-written-requires : goal.send_accept-written-requires
send_accept-written-requires c = (numbered_least _ _ (sym c.enough.ensures ∙ c.in-Some.is), c.requires.2)

pub returns-in-Some : goal.returns-in-Some
returns-in-Some c =
    let a = c.args in
    let e = sym c.enough.ensures ∙ c.in-Some.is in
    let least = numbered_least _ _ e in
    confirm_accepted a.head a.marks.now a.member a.number c.if-number-head.false _ c.mark.ensures _ c.needed.ensures _ (numbered_was _ _ e) (λ z. omega arith) _ c.unmark.ensures _ _ _ c.send_accept-written.ensures

pub returns-in-None : goal.returns-in-None
returns-in-None c =
    let a = c.args in
    let e = sym c.enough.ensures ∙ c.in-None.is in
    confirm_marked a.head a.marks.now a.member a.number c.if-number-head.false _ c.mark.ensures _ c.needed.ensures (record { 0 = 0 }) (numbered_not _ e) refl _ c.unwritten-in-None.ensures a.out.now
