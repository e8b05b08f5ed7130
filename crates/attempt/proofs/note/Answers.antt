-- Each part of the step is what a function left.
use mathlib.Core.Path.{sym, ◌∙◌}
use Rattle.attempt.proofs.Stepping.{note_unknown, note_other, note_again, note_first}
use Rattle.attempt.proofs.note.Goals as goal

pub returns-then-is_in : goal.returns-then-is_in
returns-then-is_in c = let a = c.args in λ out. note_again a.head a.replies.now a.sender a.attempt a.number.0 c.if-sender-head.true (sym c.awaits.ensures ∙ c.if-awaits.true) (sym c.is_in.ensures ∙ c.if-is_in.true)

pub returns-then-awaits : goal.returns-then-awaits
returns-then-awaits c = let a = c.args in λ out. note_first a.head a.replies.now a.sender a.attempt a.number.0 c.if-sender-head.true (sym c.awaits.ensures ∙ c.if-awaits.true) (sym c.is_in.ensures ∙ c.if-is_in.false) c.keep_reply.ensures c.only-own.ensures c.with_invitation-next.ensures

pub returns-then-sender-head : goal.returns-then-sender-head
returns-then-sender-head c = let a = c.args in λ out. note_other a.head a.replies.now a.sender a.attempt a.number.0 c.if-sender-head.true (sym c.awaits.ensures ∙ c.if-awaits.false) c.declined.ensures

pub returns : goal.returns
returns c = let a = c.args in λ out. note_unknown a.head a.replies.now a.sender a.attempt a.number.0 c.if-sender-head.false c.declined-2.ensures
