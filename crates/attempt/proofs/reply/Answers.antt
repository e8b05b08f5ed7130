-- Each part of the step is what a function left.
use mathlib.Core.Path.{refl}
use Rattle.packet.proofs.Permitted.{reply_fields}
use Rattle.attempt.proofs.Stepping.{reply_takes, reply_closes, reply_declines}
use Rattle.attempt.proofs.reply.Goals as goal

pub put_bare-written-requires : goal.put_bare-written-requires
put_bare-written-requires c = let a = c.args in (reply_fields a.head.member.group.number a.head.member.number a.attempt c.reply_number-number.result, c.requires.1)

pub returns-then-sender-own : goal.returns-then-sender-own
returns-then-sender-own c = let a = c.args in reply_takes a.head a.held.now a.attempt c.reply_number-number.ensures c.with_reply-open.ensures a.replies.now a.sender c.if-sender-head.true c.put_bare-written.ensures c.if-sender-own.true

pub returns-then-sender-head : goal.returns-then-sender-head
returns-then-sender-head c = let a = c.args in reply_closes a.head a.held.now a.attempt c.reply_number-number.ensures c.with_reply-open.ensures a.replies.now a.sender c.if-sender-head.true c.put_bare-written.ensures c.if-sender-own.false c.with_invitation-next.ensures refl

pub returns : goal.returns
returns c = let a = c.args in reply_declines a.head a.held.now a.replies.now a.sender a.attempt c.if-sender-head.false c.declined.ensures
