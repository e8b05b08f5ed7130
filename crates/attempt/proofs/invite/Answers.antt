-- Each part of the step is what a function left.
use Rattle.packet.proofs.Permitted.{invitation_fields}
use Rattle.attempt.proofs.Stepping.{invite_takes}
use Rattle.attempt.proofs.invite.Goals as goal

pub put_bare-written-requires : goal.put_bare-written-requires
put_bare-written-requires c = let a = c.args in (invitation_fields a.head.member.group.number a.head.member.number a.attempt, c.requires.2)

pub returns : goal.returns
returns c = let a = c.args in invite_takes a.head a.held.now a.attempt c.reply_number-number.ensures c.with_reply-open.ensures c.only-own.ensures c.with_invitation-next.ensures c.own_reply.ensures c.put_bare-written.ensures
