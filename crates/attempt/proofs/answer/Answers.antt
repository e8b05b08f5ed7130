-- By its kind.
use Rattle.attempt.proofs.Stepping.{answer_invited, answer_noted}
use Rattle.attempt.proofs.answer.Goals as goal

pub returns-then-h-eq-INVITATION : goal.returns-then-h-eq-INVITATION
returns-then-h-eq-INVITATION c = let a = c.args in answer_invited a.head a.held.now a.replies.now a.h c.if-h-eq-INVITATION.true c.reply.ensures

pub returns : goal.returns
returns c = let a = c.args in answer_noted a.head a.held.now a.replies.now a.h c.if-h-eq-INVITATION.false (c.note.ensures a.out.now)
