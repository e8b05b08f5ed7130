-- The message is kept as that of a broadcast; then it is confirmed, or it is not.
use Rattle.window.proofs.Places.{counted_in_lem}
use Rattle.member.specs.Calls.{confirm_packet, offer_of}
use Rattle.member.proofs.Confirming.{message_silent, confirms_so, confirms_not}
use Rattle.member.proofs.offer.Goals as goal

pub returns-then-confirmed : goal.returns-then-confirmed
unfolding offer_of confirm_packet
returns-then-confirmed c =
    λ queue. confirms_so _ _ queue _ (counted_in_lem _ _ _ _) _ (c.message_step-reply.ensures queue) (message_silent _ _ _ _ _) _ c.confirmed.ensures c.if-confirmed.true c.put_confirm-written.ensures

pub returns : goal.returns
unfolding offer_of
returns c = λ queue. confirms_not _ _ queue _ (counted_in_lem _ _ _ _) _ (c.message_step-reply.ensures queue) _ c.confirmed.ensures c.if-confirmed.false
