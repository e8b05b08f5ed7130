-- What a broadcast accepts is accepted before its message is kept.
use mathlib.Core.Path.{ap}
use Rattle.store.specs.Places.{messages_in}
use Rattle.member.specs.Calls.{with_accepted, message_step, broadcast_of}
use Rattle.member.specs.Steps.{member_of}
use Rattle.member.specs.declared.Head.{Head}
use Rattle.member.proofs.Outcomes.{replied_as}
use Rattle.member.proofs.broadcast.Goals as goal

pub returns : goal.returns
unfolding with_accepted broadcast_of
returns c =
    let a = c.args in
    let held = messages_in a.held.now a.held_originators.now a.held_lengths.now a.held_payloads.now in
    λ queue. replied_as (ap (λ (h : Head). message_step (member_of h queue held) a.originator a.number.0 a.count a.payload.now) c.accept_up_to-head.ensures) (c.message_step-reply.ensures queue)
