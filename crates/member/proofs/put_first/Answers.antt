-- The part of the place that is lent is the payload of the first message that waits.
use Rattle.window.proofs.Places.{front_part}
use Rattle.member.proofs.put_first.Goals as goal

pub returns : goal.returns
returns c =
    let p = c.requires in
    rw (c.queue_place-at.ensures, front_part _ _ _ p.3) at c.put_request.ensures
