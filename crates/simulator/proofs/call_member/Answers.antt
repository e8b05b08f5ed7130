-- Each call is that of its kind; the arrays of one member are lent, and the others keep theirs.
use Rattle.simulator.specs.Steps.{outcome_of}
use Rattle.simulator.specs.Whole.{rows_of}
use Rattle.simulator.specs.declared.MemberCall.TheVariants as call
use Rattle.simulator.proofs.Acting.{calls_member, calls_told}
use Rattle.member.proofs.Leaving.{repeat_leaves, status_leaves}
use Rattle.simulator.proofs.call_member.Goals as goal

pub returns-in-Submit : goal.returns-in-Submit
unfolding outcome_of
returns-in-Submit c =
    let a = c.args in
    let rows = rows_of a.queued.now a.held.now a.queued_originators.now a.queued_lengths.now a.held_originators.now a.held_lengths.now a.queued_payloads.now a.held_payloads.now in
    rw c.in-Submit.is (calls_member a.i rows _ _ _ _ _ _ _ _ call.Submit a.bytes.now a.head c.submit_on.result a.out.now _ c.requires.0 c.requires.1 c.submit_on.ensures)

pub returns-in-Repeat : goal.returns-in-Repeat
unfolding outcome_of
returns-in-Repeat c =
    let a = c.args in
    let rows = rows_of a.queued.now a.held.now a.queued_originators.now a.queued_lengths.now a.held_originators.now a.held_lengths.now a.queued_payloads.now a.held_payloads.now in
    rw c.in-Repeat.is (calls_told call.Repeat a.i a.bytes.now a.head rows c.repeat_on-reply.result a.out.now _ (repeat_leaves _ a.out.now a.out.now c.repeat_on-reply.result).0 c.repeat_on-reply.ensures)

pub returns-in-Take : goal.returns-in-Take
unfolding outcome_of
returns-in-Take c =
    let a = c.args in
    let rows = rows_of a.queued.now a.held.now a.queued_originators.now a.queued_lengths.now a.held_originators.now a.held_lengths.now a.queued_payloads.now a.held_payloads.now in
    rw c.in-Take.is (calls_member a.i rows _ _ _ _ _ _ _ _ call.Take a.bytes.now a.head c.take_on.result a.out.now _ c.requires.0 c.requires.1 c.take_on.ensures)

pub returns-in-Status : goal.returns-in-Status
unfolding outcome_of
returns-in-Status c =
    let a = c.args in
    let rows = rows_of a.queued.now a.held.now a.queued_originators.now a.queued_lengths.now a.held_originators.now a.held_lengths.now a.queued_payloads.now a.held_payloads.now in
    rw c.in-Status.is (calls_told call.Status a.i a.bytes.now a.head rows c.status_on-reply.result a.out.now _ (status_leaves _ a.out.now a.out.now c.status_on-reply.result).0 c.status_on-reply.ensures)

pub returns-in-Receive : goal.returns-in-Receive
unfolding outcome_of
returns-in-Receive c =
    let a = c.args in
    let rows = rows_of a.queued.now a.held.now a.queued_originators.now a.queued_lengths.now a.held_originators.now a.held_lengths.now a.queued_payloads.now a.held_payloads.now in
    rw c.in-Receive.is (calls_member a.i rows _ _ _ _ _ _ _ _ call.Receive a.bytes.now a.head c.receive_on.result a.out.now _ c.requires.0 c.requires.1 c.receive_on.ensures)
