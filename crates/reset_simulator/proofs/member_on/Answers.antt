-- Each call is the member's of its kind.
use lib.ListN.{length}
use Rattle.recovery.specs.Calls.{submit_of, repeat_of, take_of, status_of}
use Rattle.recovery.specs.State.{Terminal}
use Rattle.recovery.specs.View.{whole}
use Rattle.terminal_rows.specs.Steps.{of_member}
use Rattle.reset_simulator.specs.Steps.{came_of}
use Rattle.reset_simulator.proofs.Calling.{changed_on}
use Rattle.reset_simulator.proofs.member_on.Goals as goal

pub shape_of-out-in-Submit : goal.shape_of-out-in-Submit
shape_of-out-in-Submit c = c.out-1.given

pub returns-in-Submit : goal.returns-in-Submit
unfolding of_member came_of
returns-in-Submit c =
    let a = c.args in
    λ taken counts repeats kept marks originators lengths payloads. rw c.in-Submit.is (changed_on (whole a.head a.queued.now a.held.now a.queued_originators.now a.queued_lengths.now a.held_originators.now a.held_lengths.now a.queued_payloads.now a.held_payloads.now a.past.now a.past_originators.now a.past_lengths.now a.past_payloads.now a.highest.now a.replies.now taken counts repeats kept marks originators lengths payloads) c.requires (λ (t : Terminal). submit_of t a.bytes.now (length a.out.now)) c.submit_on-done.result.head c.submit_on-done.result.reply _ a.out.now _ (c.submit_on-done.ensures taken counts repeats kept marks originators lengths payloads))

pub shape_of-out-in-Repeat : goal.shape_of-out-in-Repeat
shape_of-out-in-Repeat c = c.out-in-Repeat-1.given

pub returns-in-Repeat : goal.returns-in-Repeat
unfolding of_member came_of
returns-in-Repeat c =
    let a = c.args in
    λ taken counts repeats kept marks originators lengths payloads. rw c.in-Repeat.is (changed_on (whole a.head a.queued.now a.held.now a.queued_originators.now a.queued_lengths.now a.held_originators.now a.held_lengths.now a.queued_payloads.now a.held_payloads.now a.past.now a.past_originators.now a.past_lengths.now a.past_payloads.now a.highest.now a.replies.now taken counts repeats kept marks originators lengths payloads) c.requires (λ (t : Terminal). repeat_of t (length a.out.now)) a.head c.repeat_on-told.result _ a.out.now _ (c.repeat_on-told.ensures taken counts repeats kept marks originators lengths payloads))

pub shape_of-out-in-Take : goal.shape_of-out-in-Take
shape_of-out-in-Take c = c.out-in-Take-1.given

pub returns-in-Take : goal.returns-in-Take
unfolding of_member came_of
returns-in-Take c =
    let a = c.args in
    λ taken counts repeats kept marks originators lengths payloads. rw c.in-Take.is (changed_on (whole a.head a.queued.now a.held.now a.queued_originators.now a.queued_lengths.now a.held_originators.now a.held_lengths.now a.queued_payloads.now a.held_payloads.now a.past.now a.past_originators.now a.past_lengths.now a.past_payloads.now a.highest.now a.replies.now taken counts repeats kept marks originators lengths payloads) c.requires (λ (t : Terminal). take_of t (length a.out.now)) c.take_on-done.result.head c.take_on-done.result.reply _ a.out.now _ (c.take_on-done.ensures taken counts repeats kept marks originators lengths payloads))

pub shape_of-out-in-Status : goal.shape_of-out-in-Status
shape_of-out-in-Status c = c.out-in-Status-1.given

pub returns-in-Status : goal.returns-in-Status
unfolding of_member came_of
returns-in-Status c =
    let a = c.args in
    λ taken counts repeats kept marks originators lengths payloads. rw c.in-Status.is (changed_on (whole a.head a.queued.now a.held.now a.queued_originators.now a.queued_lengths.now a.held_originators.now a.held_lengths.now a.queued_payloads.now a.held_payloads.now a.past.now a.past_originators.now a.past_lengths.now a.past_payloads.now a.highest.now a.replies.now taken counts repeats kept marks originators lengths payloads) c.requires (λ (t : Terminal). status_of t (length a.out.now)) a.head c.status_on-told.result _ a.out.now _ (c.status_on-told.ensures taken counts repeats kept marks originators lengths payloads))
