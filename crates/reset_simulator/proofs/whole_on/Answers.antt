-- Each call is the terminal's of its kind.
use lib.ListN.{length}
use Rattle.recovery.specs.Calls.{receive_of, invite_of, make_of}
use Rattle.recovery.specs.State.{Terminal}
use Rattle.recovery.specs.View.{whole}
use Rattle.terminal_rows.specs.Steps.{of_whole}
use Rattle.reset_simulator.specs.Steps.{came_of}
use Rattle.reset_simulator.proofs.Calling.{changed_on, opened_call}
use Rattle.reset_simulator.proofs.whole_on.Goals as goal

pub shape_of-out-in-Receive : goal.shape_of-out-in-Receive
shape_of-out-in-Receive c = c.out-1.given

pub returns-in-Receive : goal.returns-in-Receive
unfolding of_whole came_of
returns-in-Receive c =
    let a = c.args in
    rw c.in-Receive.is (changed_on (whole a.head a.queued.now a.held.now a.queued_originators.now a.queued_lengths.now a.held_originators.now a.held_lengths.now a.queued_payloads.now a.held_payloads.now a.past.now a.past_originators.now a.past_lengths.now a.past_payloads.now a.highest.now a.replies.now a.taken.now a.counts.now a.repeats.now a.kept.now a.marks.now a.originators.now a.lengths.now a.payloads.now) c.requires (λ (t : Terminal). receive_of t a.bytes.now (length a.out.now)) c.receive_on-done.result.head c.receive_on-done.result.reply _ a.out.now _ c.receive_on-done.ensures)

pub shape_of-out-in-Invite : goal.shape_of-out-in-Invite
shape_of-out-in-Invite c = c.out-in-Invite-1.given

pub returns-in-Invite : goal.returns-in-Invite
unfolding of_whole came_of
returns-in-Invite c =
    let a = c.args in
    rw c.in-Invite.is (changed_on (whole a.head a.queued.now a.held.now a.queued_originators.now a.queued_lengths.now a.held_originators.now a.held_lengths.now a.queued_payloads.now a.held_payloads.now a.past.now a.past_originators.now a.past_lengths.now a.past_payloads.now a.highest.now a.replies.now a.taken.now a.counts.now a.repeats.now a.kept.now a.marks.now a.originators.now a.lengths.now a.payloads.now) c.requires (λ (t : Terminal). invite_of t _ (length a.out.now)) c.invite_on-done.result.head c.invite_on-done.result.reply _ a.out.now _ c.invite_on-done.ensures)

pub shape_of-out-in-Make : goal.shape_of-out-in-Make
shape_of-out-in-Make c = c.out-in-Make-1.given

pub returns-in-Make : goal.returns-in-Make
unfolding of_whole came_of
returns-in-Make c =
    let a = c.args in
    rw c.in-Make.is (changed_on (whole a.head a.queued.now a.held.now a.queued_originators.now a.queued_lengths.now a.held_originators.now a.held_lengths.now a.queued_payloads.now a.held_payloads.now a.past.now a.past_originators.now a.past_lengths.now a.past_payloads.now a.highest.now a.replies.now a.taken.now a.counts.now a.repeats.now a.kept.now a.marks.now a.originators.now a.lengths.now a.payloads.now) c.requires (λ (t : Terminal). make_of t _ (length a.out.now)) c.make_on-done.result.head c.make_on-done.result.reply _ a.out.now _ c.make_on-done.ensures)

pub returns-in-Open : goal.returns-in-Open
unfolding of_whole
returns-in-Open c =
    let a = c.args in
    rw c.in-Open.is (opened_call _ _ _ _ _ _ _ _ _ a.out.now c.open_on-next.ensures)
