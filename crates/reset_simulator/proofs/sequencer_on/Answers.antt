-- Each call is the sequencer's of its kind.
use lib.ListN.{length}
use Rattle.recovery.specs.Calls.{order_of, poll_of, copy_of}
use Rattle.recovery.specs.State.{Terminal}
use Rattle.recovery.specs.View.{whole}
use Rattle.terminal_rows.specs.Steps.{of_sequencer}
use Rattle.reset_simulator.specs.Steps.{came_of}
use Rattle.reset_simulator.proofs.Calling.{ordered_on}
use Rattle.reset_simulator.proofs.sequencer_on.Goals as goal

pub shape_of-out-in-Order : goal.shape_of-out-in-Order
shape_of-out-in-Order c = c.out-1.given

pub returns-in-Order : goal.returns-in-Order
unfolding of_sequencer came_of
returns-in-Order c =
    let a = c.args in
    λ queued held queued_originators queued_lengths held_originators held_lengths queued_payloads held_payloads past past_originators past_lengths past_payloads highest replies. rw c.in-Order.is (ordered_on (whole a.head queued held queued_originators queued_lengths held_originators held_lengths queued_payloads held_payloads past past_originators past_lengths past_payloads highest replies a.taken.now a.counts.now a.repeats.now a.kept.now a.marks.now a.originators.now a.lengths.now a.payloads.now) c.requires (λ (t : Terminal). order_of t a.bytes.now (length a.out.now)) c.order_on-done.result.head c.order_on-done.result.reply _ a.out.now _ (c.order_on-done.ensures queued held queued_originators queued_lengths held_originators held_lengths queued_payloads held_payloads past past_originators past_lengths past_payloads highest replies))

pub shape_of-out-in-Poll : goal.shape_of-out-in-Poll
shape_of-out-in-Poll c = c.out-in-Poll-1.given

pub returns-in-Poll : goal.returns-in-Poll
unfolding of_sequencer came_of
returns-in-Poll c =
    let a = c.args in
    λ queued held queued_originators queued_lengths held_originators held_lengths queued_payloads held_payloads past past_originators past_lengths past_payloads highest replies. rw c.in-Poll.is (ordered_on (whole a.head queued held queued_originators queued_lengths held_originators held_lengths queued_payloads held_payloads past past_originators past_lengths past_payloads highest replies a.taken.now a.counts.now a.repeats.now a.kept.now a.marks.now a.originators.now a.lengths.now a.payloads.now) c.requires (λ (t : Terminal). poll_of t (length a.out.now)) a.head c.poll_on-told.result _ a.out.now _ (c.poll_on-told.ensures queued held queued_originators queued_lengths held_originators held_lengths queued_payloads held_payloads past past_originators past_lengths past_payloads highest replies))

pub shape_of-out-in-Copy : goal.shape_of-out-in-Copy
shape_of-out-in-Copy c = c.out-in-Copy-1.given

pub returns-in-Copy : goal.returns-in-Copy
unfolding of_sequencer came_of
returns-in-Copy c =
    let a = c.args in
    λ queued held queued_originators queued_lengths held_originators held_lengths queued_payloads held_payloads past past_originators past_lengths past_payloads highest replies. rw c.in-Copy.is (ordered_on (whole a.head queued held queued_originators queued_lengths held_originators held_lengths queued_payloads held_payloads past past_originators past_lengths past_payloads highest replies a.taken.now a.counts.now a.repeats.now a.kept.now a.marks.now a.originators.now a.lengths.now a.payloads.now) c.requires (λ (t : Terminal). copy_of t _ (length a.out.now)) a.head c.copy_on-told.result _ a.out.now _ (c.copy_on-told.ensures queued held queued_originators queued_lengths held_originators held_lengths queued_payloads held_payloads past past_originators past_lengths past_payloads highest replies))
