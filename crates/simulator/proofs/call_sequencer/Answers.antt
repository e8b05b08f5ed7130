-- Each call is that of its kind; one that only reads the state leaves it.
use lib.ListN.{length}
use Rattle.sequencer.proofs.Leaving.{poll_leaves, copy_leaves}
use Rattle.sequencer.specs.View as sequencerView
use Rattle.simulator.specs.Steps.{outcome_here}
use Rattle.simulator.specs.declared.SequencerCall.TheVariants as call
use Rattle.simulator.proofs.Acting.{sequencer_told_lem}
use Rattle.simulator.proofs.call_sequencer.Goals as goal

pub returns-in-Receive : goal.returns-in-Receive
unfolding outcome_here
returns-in-Receive c = rw c.in-Receive.is c.receive_on.ensures

pub returns-in-Poll : goal.returns-in-Poll
unfolding outcome_here
returns-in-Poll c =
    let a = c.args in
    let s = sequencerView.whole a.head a.taken.now a.counts.now a.repeats.now a.kept.now a.marks.now a.originators.now a.lengths.now a.payloads.now in
    rw c.in-Poll.is (sequencer_told_lem call.Poll a.bytes.now s c.poll_on-reply.result a.out.now _ (poll_leaves (sequencerView.view_of s) (length a.out.now)) c.poll_on-reply.ensures)

pub returns-in-Copy : goal.returns-in-Copy
unfolding outcome_here
returns-in-Copy c =
    let a = c.args in
    let s = sequencerView.whole a.head a.taken.now a.counts.now a.repeats.now a.kept.now a.marks.now a.originators.now a.lengths.now a.payloads.now in
    rw c.in-Copy.is (sequencer_told_lem (call.Copy _) a.bytes.now s c.copy_on-reply.result a.out.now _ (copy_leaves (sequencerView.view_of s) _ (length a.out.now)) c.copy_on-reply.ensures)
