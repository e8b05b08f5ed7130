-- Each event as the definition has it.
use Rattle.workload.specs.Line.{event_fields}
use Rattle.workload.specs.Steps.{event_in}
use Rattle.workload.proofs.put_event.Goals as goal

pub returns-in-Submit : goal.returns-in-Submit
unfolding event_in event_fields
returns-in-Submit c = rw c.in-Submit.is c.put_submit.ensures

pub returns-in-Repeat : goal.returns-in-Repeat
unfolding event_in event_fields
returns-in-Repeat c = rw c.in-Repeat.is c.put_one.ensures

pub returns-in-Take : goal.returns-in-Take
unfolding event_in event_fields
returns-in-Take c = rw c.in-Take.is c.put_one-in-Take.ensures

pub returns-in-Status : goal.returns-in-Status
unfolding event_in event_fields
returns-in-Status c = rw c.in-Status.is c.put_one-in-Status.ensures

pub returns-in-Poll : goal.returns-in-Poll
unfolding event_in event_fields
returns-in-Poll c = rw c.in-Poll.is c.put_poll.ensures

pub returns-in-Copy : goal.returns-in-Copy
unfolding event_in event_fields
returns-in-Copy c = rw c.in-Copy.is c.put_one-in-Copy.ensures

pub returns-in-HandMember : goal.returns-in-HandMember
unfolding event_in event_fields
returns-in-HandMember c = rw c.in-HandMember.is c.put_two.ensures

pub returns-in-HandSequencer : goal.returns-in-HandSequencer
unfolding event_in event_fields
returns-in-HandSequencer c = rw c.in-HandSequencer.is c.put_one-in-HandSequencer.ensures
