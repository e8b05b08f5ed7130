-- A letter by its number; any number behind those is the last letter.
use Rattle.group.specs.Choice.{when◌then◌else◌}
use Rattle.workload.specs.Choice.{chosen}
use Rattle.workload.specs.Steps.{event_in}
use Rattle.workload.proofs.Choosing.{chosen_last}
use borrow.Author.Rules.{rules}
use Rattle.workload.proofs.choose.Goals as goal

pub returns-in-0 : goal.returns-in-0
unfolding chosen event_in when◌then◌else◌
returns-in-0 c =
    let d = c.draw-member.ensures in
    let e = c.draw.ensures in
    rw (c.in-0.is, e.value, e.state, d.value, d.state)

pub returns-in-1 : goal.returns-in-1
unfolding chosen event_in when◌then◌else◌
returns-in-1 c = let d = c.draw-in-1.ensures in rw (c.in-1.is, d.value, d.state)

pub returns-in-2 : goal.returns-in-2
unfolding chosen event_in when◌then◌else◌
returns-in-2 c = let d = c.draw-in-2.ensures in rw (c.in-2.is, d.value, d.state)

pub returns-in-3 : goal.returns-in-3
unfolding chosen event_in when◌then◌else◌
returns-in-3 c = let d = c.draw-in-3.ensures in rw (c.in-3.is, d.value, d.state)

pub returns-in-5 : goal.returns-in-5
unfolding chosen event_in when◌then◌else◌
returns-in-5 c = let d = c.draw-in-5.ensures in rw (c.in-5.is, d.value, d.state)

pub returns-in-4 : goal.returns-in-4
unfolding chosen event_in when◌then◌else◌
returns-in-4 c = rw c.in-4.is

pub returns-in-6 : goal.returns-in-6
unfolding chosen event_in when◌then◌else◌
returns-in-6 c =
    let d = c.draw-packet.ensures in
    let e = c.draw-in-6.ensures in
    rw (c.in-6.is, e.value, e.state, d.value, d.state)

pub returns-in_default : goal.returns-in_default
unfolding event_in
returns-in_default c =
    let d = c.draw-in_default.ensures in
    let a = c.args in
    rw (d.value, d.state) (chosen_last a.letter a.n a.generator.now.state (search rules))
