-- Question 1, then the letter, its fields and the line.
use Rattle.std.proofs.Common.{◌≡◌, refl}
use Rattle.group.specs.declared.Refusal.TheVariants.{UnsoundState}
use Rattle.workload.specs.Calls.{refused, next_of}
use Rattle.workload.specs.Choice.{event_from}
use Rattle.workload.proofs.Choosing.{next_none, next_many, next_line, next_step, done, none_within}
use borrow.Author.Rules.{rules}
use Rattle.workload.proofs.Load.next.Goals.{then-self-lt1-via-then-self-lt1, then-self-lt1-via-else-self-lt1+then-self-gt-MEMBERS}
use Rattle.workload.proofs.Load.next.Goals as goal

pub returns-then-self-lt1 : goal.returns-then-self-lt1
returns-then-self-lt1 c =
    let load = c.args.self in
    let no : next_of load ≡ refused load UnsoundState =
    elim c.then-self-lt1.branch [
      | then-self-lt1-via-then-self-lt1 w ↦ next_none load w.if-self-lt1.true
      | then-self-lt1-via-else-self-lt1+then-self-gt-MEMBERS w ↦ next_many load w.if-self-gt-MEMBERS.true
    ] in
    let both = done no _ _ c.refused.ensures refl (none_within c.refused.ensures) in
    record { answer = both.0; lent = both.1.0; wording = both.1.1.0; within = both.1.1.1 }

pub returns : goal.returns
unfolding event_from
returns c =
    let load = c.args.self in
    let d = c.draw-letter.ensures in
    let e = rw (d.value, d.state) at c.choose-event.ensures in
    let s = next_step load _ _ _ _ e c.put_event-written.ensures in
    let both = done (next_line load c.if-self-lt1.false c.if-self-gt-MEMBERS.false) _ _ s.0 s.1 (search rules) in
    record { answer = both.0; lent = both.1.0; wording = both.1.1.0; within = both.1.1.1 }
