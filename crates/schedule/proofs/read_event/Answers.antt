-- A line over the limit is of another form; of any other the number of its fields decides.
use mathlib.Core.Path.{◌∙◌}
use Prim.Native.Nat.{◌+◌}
use Rattle.schedule.specs.Line.{form_of, command_of, payload_of}
use Rattle.schedule.specs.Parts.{parts_at}
use Rattle.schedule.proofs.Forms.{event_by, more_event, alone_payload, number_payload, to_end}
use Rattle.schedule.specs.declared.Parts.TheVariants.{One, Two, Three, More}
use Rattle.schedule.proofs.read_event.Goals as goal

pub returns-in-One : goal.returns-in-One
unfolding parts_at form_of
returns-in-One c =
    let e = event_by c.args.line.now One c.if-line-gt-LINE_MOST.false c.in-One.ensures.parts in
    record { command = rw e c.read_alone.ensures; lent = rw (e, alone_payload) }

pub returns-in-Two : goal.returns-in-Two
unfolding parts_at form_of
returns-in-Two c =
    let l = c.args.line.now in
    let a = c.in-Two.a in
    let e = event_by l (Two a) c.if-line-gt-LINE_MOST.false c.in-Two.ensures.parts in
    record { command = rw (e, ← to_end l (a + 1)) c.read_number.ensures; lent = rw (e, number_payload) }

pub returns-in-Three : goal.returns-in-Three
unfolding parts_at form_of
returns-in-Three c =
    let l = c.args.line.now in
    let b = c.in-Three.b in
    let e = event_by l (Three c.in-Three.a b) c.if-line-gt-LINE_MOST.false c.in-Three.ensures.parts in
    record { command = rw (e, ← to_end l (b + 1)) c.read_two.ensures.command; lent = rw (e, ← to_end l (b + 1)) c.read_two.ensures.lent }

pub returns-in-More : goal.returns-in-More
unfolding command_of payload_of
returns-in-More c =
    let l = c.args.line.now in
    let m = c.in-More in
    let e = event_by l (More m.field-0 m.field-1 m.field-2) c.if-line-gt-LINE_MOST.false m.ensures.parts ∙ more_event l m.field-0 m.field-1 m.field-2 in
    record { command = rw e; lent = rw e }
