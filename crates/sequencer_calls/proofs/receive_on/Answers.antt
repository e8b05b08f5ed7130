-- What is decided, and then what is done.
use lib.ListN.{length}
use Rattle.sequencer.specs.View.{whole, view_of}
use Rattle.sequencer.specs.declared.Decision.TheVariants.{Mark, Note}
use Rattle.sequencer.proofs.Confirmed.{confirm_changed}
use Rattle.sequencer.proofs.Deciding.{judged_as, judged_ok, payload_lent}
use Rattle.sequencer.proofs.Outcomes.{changed_as, refusal_changed}
use Rattle.sequencer_calls.proofs.receive_on.Goals as goal

pub confirm-requires : goal.confirm-requires
confirm-requires c =
    let a = c.args in
    let s = whole a.head a.taken.now a.counts.now a.repeats.now a.kept.now a.marks.now a.originators.now a.lengths.now a.payloads.now in
    let j = judged_ok (view_of s) a.packet.now (length a.out.now) _ _ (Mark c.in-Ok-Mark.member c.in-Ok-Mark.number) c.in-Ok-Mark.is c.in-Ok-Mark.field-0-is c.judge.ensures.judged in
    (j.0, c.judge.ensures.sizes.marks_size, j.1)

pub noted-requires : goal.noted-requires
noted-requires c =
    let a = c.args in
    let s = whole a.head a.taken.now a.counts.now a.repeats.now a.kept.now a.marks.now a.originators.now a.lengths.now a.payloads.now in
    let j = judged_ok (view_of s) a.packet.now (length a.out.now) _ _ (Note c.in-Ok-Note.content) c.in-Ok-Note.is c.in-Ok-Note.field-0-is c.judge.ensures.judged in
    (j.0, rw (payload_lent a.packet.now) j.1, c.judge.ensures.sizes)

pub returns-in-Err : goal.returns-in-Err
returns-in-Err c =
    let a = c.args in
    let s = whole a.head a.taken.now a.counts.now a.repeats.now a.kept.now a.marks.now a.originators.now a.lengths.now a.payloads.now in
    let j = judged_as (view_of s) a.packet.now (length a.out.now) _ _ c.in-Err.is c.judge.ensures.judged in
    rw c.unchanged.ensures.head (changed_as j (refusal_changed _ _ a.out.now c.unchanged.ensures.reply s))

pub returns-in-Ok-Mark : goal.returns-in-Ok-Mark
returns-in-Ok-Mark c =
    let a = c.args in
    let s = whole a.head a.taken.now a.counts.now a.repeats.now a.kept.now a.marks.now a.originators.now a.lengths.now a.payloads.now in
    let j = judged_ok (view_of s) a.packet.now (length a.out.now) _ _ (Mark c.in-Ok-Mark.member c.in-Ok-Mark.number) c.in-Ok-Mark.is c.in-Ok-Mark.field-0-is c.judge.ensures.judged in
    changed_as j.2 (confirm_changed a.head _ a.taken.now a.counts.now a.repeats.now a.kept.now a.marks.now _ a.originators.now a.lengths.now a.payloads.now _ _ c.confirm.ensures)

pub returns-in-Ok-Note : goal.returns-in-Ok-Note
returns-in-Ok-Note c =
    let a = c.args in
    let s = whole a.head a.taken.now a.counts.now a.repeats.now a.kept.now a.marks.now a.originators.now a.lengths.now a.payloads.now in
    let j = judged_ok (view_of s) a.packet.now (length a.out.now) _ _ (Note c.in-Ok-Note.content) c.in-Ok-Note.is c.in-Ok-Note.field-0-is c.judge.ensures.judged in
    changed_as (rw (payload_lent a.packet.now) j.3) c.noted.ensures
