-- Questions 1 and 2, then those of reading at this end; the part behind the header is handed on.
use mathlib.Core.Path.{sym, ◌∙◌}
use native.Mathlib.Omega.{arith}
use lib.ListN.{length}
use Rattle.big_endian.specs.Laws.{Bytes}
use Rattle.store.specs.Places.{messages_in}
use Rattle.packet.proofs.Verdicts.{readable, payload_part, read_named}
use Rattle.member.specs.Calls.{receive_of}
use Rattle.member.specs.Steps.{member_of}
use Rattle.member.specs.View.{view_of}
use Rattle.member.proofs.Outcomes.{changed, replied_as, quiet_done, judged_yes, judged_no, asked, read_obeys, read_ours_lem, ours, others}
use borrow.Author.Rules.{rules}
use Rattle.member_calls.proofs.receive_on.Goals as goal

pub payload_length-end-requires : goal.payload_length-end-requires
payload_length-end-requires c = (readable _ _ (read_ours_lem _ _ _ (sym c.read_ours.ensures ∙ c.in-Ok.is)).0).long

pub overflow_add-end : goal.overflow_add-end
overflow_add-end c = let e = payload_part _ _ (read_ours_lem _ _ _ (sym c.read_ours.ensures ∙ c.in-Ok.is)).0 in rw (c.payload_length-end.ensures, e.0) (let g = c.well_formed.1.1.1.1.1.1.1.1.1.0 in record { fits = omega (arith, g) })

pub of-requires : goal.of-requires
unfolding Bytes
of-requires c = read_named _ (λ i _. let z = c.shared_slice_known-1.given i in omega (arith, z)) _ (read_ours_lem _ _ _ (sym c.read_ours.ensures ∙ c.in-Ok.is)).0

pub slice_bounds-content-end : goal.slice_bounds-content-end
slice_bounds-content-end c = let e = payload_part _ _ (read_ours_lem _ _ _ (sym c.read_ours.ensures ∙ c.in-Ok.is)).0 in rw (c.payload_length-end.ensures, e.0) (search rules)

pub content-requires : goal.content-requires
unfolding view_of
content-requires c =
    let w = read_ours_lem _ _ _ (sym c.read_ours.ensures ∙ c.in-Ok.is) in
    let e = w.0 in
    let s = asked _ _ (sym c.ask.ensures ∙ c.in_default.is) in
    (rw (c.payload_length-end.ensures, (payload_part _ _ e).1) (read_obeys _ _ _ _ e w.2 c.of.ensures), rw (c.payload_length-end.ensures, (payload_part _ _ e).1) (readable _ _ e).payload, s.1)

pub returns-in-Ok : goal.returns-in-Ok
unfolding view_of receive_of
returns-in-Ok c =
    let a = c.args in
    let queue = messages_in a.queued.now a.queued_originators.now a.queued_lengths.now a.queued_payloads.now in
    let held = messages_in a.held.now a.held_originators.now a.held_lengths.now a.held_payloads.now in
    let m = member_of a.head queue held in
    let w = sym c.read_ours.ensures ∙ c.in-Ok.is in
    let e = (read_ours_lem _ _ _ w).0 in
    let s = judged_yes _ _ _ (sym c.ask.ensures ∙ c.in_default.is) in
    let o = ours m _ _ _ w in
    changed (replied_as {p = receive_of m a.packet.now (length a.out.now)} (rw (c.payload_length-end.ensures, (payload_part _ _ e).1, c.of.ensures) (o ∙ s)) (c.content.ensures queue))

pub returns-in-Err-read_ours : goal.returns-in-Err-read_ours
unfolding view_of receive_of
returns-in-Err-read_ours c =
    let a = c.args in
    let queue = messages_in a.queued.now a.queued_originators.now a.queued_lengths.now a.queued_payloads.now in
    let held = messages_in a.held.now a.held_originators.now a.held_lengths.now a.held_payloads.now in
    let m = member_of a.head queue held in
    let s = judged_yes _ _ _ (sym c.ask.ensures ∙ c.in_default.is) in
    let o = others m _ _ _ (sym c.read_ours.ensures ∙ c.in-Err-read_ours.is) in
    changed (replied_as (o ∙ s) (quiet_done a.head _ _ _ _ a.out.now c.declined-in-Err-read_ours.ensures))

pub returns-in-Err : goal.returns-in-Err
unfolding view_of receive_of
returns-in-Err c = changed (replied_as (judged_no _ _ _ _ (sym c.ask.ensures ∙ c.in-Err.is)) (quiet_done c.args.head _ _ _ _ c.args.out.now c.declined.ensures))
