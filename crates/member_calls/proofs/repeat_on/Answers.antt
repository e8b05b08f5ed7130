-- Questions 1, 2 and 15, then the request of the first message that waits.
use mathlib.Core.Path.{refl, sym, ◌∙◌}
use Prim.Native.Nat.{◌<◌, ◌≤◌}
use native.Mathlib.Omega.{arith}
use lib.ListN.{get_or}
use Rattle.group.proofs.Choice.{when_le, when_nle}
use Rattle.message.specs.Message.{blank}
use Rattle.store.specs.Places.{messages_in}
use Rattle.window.specs.Places.{queue_place}
use Rattle.window.proofs.Places.{counted_in_lem}
use Rattle.member.specs.Calls.{repeat_of, request_packet}
use Rattle.member.specs.State.{first_count}
use Rattle.member.specs.Steps.{member_of}
use Rattle.member.specs.View.{view_of}
use Rattle.member.specs.declared.Answer.{Answer}
use Rattle.member.proofs.Outcomes.{told, replied_as, quiet, sent, judged_yes, judged_no, asked, laid_as}
use Rattle.member.proofs.Soundness.{sound_of_lem}
use Rattle.member.proofs.View.{held_inside, length_in, payload_in, request_is}
use borrow.Author.Rules.{rules}
use Rattle.member_calls.proofs.repeat_on.Goals as goal

pub put_first-requires : goal.put_first-requires
unfolding view_of
put_first-requires c =
    let a = c.args in
    let queue = messages_in a.queued.now a.queued_originators.now a.queued_lengths.now a.queued_payloads.now in
    let held = messages_in a.held.now a.held_originators.now a.held_lengths.now a.held_payloads.now in
    let m = member_of a.head queue held in
    let s = asked m _ (sym c.ask.ensures ∙ c.in_default.is) in
    let w = (sound_of_lem m s.0).waiting in
    let some-wait : 1 ≤ a.head.waiting = let z = c.if-head-eq0.false in omega (arith, z) in
    let enough = w.enough in
    let q = w.waits (first_count m) (omega arith) (omega arith) in
    let some : 0 < (get_or queue (queue_place (first_count m)) blank).count = let z = q.count_is in omega arith in
    (some-wait, enough, search rules, rw (length_in a.queued.now a.queued_originators.now a.queued_lengths.now a.queued_payloads.now (queue_place (first_count m)) some) q.short, search rules, s.1)

pub returns : goal.returns
unfolding view_of repeat_of
returns c =
    let a = c.args in
    let queue = messages_in a.queued.now a.queued_originators.now a.queued_lengths.now a.queued_payloads.now in
    let held = messages_in a.held.now a.held_originators.now a.held_lengths.now a.held_payloads.now in
    let m = member_of a.head queue held in
    let v = sym c.ask.ensures ∙ c.in_default.is in
    let w = (sound_of_lem m (asked m _ v).0).waiting in
    let some-wait : 1 ≤ a.head.waiting = let z = c.if-head-eq0.false in omega (arith, z) in
    let enough = w.enough in
    let q = w.waits (first_count m) (omega arith) (omega arith) in
    let some : 0 < (get_or queue (queue_place (first_count m)) blank).count = let z = q.count_is in omega arith in
    let inside = held_inside a.queued.now a.queued_originators.now a.queued_lengths.now a.queued_payloads.now (queue_place (first_count m)) some in
    let request = request_is a.head a.held.now queue held (counted_in_lem a.held.now a.held_originators.now a.held_lengths.now a.held_payloads.now) (let g = c.well_formed.0 in omega (arith, g)) _ (payload_in a.queued.now a.queued_originators.now a.queued_lengths.now a.queued_payloads.now (queue_place (first_count m)) inside) in
    told (replied_as (when_le 1 _ _ _ _ some-wait refl ∙ judged_yes _ _ _ v) (sent m Answer.Sent (request_packet m) _ _ _ (laid_as request c.put_first.ensures)))

pub returns-then-head-eq0 : goal.returns-then-head-eq0
unfolding view_of repeat_of
returns-then-head-eq0 c =
    let none : c.args.head.waiting < 1 = let z = c.if-head-eq0.true in omega (arith, z) in
    told (replied_as (when_nle 1 _ _ _ _ none refl ∙ judged_yes _ _ _ (sym c.ask.ensures ∙ c.in_default.is)) (quiet _ _ _ c.args.out.now c.refused-then-head-eq0.ensures))

pub returns-in-Err : goal.returns-in-Err
unfolding view_of repeat_of
returns-in-Err c = told (replied_as (judged_no _ _ _ _ (sym c.ask.ensures ∙ c.in-Err.is)) (quiet _ _ _ c.args.out.now c.refused.ensures))
