-- What is handed out is the message in the place of the following number; the places are as the definition leaves them.
use mathlib.Core.Path.{◌≡◌, ap}
use mathlib.Core.Bool.{true, false}
use Prim.Native.Nat.{◌+◌, ◌<◌}
use native.Mathlib.Omega.{arith}
use lib.ListN.{length, get_or}
use Rattle.group.specs.Limits.{held_most}
use Rattle.message.specs.Message.{payload_of}
use Rattle.store.specs.Places.{part_of, message_in, messages_in}
use Rattle.window.specs.Places.{place_of}
use Rattle.window.proofs.Places.{counted_in_lem, here_is}
use Rattle.member.specs.Calls.{took_of}
use Rattle.member.specs.Steps.{member_of}
use Rattle.member.proofs.Outcomes.{replied_as, own_is, ready_is, taken_own, taken_other, took}
use Rattle.member.proofs.hand_out.Goals as goal

pub returns-then-own : goal.returns-then-own
unfolding payload_of
returns-then-own c =
    let a = c.args in
    let queue = messages_in a.queued.now a.queued_originators.now a.queued_lengths.now a.queued_payloads.now in
    let held = messages_in a.held.now a.held_originators.now a.held_lengths.now a.held_payloads.now in
    let m = member_of a.head queue held in
    let q = c.place-at.ensures in
    let at = c.place-at.result in
    let here = message_in (get_or a.held.now at 0) (get_or a.held_originators.now at 0) (get_or a.held_lengths.now at 0) (part_of a.held_payloads.now at) in
    let long : length a.held.now ≡ held_most = c.told-held in
    let inside : at < length a.held.now = omega (arith, q, long) in
    let t = taken_own m here _ (rw q at c.clear.ensures) _ (rw c.queue_place-first.ensures at c.clear-then-own.ensures) (own_is m here _ true c.own.ensures c.if-own.true) in
    let more = ready_is m a.held.now (counted_in_lem a.held.now a.held_originators.now a.held_lengths.now a.held_payloads.now) _ (a.head.taken.0 + 1) (a.head.taken.0 + 2) _ c.place-next.ensures (omega arith) c.ready-more.ensures in
    replied_as (ap (took_of m) (here_is a.held.now a.held_originators.now a.held_lengths.now a.held_payloads.now at inside (place_of (a.head.taken.0 + 1)) q))
    (took m _ here _ _ _ _ t more c.put_payload-written.ensures)

pub returns-else-own : goal.returns-else-own
unfolding payload_of
returns-else-own c =
    let a = c.args in
    let queue = messages_in a.queued.now a.queued_originators.now a.queued_lengths.now a.queued_payloads.now in
    let held = messages_in a.held.now a.held_originators.now a.held_lengths.now a.held_payloads.now in
    let m = member_of a.head queue held in
    let q = c.place-at.ensures in
    let at = c.place-at.result in
    let here = message_in (get_or a.held.now at 0) (get_or a.held_originators.now at 0) (get_or a.held_lengths.now at 0) (part_of a.held_payloads.now at) in
    let long : length a.held.now ≡ held_most = c.told-held in
    let inside : at < length a.held.now = omega (arith, q, long) in
    let t = taken_other m here _ (rw q at c.clear.ensures) (own_is m here _ false c.own.ensures c.if-own.false) in
    let more = ready_is m a.held.now (counted_in_lem a.held.now a.held_originators.now a.held_lengths.now a.held_payloads.now) _ (a.head.taken.0 + 1) (a.head.taken.0 + 2) _ c.place-next.ensures (omega arith) c.ready-more.ensures in
    replied_as (ap (took_of m) (here_is a.held.now a.held_originators.now a.held_lengths.now a.held_payloads.now at inside (place_of (a.head.taken.0 + 1)) q))
    (took m _ here _ _ _ _ t more c.put_payload-written.ensures)
