-- The message lies in the place of its count; its request is written where none waits before it.
use Prim.Native.Nat.{◌+◌, ◌<◌}
use lib.ListN.{length}
use Rattle.store.specs.Places.{messages_in}
use Rattle.store.proofs.Places.{length_messages}
use Rattle.window.specs.Places.{queue_place}
use Rattle.member.proofs.Submitting.{submits_first, submits_behind}
use borrow.Author.Rules.{rules}
use Rattle.member.proofs.submitted.Goals as goal

pub returns-then-head-eq0 : goal.returns-then-head-eq0
returns-then-head-eq0 c =
    λ held n v w. let a = c.args in
    let inside : queue_place (a.head.submitted + 1) < length (messages_in a.queued.now a.queued_originators.now a.queued_lengths.now a.queued_payloads.now) = rw (length_messages a.queued.now a.queued_originators.now a.queued_lengths.now a.queued_payloads.now, ← c.queue_place-place.ensures) (search rules) in
    submits_first a.head _ held _ a.payload.now (rw c.queue_place-place.ensures at c.keep.ensures) v w c.if-head-eq0.true a.held.now n (search rules) inside c.put_request-written.ensures

pub returns : goal.returns
returns c =
    λ held n v w. let a = c.args in
    submits_behind a.head _ held _ a.payload.now (rw c.queue_place-place.ensures at c.keep.ensures) v w c.if-head-eq0.false
