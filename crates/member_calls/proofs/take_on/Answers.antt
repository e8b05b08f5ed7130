-- Questions 1 and 2; then the following number, if it is held and accepted.
use mathlib.Core.Path.{refl, sym, ◌∙◌}
use Prim.Native.Nat.{◌+◌}
use native.Mathlib.Omega.{arith}
use Rattle.group.proofs.Choice.{when_true, when_false}
use Rattle.store.specs.Places.{messages_in}
use Rattle.window.specs.Places.{place_of}
use Rattle.window.proofs.Places.{counted_in_lem}
use Rattle.member.specs.Calls.{take_of}
use Rattle.member.specs.Steps.{member_of}
use Rattle.member.specs.View.{view_of}
use Rattle.member.proofs.Outcomes.{changed, replied_as, quiet, quiet_done, judged_yes, judged_no, asked, next_short, ready_is, ready_held}
use Rattle.member.proofs.Soundness.{sound_of_lem}
use Rattle.member.proofs.View.{length_in}
use Rattle.member_calls.proofs.take_on.Goals as goal

pub hand_out-requires : goal.hand_out-requires
unfolding view_of
hand_out-requires c =
    let a = c.args in
    let held = messages_in a.held.now a.held_originators.now a.held_lengths.now a.held_payloads.now in
    let m = member_of a.head (messages_in a.queued.now a.queued_originators.now a.queued_lengths.now a.queued_payloads.now) held in
    let s = asked m _ (sym c.ask.ensures ∙ c.in_default.is) in
    let r = ready_is m a.held.now (counted_in_lem a.held.now a.held_originators.now a.held_lengths.now a.held_payloads.now) _ a.head.taken.0 (a.head.taken.0 + 1) _ c.place-following.ensures refl c.ready.ensures in
    let h = ready_held m _ (sym r ∙ c.if-ready.true) in
    let n = next_short m s.0 h in
    (rw (length_in a.held.now a.held_originators.now a.held_lengths.now a.held_payloads.now (place_of (a.head.taken.0 + 1)) h) n.0, omega arith, (sound_of_lem m s.0).waiting.enough, s.1)

pub returns-then-ready : goal.returns-then-ready
unfolding view_of take_of
returns-then-ready c =
    let a = c.args in
    let held = messages_in a.held.now a.held_originators.now a.held_lengths.now a.held_payloads.now in
    let m = member_of a.head (messages_in a.queued.now a.queued_originators.now a.queued_lengths.now a.queued_payloads.now) held in
    let r = ready_is m a.held.now (counted_in_lem a.held.now a.held_originators.now a.held_lengths.now a.held_payloads.now) _ a.head.taken.0 (a.head.taken.0 + 1) _ c.place-following.ensures refl c.ready.ensures in
    changed (replied_as (when_true _ _ _ _ (sym r ∙ c.if-ready.true) refl ∙ judged_yes _ _ _ (sym c.ask.ensures ∙ c.in_default.is)) c.hand_out.ensures)

pub returns : goal.returns
unfolding view_of take_of
returns c =
    let a = c.args in
    let held = messages_in a.held.now a.held_originators.now a.held_lengths.now a.held_payloads.now in
    let m = member_of a.head (messages_in a.queued.now a.queued_originators.now a.queued_lengths.now a.queued_payloads.now) held in
    let r = ready_is m a.held.now (counted_in_lem a.held.now a.held_originators.now a.held_lengths.now a.held_payloads.now) _ a.head.taken.0 (a.head.taken.0 + 1) _ c.place-following.ensures refl c.ready.ensures in
    changed (replied_as (when_false _ _ _ _ (sym r ∙ c.if-ready.false) refl ∙ judged_yes _ _ _ (sym c.ask.ensures ∙ c.in_default.is)) (quiet _ _ _ a.out.now refl))

pub returns-in-Err : goal.returns-in-Err
unfolding view_of take_of
returns-in-Err c = changed (replied_as (judged_no _ _ _ _ (sym c.ask.ensures ∙ c.in-Err.is)) (quiet_done c.args.head _ _ _ _ c.args.out.now c.declined.ensures))
