-- Each test is one of the definition's; the place of the number is the one that the code looks at.
use mathlib.Core.Path.{◌≡◌, refl}
use Prim.Native.Nat.{◌+◌, ◌≤◌, ◌<◌}
use native.Mathlib.Omega.{arith}
use Rattle.group.proofs.Choice.{choices}
use Rattle.store.specs.Places.{messages_in}
use Rattle.window.specs.Places.{place_of, message_at}
use Rattle.window.proofs.Places.{counted_in_lem}
use Rattle.member.specs.Calls.{message_step}
use Rattle.member.proofs.Outcomes.{replied_as, quiet}
use borrow.Author.Rules.{rules}
use Rattle.member.proofs.message_step.Goals as goal

pub returns-then-le : goal.returns-then-le
unfolding message_step
returns-then-le c =
    let h : c.args.number.0 ≤ c.args.head.taken.0 = search rules in
    λ queue. replied_as (search (choices, rules) depth 9) (quiet _ _ _ c.args.out.now refl)

pub returns-then-head-number : goal.returns-then-head-number
unfolding message_step
returns-then-head-number c =
    let h : c.args.head.taken.0 < c.args.number.0 = search rules in
    λ queue. replied_as (search (choices, rules) depth 9) (c.gap_up_to.ensures queue _ (counted_in_lem _ _ _ _))

pub returns-then-held-place-ne0 : goal.returns-then-held-place-ne0
unfolding message_step
returns-then-held-place-ne0 c =
    λ queue. let a = c.args in
    let held = messages_in a.held.now a.held_originators.now a.held_lengths.now a.held_payloads.now in
    let e : a.number.0 + 0 ≡ a.number.0 = omega arith in
    let after : a.head.taken.0 < a.number.0 = search rules in
    let z = rw (c.place.ensures, e, counted_in_lem a.held.now a.held_originators.now a.held_lengths.now a.held_payloads.now (place_of a.number.0)) at c.if-held-place-ne0.true in
    let h : 0 < (message_at held a.number.0).count = omega (arith, z) in
    replied_as (search (choices, rules) depth 9) (quiet _ _ _ a.out.now refl)

pub returns : goal.returns
unfolding message_step
returns c =
    λ queue. let a = c.args in
    let held = messages_in a.held.now a.held_originators.now a.held_lengths.now a.held_payloads.now in
    let e : a.number.0 + 0 ≡ a.number.0 = omega arith in
    let after : a.head.taken.0 < a.number.0 = search rules in
    let z = rw (c.place.ensures, e, counted_in_lem a.held.now a.held_originators.now a.held_lengths.now a.held_payloads.now (place_of a.number.0)) at c.if-held-place-ne0.false in
    let h : (message_at held a.number.0).count ≤ 0 = omega (arith, z) in
    replied_as (search (choices, rules) depth 9) (c.kept.ensures queue)
