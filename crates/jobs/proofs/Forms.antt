-- A payload that is for the list is an add, with a first byte and within the limit, or a fetch, and not both. Assumes nothing.
use mathlib.Core.Path.{◌≡◌, refl, sym, ◌∙◌}
use mathlib.Core.Bool.{Bool, true, false}
use mathlib.Core.List.{List}
use Prim.Native.Nat.{ℕ, ◌-◌, ◌≤◌, ◌<◌}
use native.Mathlib.Omega.{arith}
use borrow.Author.Tests.{ltb-true, leb-true, eqb-true, ne_eqb}
use lib.ListN.{length, take, drop, get_or}
use Rattle.std.proofs.lemmas.List.{take_rest}
use Rattle.group.specs.Choice.{when◌then◌else◌, ◌<?◌, ◌≤?◌, ◌=?◌}
use Rattle.group.specs.Limits.{members_most, payload_most, job_most}
use Rattle.group.specs.declared.MemberNumber.{MemberNumber}
use Rattle.group.proofs.Choice.{both_first, both_then, then_fails}
use Rattle.jobs.specs.Feed.{is_add, is_fetch, for_list}

either : (t u : Bool) → (when t then true else u) ≡ true → u ≡ false → t ≡ true
unfolding when◌then◌else◌
either true u e n = refl
either false u e n = sym n ∙ e

pub for_list_adds : (m : MemberNumber) (payload : List ℕ) → for_list m payload ≡ true → is_fetch payload ≡ false
    → (is_add payload ≡ true) × (1 ≤ length payload) × (length payload ≤ payload_most)
unfolding for_list is_add
for_list_adds m payload e n =
    let rest = both_then (m.0 <? members_most) _ e in
    let short = leb-true (length payload) payload_most (both_first (length payload ≤? payload_most) _ rest) in
    let adds = either _ (is_fetch payload) (both_then (length payload ≤? payload_most) _ rest) n in
    let long = leb-true 1 (length payload) (both_first (1 ≤? length payload) (get_or payload 0 0 =? 1) adds) in
    (adds, long, short)

-- and its member is one to 15
pub for_list_member : (m : MemberNumber) (payload : List ℕ) → for_list m payload ≡ true → m.0 < members_most
unfolding for_list
for_list_member m payload e = ltb-true m.0 members_most (both_first (m.0 <? members_most) _ e)

-- a fetch is no add: its byte is another
pub fetch_no_add : (payload : List ℕ) → is_fetch payload ≡ true → is_add payload ≡ false
unfolding is_fetch is_add
fetch_no_add payload e =
    let two = eqb-true (get_or payload 0 0) 2 (both_then (length payload =? 1) (get_or payload 0 0 =? 2) e) in
    then_fails (1 ≤? length payload) (get_or payload 0 0 =? 1) (ne_eqb (get_or payload 0 0) 1 (λ one. omega arith))

-- all that lies behind some bytes of a job
pub behind : (k : ℕ) (bytes : List ℕ) → length bytes ≡ job_most → take (job_most - k) (drop k bytes) ≡ drop k bytes
behind k bytes e = rw (← e) (take_rest bytes k)
