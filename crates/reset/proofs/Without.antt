-- A survivor without the result goes on under the old number: what it submits and takes, it submits and takes in the group made last, as the result
-- will leave it there. Assumes nothing.
use Rattle.group.specs.Question.{all_yes}
use Rattle.std.specs.Prelude.{Ok, Err}
use mathlib.Core.Path.{◌≡◌, refl, sym, ap, ◌∙◌, subst}
use mathlib.Core.Logic.{◌≢◌}
use mathlib.Core.Bool.{Bool, true, false}
use mathlib.Core.List.{List, []}
use Prim.Native.Nat.{ℕ, ◌+◌, ◌-◌, ◌%◌, ◌≤◌, ◌<◌}
use native.Mathlib.Nat.{le_refl}
use native.Mathlib.Omega.{arith}
use borrow.Author.Tests.{le-leb}
use lib.ListN.{length, get_or, set, length-set}
use lib.Seq.{get_or-set_same, get_or-set_other, ext_get_or}
use Rattle.group.proofs.Choice.{both_hold, both_first}
use Rattle.group.proofs.Lists.{eq_or, le_or}
use Rattle.group.specs.Choice.{when◌then◌else◌, ◌<?◌, ◌=?◌}
use Rattle.group.specs.Limits.{held_most, longest_packet}
use Rattle.group.specs.Question.{judged}
use Rattle.group.specs.declared.Group.{Group}
use Rattle.group.specs.Question.{Verdict}
use Rattle.message.specs.Message.{Message, empty_message, blank}
use Rattle.member.specs.Calls as member
use Rattle.member.specs.Order.{took_by}
use Rattle.member.specs.Sound.{sound_of}
use Rattle.member.specs.State.{Member}
use Rattle.member.specs.declared.Answer.{Answer}
use Rattle.window.proofs.Row.{larger_le, le_larger}
use Rattle.window.specs.Places.{place_of, message_at, is_held, larger_of}
use Rattle.recovery.proofs.Result.{dropped_length}
use Rattle.recovery.specs.Begin.{dropped_of, member_in}
use Rattle.reset.proofs.Cutting.{dropped_same, dropped_gone}

larger_is : (a b : ℕ) → a ≤ b → larger_of a b ≡ b
larger_is a b h = let x = le_larger a b b h (le_refl b) in let y = (larger_le a b).1 in omega arith

module _ (m : Member) (group : Group) (cut : ℕ) (sound : sound_of m ≡ true) (sound' : sound_of (member_in m group cut) ≡ true) where
  abbrev m' : Member
  m' = member_in m group cut

  abbrev t : ℕ
  t = m.taken.0

  -- the same of both: what it leaves, and what is answered
  abbrev Same : member.Outcome → member.Outcome → Type 0
  Same o o' = (member_in o.member group cut ≡ o'.member) × (o'.answer ≡ o.answer)

  module _ (payload : List ℕ) where
    submits_same : (b : Bool)
        → Same (when b then record { member = member.with_waiting m payload; answer = Answer.Sent; bytes = member.request_packet (member.with_waiting m payload) } else member.answered (member.with_waiting m payload) (Answer.Queued (m.submitted + 1)))
        (when b then record { member = member.with_waiting m' payload; answer = Answer.Sent; bytes = member.request_packet (member.with_waiting m' payload) } else member.answered (member.with_waiting m' payload) (Answer.Queued (m'.submitted + 1)))
    unfolding when◌then◌else◌ member.with_waiting member.answered
    submits_same true = (refl, refl)
    submits_same false = (refl, refl)

    judged_same : (v : Verdict) (o o' : member.Outcome) → Same o o' → Same (judged v (member.refused m) o) (judged v (member.refused m') o')
    unfolding judged member.answered
    judged_same (Ok _) o o' h = h
    judged_same (Err r) o o' h = (refl, refl)

    pub submit_same : Same (member.submit_of m payload longest_packet) (member.submit_of m' payload longest_packet)
    unfolding member.submit_of member.call_verdict member.submit_verdict judged when◌then◌else◌
    submit_same = rw (sound, sound') (judged_same (member.submit_verdict m (length payload)) _ _ (submits_same (m.waiting =? 0)))

  -- its next message lies within the group's beginning
  module _ (long : length m.held ≡ held_most) (below : t + 1 ≤ cut) where
    abbrev next : Message
    next = message_at m.held (t + 1)

    next_same : message_at m'.held (t + 1) ≡ next
    next_same = dropped_same m.held cut t long held_most (t + 1) (le_refl held_most) (omega arith) (omega arith) below

    abbrev cleared : List Message
    cleared = set m.held (place_of (t + 1)) empty_message

    at_same : (s : ℕ) → t + 1 < s → s ≤ t + 1 + held_most → message_at (dropped_of cleared cut (t + 1) held_most) s ≡ get_or (set m'.held (place_of (t + 1)) empty_message) (place_of s) blank
    at_same s a b =
        let long' : length cleared ≡ held_most = length-set m.held (place_of (t + 1)) empty_message ∙ long in
        let size = dropped_length m.held cut t long held_most in
        eq_or s (t + 1 + held_most)
        (λ q.
        let p : place_of s ≡ place_of (t + 1) = omega arith in
        le_or s cut
        (λ l. dropped_same cleared cut (t + 1) long' held_most s (le_refl held_most) a b l ∙ ap (λ (j : ℕ). get_or cleared j blank) p ∙ get_or-set_same m.held (place_of (t + 1)) empty_message blank (omega arith))
        (λ l. dropped_gone cleared cut (t + 1) long' held_most s (le_refl held_most) a b l)
        ∙ sym (ap (λ (j : ℕ). get_or (set m'.held (place_of (t + 1)) empty_message) j blank) p ∙ get_or-set_same m'.held (place_of (t + 1)) empty_message blank (omega arith)))
        (λ q.
        let p : place_of s ≢ place_of (t + 1) = omega arith in
        le_or s cut
        (λ l. dropped_same cleared cut (t + 1) long' held_most s (le_refl held_most) a b l ∙ get_or-set_other m.held (place_of (t + 1)) (place_of s) empty_message blank p
        ∙ sym (dropped_same m.held cut t long held_most s (le_refl held_most) (omega arith) (omega arith) l))
        (λ l. dropped_gone cleared cut (t + 1) long' held_most s (le_refl held_most) a b l ∙ sym (dropped_gone m.held cut t long held_most s (le_refl held_most) (omega arith) (omega arith) l))
        ∙ sym (get_or-set_other m'.held (place_of (t + 1)) (place_of s) empty_message blank p))

    held_same : dropped_of cleared cut (t + 1) held_most ≡ set m'.held (place_of (t + 1)) empty_message
    held_same =
        let long' : length cleared ≡ held_most = length-set m.held (place_of (t + 1)) empty_message ∙ long in
        let size = dropped_length m.held cut t long held_most in
        let size' = dropped_length cleared cut (t + 1) long' held_most in
        let same : length (set m'.held (place_of (t + 1)) empty_message) ≡ held_most = length-set m'.held (place_of (t + 1)) empty_message ∙ size in
        ext_get_or blank _ _ (size' ∙ sym same)
        (λ j l.
        let s : ℕ = t + 2 + (j + held_most - (t + 2) % held_most) % held_most in
        let p : place_of s ≡ j = omega arith in
        subst (λ (k : ℕ). get_or (dropped_of cleared cut (t + 1) held_most) k blank ≡ get_or (set m'.held (place_of (t + 1)) empty_message) k blank) p (at_same s (omega arith) (omega arith)))

    taken_same : member_in (member.with_taken m next) group cut ≡ member.with_taken m' next
    unfolding member.with_taken member.is_own
    taken_same =
        let a : larger_of (t + 1) cut ≡ larger_of t cut = larger_is (t + 1) cut below ∙ sym (larger_is t cut (omega arith)) in
        let h = held_same in
        λ j. record {
          group = group;
          number = m.number;
          taken = record { 0 = t + 1 };
          accepted = record { 0 = a j };
          submitted = m.submitted;
          waiting = (member.with_taken m next).waiting;
          queue = (member.with_taken m next).queue;
          held = h j;
        }

    -- it is ready there too
    ready_same : member.is_ready m (t + 1) ≡ true → member.is_ready m' (t + 1) ≡ true
    unfolding member.is_ready
    ready_same r =
        both_hold (is_held m'.held (t + 1)) _ (ap (λ (x : Message). 0 <? x.count) next_same ∙ both_first (is_held m.held (t + 1)) _ r)
        (le-leb (t + 1) (larger_of t cut) (let z = larger_is t cut (omega arith) in omega arith))

    pub take_same : member.is_ready m (t + 1) ≡ true
        → (member_in (member.take_of m longest_packet).member group cut ≡ (member.take_of m' longest_packet).member)
        × (took_by (member.take_of m' longest_packet).answer (member.take_of m' longest_packet).bytes ≡ took_by (member.take_of m longest_packet).answer (member.take_of m longest_packet).bytes)
    unfolding member.take_of member.call_verdict member.took_of judged when◌then◌else◌ took_by
    take_same r = rw (sound, sound', r, ready_same r, next_same) (taken_same, refl)

  -- where none is ready a take leaves all
  pub take_none : member.is_ready m (t + 1) ≡ false → ((member.take_of m longest_packet).member ≡ m) × (took_by (member.take_of m longest_packet).answer (member.take_of m longest_packet).bytes ≡ [])
  unfolding member.take_of member.call_verdict member.answered judged when◌then◌else◌ took_by
  take_none r = rw (sound, r) (refl, refl)
