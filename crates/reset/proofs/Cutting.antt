-- What a terminal has of an order it has of the order's first part, once what it holds above is dropped: what a making, and then a result, does to
-- a survivor. Assumes nothing.
use mathlib.Core.Path.{◌≡◌, refl, sym, ap, ◌∙◌, subst}
use mathlib.Core.Bool.{Bool, true, false}
use mathlib.Core.Option.{some}
use mathlib.Core.List.{List, [], ◌∷◌, ◌++◌}
use Prim.Native.Nat.{ℕ, zero, suc, ◌+◌, ◌≤◌, ◌<◌}
use native.Mathlib.Nat.{le_refl, le_trans}
use native.Mathlib.Omega.{arith}
use borrow.Author.Tests.{leb-true, leb-false}
use lib.ListN.{length, take, drop, length-append, take-append-drop}
use lib.Seq.{get_or-set_same, get_or-set_other, take-take, take-append-le, take_all, length-take-le}
use Rattle.group.proofs.Lists.{when_elim, eq_or, le_or, at, at_take}
use Rattle.group.proofs.Members.{Standing}
use Rattle.group.specs.Choice.{when◌then◌else◌, ◌≤?◌, ◌=?◌}
use Rattle.group.specs.Limits.{held_most, largest_number}
use Rattle.group.specs.Members.{is_in}
use Rattle.group.specs.declared.Group.{Group}
use Rattle.message.proofs.Owning.{Owns, own_grows}
use Rattle.message.specs.Message.{Message, empty_message, blank, message_of}
use Rattle.message.specs.Order.{Ordered, Submission, own_of, counted_from}
use Rattle.member.proofs.Invariant.{Content}
use Rattle.member.proofs.Soundness as member
use Rattle.member.specs.State.{Member}
use Rattle.window.proofs.Keeping.{empty_none}
use Rattle.window.proofs.Row.{le_larger}
use Rattle.window.specs.Places.{place_of, message_at}
use Rattle.recovery.proofs.Result.{dropped_length, member_in_lem}
use Rattle.recovery.specs.Begin.{dropped_of, member_in}

when_append : (b : Bool) (m : Submission) (l r : List Submission) → (when b then m ∷ (l ++ r) else (l ++ r)) ≡ (when b then m ∷ l else l) ++ r
unfolding when◌then◌else◌
when_append true m l r = refl
when_append false m l r = refl

-- own messages of a first part
own_append : (i : ℕ) (l r : List Ordered) → own_of i (l ++ r) ≡ own_of i l ++ own_of i r
unfolding own_of
own_append i [] r = refl
own_append i (m ∷ l) r = rw (own_append i l r) (when_append (m.originator =? i) (record { count = m.count; payload = m.payload }) (own_of i l) (own_of i r))

counted_take : (k count : ℕ) (l : List (List ℕ)) → take k (counted_from count l) ≡ counted_from count (take k l)
unfolding counted_from
counted_take zero count l = refl
counted_take (suc k) count [] = refl
counted_take (suc k) count (x ∷ l) = ap (λ (r : List Submission). record { count = count; payload = x } ∷ r) (counted_take k (count + 1) l)

pub owns_cut : (i k : ℕ) (order : List Ordered) (submitted : List (List ℕ)) → Owns i order submitted → Owns i (take k order) submitted
owns_cut i k order submitted own =
    let first = own_of i (take k order) in
    let whole : own_of i order ≡ first ++ own_of i (drop k order) = ap (own_of i) (sym (take-append-drop k order)) ∙ own_append i (take k order) (drop k order) in
    let size : length first ≤ length (own_of i order) = subst (λ (l : List Submission). length first ≤ length l) (sym whole) (simp length-append (omega arith)) in
    let prefix : first ≡ take (length first) (own_of i order) = sym (ap (take (length first)) whole ∙ take-append-le (length first) first (own_of i (drop k order)) (le_refl _) ∙ take_all (length first) first (le_refl _)) in
    prefix ∙ ap (take (length first)) own ∙ counted_take (length first) 1 (take (length (own_of i order)) submitted) ∙ ap (counted_from 1) (take-take (length first) (length (own_of i order)) submitted size)

-- what is held up to a number stays, and what is above is gone
module _ (held : List Message) (number t : ℕ) (long : length held ≡ held_most) where
  pub dropped_same : (k s : ℕ) → k ≤ held_most → t < s → s ≤ t + held_most → s ≤ number → message_at (dropped_of held number t k) s ≡ message_at held s
  unfolding dropped_of
  dropped_same zero s most a b c = refl
  dropped_same (suc k) s most a b c =
      let rest = dropped_same k s (omega arith) a b c in
      when_elim (λ (l : List Message). message_at l s ≡ message_at held s) (t + suc k ≤? number) (λ _. rest)
      (λ h.
      let above = leb-false (t + suc k) number h in
      get_or-set_other (dropped_of held number t k) (place_of (t + suc k)) (place_of s) empty_message blank (omega arith) ∙ rest)

  pub dropped_gone : (k s : ℕ) → k ≤ held_most → t < s → s ≤ t + k → number < s → message_at (dropped_of held number t k) s ≡ empty_message
  unfolding dropped_of
  dropped_gone zero s most a b c = absurd (omega arith)
  dropped_gone (suc k) s most a b c =
      let l = dropped_length held number t long k in
      when_elim (λ (x : List Message). message_at x s ≡ empty_message) (t + suc k ≤? number)
      (λ h. let below = leb-true (t + suc k) number h in dropped_gone k s (omega arith) a (omega arith) c)
      (λ h. eq_or s (t + suc k) (λ q. rw q (get_or-set_same (dropped_of held number t k) (place_of (t + suc k)) empty_message blank (omega arith)))
      (λ q. get_or-set_other (dropped_of held number t k) (place_of (t + suc k)) (place_of s) empty_message blank (omega arith) ∙ dropped_gone k s (omega arith) a (omega arith) c))

-- a survivor of a made group
module _ (i : ℕ) (m : Member) (order took : List Ordered) (submitted : List (List ℕ)) (h : Content i m order took submitted) (group : Group) (stands : Standing group) (same : group.n ≡ m.group.n)
    (fits : group.number ≤ largest_number) (inside : is_in group.survivors m.number.0 ≡ true) (number : ℕ) (most : number ≤ largest_number)
    (low : m.taken.0 ≤ number) (high : number ≤ length order) where
  pub content_cut : Content i (member_in m group number) (take number order) took submitted
  content_cut =
      let typed = h.typed in
      let size = length-take-le number order high in
      record {
        typed =
            record {
              group = fits;
              taken = typed.taken;
              accepted = le_larger m.taken.0 number largest_number typed.taken most;
              submitted = typed.submitted;
              queue = typed.queue;
              held = dropped_length m.held number m.taken.0 typed.held held_most;
            };
        sound = member.of_sound (member_in m group number) (member_in_lem m typed (member.sound_of_lem m h.sound) group stands same inside number);
        taken_le = omega arith;
        took_is = h.took_is ∙ sym (take-take m.taken.0 number order low);
        held_is = λ k a b c. held' k a b c;
        submitted_is = h.submitted_is;
        count_le = le_trans (subst (λ (l : List Ordered). length (own_of i (take number order)) ≤ length (own_of i l)) (take-append-drop number order) (own_grows i (take number order) (drop number order))) h.count_le;
        own_taken = h.own_taken;
        waiting_is = h.waiting_is;
        own_is = owns_cut i number order submitted h.own_is;
        payload_ok = h.payload_ok;
      }
    where
      held' : (k : ℕ) → m.taken.0 < k → k ≤ m.taken.0 + held_most → 1 ≤ (message_at (dropped_of m.held number m.taken.0 held_most) k).count
          → (x : Ordered) × (at (take number order) k ≡ some x) × (message_at (dropped_of m.held number m.taken.0 held_most) k ≡ message_of (record { 0 = x.originator }) x.count x.payload)
      held' k a b c =
          le_or k number
          (λ below.
          let e = dropped_same m.held number m.taken.0 h.typed.held held_most k (le_refl held_most) a b below in
          let x = h.held_is k a b (subst (λ (z : Message). 1 ≤ z.count) e c) in
          (x.0, at_take number order k below x.1, e ∙ x.2))
          (λ above. absurd (empty_none (subst (λ (z : Message). 1 ≤ z.count) (dropped_gone m.held number m.taken.0 h.typed.held held_most k (le_refl held_most) a b above) c)))
