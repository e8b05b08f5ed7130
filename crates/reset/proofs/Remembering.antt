-- What a member keeps of the order to begin a group with, and that it stays so: with a take, a floor that is read, a longer order, and an order that
-- a making cut. Assumes nothing.
use mathlib.Core.Path.{◌≡◌, refl, sym, ap, ◌∙◌, subst}
use mathlib.Core.Option.{some}
use mathlib.Core.List.{List, [], ◌∷◌, ◌++◌}
use Prim.Native.Nat.{ℕ, suc, ◌+◌, ◌-◌, ◌≤◌, ◌<◌}
use native.Mathlib.Omega.{arith}
use borrow.Author.Tests.{lt-ltb}
use lib.ListN.{length, get_or, set, take, replicate, get_or-replicate, get_or-eq_default}
use lib.Seq.{get_or-set_same, get_or-set_other, take-take, take-append-le}
use Rattle.group.proofs.Choice.{when_true}
use Rattle.group.proofs.Lists.{eq_or, le_or, at, at_append, at_take, take_at_suc}
use Rattle.group.specs.Choice.{◌<?◌}
use Rattle.group.specs.Limits.{members_most, places_most}
use Rattle.history.specs.State as history
use Rattle.message.proofs.Owning.{Owns, own_more, own_other, own_count}
use Rattle.message.specs.Message.{Message, blank, message_of}
use Rattle.message.specs.Order.{Ordered, own_of}
use Rattle.member.specs.declared.Answer.{Answer}
use Rattle.window.specs.Places.{larger_of}
use Rattle.recovery.proofs.Kept.{read_past, read_counts}
use Rattle.recovery.specs.Calls.{kept_took, kept_read}
use Rattle.recovery.specs.State.{Kept, fresh_kept, counted}

-- the message of an order's entry
abbrev pub message_is : Message → Ordered → Type 0
message_is m x = m ≡ message_of (record { 0 = x.originator }) x.count x.payload

-- what is kept of the order: its last 32 messages taken, and how many are each originator's
pub record Remembers (taken : ℕ) (kept : Kept) (order : List Ordered) : Type 0 where
  pub past_is : (s : ℕ) → taken - places_most < s → s ≤ taken → (x : Ordered) × (at order s ≡ some x) × message_is (history.message_at kept.past s) x
  pub counts_are : (o : ℕ) → get_or kept.counts o 0 ≡ length (own_of o (take taken order))

larger_next : (a b : ℕ) → b ≡ a + 1 → larger_of a b ≡ b
unfolding larger_of
larger_next a b e = sym (when_true (a <? b) b b a (lt-ltb a b (omega arith)) refl)

-- counts of the first k of an order, and of one more
pub counted_next : (counts : List ℕ) (order : List Ordered) (k : ℕ) (m : Message) (x : Ordered) (submitted : List (List ℕ)) → at order (suc k) ≡ some x → message_is m x → x.originator < length counts
    → Owns x.originator order submitted → ((o : ℕ) → get_or counts o 0 ≡ length (own_of o (take k order))) → (o : ℕ) → get_or (counted counts m) o 0 ≡ length (own_of o (take (suc k) order))
unfolding counted message_of
counted_next counts order k m x submitted there is less own before o =
    let longer : take (suc k) order ≡ take k order ++ (x ∷ []) = take_at_suc order k there in
    let c = (own_count order submitted k x there own).0 in
    let v : ℕ = larger_of (get_or counts x.originator 0) x.count in
    let same : v ≡ x.count = larger_next (get_or counts x.originator 0) x.count (c ∙ ap (λ (j : ℕ). j + 1) (sym (before x.originator))) in
    subst (λ (y : Message). get_or (set counts y.originator.0 (larger_of (get_or counts y.originator.0 0) y.count)) o 0 ≡ length (own_of o (take (suc k) order))) (sym is)
    (eq_or o x.originator
    (λ q. subst (λ (j : ℕ). get_or (set counts x.originator v) j 0 ≡ length (own_of j (take (suc k) order))) (sym q)
    (get_or-set_same counts x.originator v 0 less ∙ same ∙ c ∙ sym (ap (λ (l : List Ordered). length (own_of x.originator l)) longer ∙ own_more (take k order) x)))
    (λ q. get_or-set_other counts x.originator o v 0 q ∙ before o ∙ sym (ap (λ (l : List Ordered). length (own_of o l)) longer ∙ ap length (own_other o (take k order) x (λ z. q (sym z))))))

-- nothing is taken yet
pub fresh_remembers : (order : List Ordered) → Remembers 0 fresh_kept order
unfolding own_of
fresh_remembers order =
    record {
      past_is = λ s a b. absurd (omega arith);
      counts_are = λ o. le_or members_most o (λ l. get_or-eq_default (replicate members_most 0) 0 {n = o} l) (λ l. get_or-replicate members_most o 0 0 l);
    }

module _ (taken : ℕ) (kept : Kept) (order : List Ordered) (h : Remembers taken kept order) where
  -- the order is longer
  pub longer_remembers : (more : List Ordered) → taken ≤ length order → Remembers taken kept (order ++ more)
  longer_remembers more le =
      record {
        past_is = λ s a b. let x = h.past_is s a b in (x.0, at_append order more s x.1, x.2);
        counts_are = λ o. h.counts_are o ∙ ap (λ (l : List Ordered). length (own_of o l)) (sym (take-append-le taken order more le));
      }

  -- it was cut, not below what was taken
  pub cut_remembers : (number : ℕ) → taken ≤ number → Remembers taken kept (take number order)
  cut_remembers number le =
      record {
        past_is = λ s a b. let x = h.past_is s a b in (x.0, at_take number order s (omega arith) x.1, x.2);
        counts_are = λ o. h.counts_are o ∙ ap (λ (l : List Ordered). length (own_of o l)) (sym (take-take taken number order le));
      }

  -- a floor was read
  pub read_remembers : (answer : Answer) (floor : ℕ) → Remembers taken (kept_read kept answer floor) order
  read_remembers answer floor =
      record {
        past_is = λ s a b. let x = h.past_is s a b in (x.0, x.1, ap (λ (l : List Message). history.message_at l s) (read_past kept answer floor) ∙ x.2);
        counts_are = λ o. ap (λ (l : List ℕ). get_or l o 0) (read_counts kept answer floor) ∙ h.counts_are o;
      }

  -- the order's next message was taken
  pub took_remembers : (m : Message) (x : Ordered) (submitted : List (List ℕ)) → length kept.past ≡ places_most → x.originator < length kept.counts → at order (taken + 1) ≡ some x → message_is m x
      → Owns x.originator order submitted → Remembers (taken + 1) (kept_took kept (taken + 1) m) order
  unfolding kept_took
  took_remembers m x submitted long less there is own =
      let next : taken + 1 ≡ suc taken = omega arith in
      record {
        past_is = λ s a b.
            eq_or s (taken + 1)
            (λ q. (x, ap (at order) q ∙ there, ap (λ (k : ℕ). get_or (set kept.past (history.place_of (taken + 1)) m) (history.place_of k) blank) q ∙ get_or-set_same kept.past (history.place_of (taken + 1)) m blank (omega arith) ∙ is))
            (λ q. let y = h.past_is s (omega arith) (omega arith) in (y.0, y.1, get_or-set_other kept.past (history.place_of (taken + 1)) (history.place_of s) m blank (omega arith) ∙ y.2));
        counts_are = λ o.
            counted_next kept.counts order taken m x submitted (ap (at order) (sym next) ∙ there) is less own h.counts_are o ∙ ap (λ (k : ℕ). length (own_of o (take k order))) (sym next);
      }
