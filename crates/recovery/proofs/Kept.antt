-- What a terminal keeps: counts that grow, and the last 32 messages taken; both stay sound when a message is taken. Assumes nothing.
use mathlib.Core.Path.{◌≡◌, refl, ap, ◌∙◌}
use mathlib.Core.Bool.{Bool, true}
use mathlib.Core.List.{List}
use Prim.Native.Nat.{ℕ, zero, suc, ◌+◌, ◌-◌, ◌≤◌, ◌<◌}
use native.Mathlib.Nat.{le_refl, le_trans}
use native.Mathlib.Omega.{arith}
use borrow.Author.Tests.{leb-true, leb-false, le-leb, lt-leb, lt-ltb, ltb-false, le-ltb, eqb-true, eq-eqb}
use lib.ListN.{length, get_or, length-set, get_or-eq_default}
use lib.Seq.{get_or-set_same, get_or-set_other}
use Rattle.group.proofs.Choice.{when_true, when_false, both_hold, both_first, both_then, says}
use Rattle.group.proofs.Fold.{all_at, at_all, above_each, above_all}
use Rattle.group.proofs.Lists.{when_elim, eq_or, le_or}
use Rattle.group.specs.Choice.{when◌then◌else◌, ◌<?◌, ◌≤?◌, ◌=?◌}
use Rattle.group.specs.Fold.{all}
use Rattle.group.specs.Limits.{places_most, payload_most}
use Rattle.message.specs.Message.{Message, zero_behind, is_empty, blank}
use Rattle.history.specs.State.{place_of, message_at}
use Rattle.window.proofs.Row.{larger_le}
use Rattle.window.specs.Places as window
use Rattle.window.specs.Places.{larger_of}
use Rattle.member.specs.declared.Answer.{Answer}
use Rattle.recovery.specs.Calls.{is_refusal, kept_read, kept_took}
use Rattle.recovery.specs.Sound.{past_sound, past_place_sound, kept_sound}
use Rattle.recovery.specs.State.{Kept, counted, counted_row}

-- counts with a message's
module _ (counts : List ℕ) (m : Message) where
  pub counted_length : length (counted counts m) ≡ length counts
  unfolding counted
  counted_length = length-set counts m.originator.0 _

  pub counted_up : (i : ℕ) → get_or counts i 0 ≤ get_or (counted counts m) i 0
  unfolding counted
  counted_up i =
      eq_or i m.originator.0
      (λ q. le_or (length counts) i
      (λ l. let z : get_or counts i 0 ≡ 0 = get_or-eq_default counts 0 {n = i} l in omega arith)
      (λ l. rw (q, get_or-set_same counts m.originator.0 (larger_of (get_or counts m.originator.0 0) m.count) 0 (rw q at l)) (larger_le _ m.count).0))
      (λ q. rw (get_or-set_other counts m.originator.0 i (larger_of (get_or counts m.originator.0 0) m.count) 0 q) (le_refl _))

  pub counted_own : m.originator.0 < length counts → m.count ≤ get_or (counted counts m) m.originator.0 0
  unfolding counted
  counted_own l = rw (get_or-set_same counts m.originator.0 (larger_of (get_or counts m.originator.0 0) m.count) 0 l) (larger_le _ m.count).1

  pub counted_unused : (n : ℕ) → m.originator.0 < n → ((i : ℕ) → n ≤ i → get_or counts i 0 ≡ 0) → (i : ℕ) → n ≤ i → get_or (counted counts m) i 0 ≡ 0
  unfolding counted
  counted_unused n l e i h = get_or-set_other counts m.originator.0 i (larger_of (get_or counts m.originator.0 0) m.count) 0 (omega arith) ∙ e i h

-- counts with those of a row
module _ (counts : List ℕ) (held : List Message) (t : ℕ) where
  pub row_length : (k : ℕ) → length (counted_row counts held t k) ≡ length counts
  unfolding counted_row
  row_length zero = refl
  row_length (suc k) = counted_length (counted_row counts held t k) (window.message_at held (t + suc k)) ∙ row_length k

  pub row_up : (k i : ℕ) → get_or counts i 0 ≤ get_or (counted_row counts held t k) i 0
  unfolding counted_row
  row_up zero i = le_refl _
  row_up (suc k) i = le_trans (row_up k i) (counted_up (counted_row counts held t k) (window.message_at held (t + suc k)) i)

  pub row_own : (n : ℕ) → n ≤ length counts → (k s : ℕ) → ((j : ℕ) → t < j → j ≤ t + k → (window.message_at held j).originator.0 < n) → t < s → s ≤ t + k
      → (window.message_at held s).count ≤ get_or (counted_row counts held t k) (window.message_at held s).originator.0 0
  unfolding counted_row
  row_own n most zero s ok a b = absurd (omega arith)
  row_own n most (suc k) s ok a b =
      let l = row_length k in
      eq_or s (t + suc k)
      (λ q. rw q (let z = ok (t + suc k) (omega arith) (omega arith) in counted_own (counted_row counts held t k) (window.message_at held (t + suc k)) (omega arith)))
      (λ q. le_trans (row_own n most k s (λ j c d. ok j c (omega arith)) a (omega arith)) (counted_up (counted_row counts held t k) (window.message_at held (t + suc k)) _))

  pub row_unused : (n : ℕ) (k : ℕ) → ((j : ℕ) → t < j → j ≤ t + k → (window.message_at held j).originator.0 < n) → ((i : ℕ) → n ≤ i → get_or counts i 0 ≡ 0)
      → (i : ℕ) → n ≤ i → get_or (counted_row counts held t k) i 0 ≡ 0
  unfolding counted_row
  row_unused n zero ok e i h = e i h
  row_unused n (suc k) ok e i h =
      counted_unused (counted_row counts held t k) (window.message_at held (t + suc k)) n (ok (t + suc k) (omega arith) (omega arith))
      (row_unused n k (λ j c d. ok j c (omega arith)) e) i h

-- a message among the last taken
pub record PastFacts (n : ℕ) (counts : List ℕ) (m : Message) : Type 0 where
  pub originator : m.originator.0 < n
  pub count_least : 1 ≤ m.count
  pub count_most : m.count ≤ get_or counts m.originator.0 0
  pub short : m.length ≤ payload_most
  pub zeros : zero_behind m ≡ true

past_facts : (n : ℕ) (counts : List ℕ) (m : Message) → past_sound n counts m ≡ true → PastFacts n counts m
unfolding past_sound
past_facts n counts m e =
    record {
      originator = search says depth 9;
      count_least = search says depth 9;
      count_most = search says depth 9;
      short = search says depth 9;
      zeros = search says depth 9;
    }

facts_past : (n : ℕ) (counts : List ℕ) (m : Message) → PastFacts n counts m → past_sound n counts m ≡ true
unfolding past_sound
facts_past n counts m f =
    both_hold _ _ (lt-ltb _ _ f.originator) (both_hold _ _ (le-leb _ _ f.count_least) (both_hold _ _ (le-leb _ _ f.count_most) (both_hold _ _ (le-leb _ _ f.short) f.zeros)))

-- the facts of what is kept
pub record KeptSound (n taken : ℕ) (kept : Kept) : Type 0 where
  pub unused : (i : ℕ) → n ≤ i → get_or kept.counts i 0 ≡ 0
  pub past : (s : ℕ) → taken - places_most < s → s ≤ taken → PastFacts n kept.counts (message_at kept.past s)
  pub empty : (s : ℕ) → taken < s → s ≤ taken - places_most + places_most → is_empty (message_at kept.past s) ≡ true

module _ (n taken : ℕ) (kept : Kept) where
  abbrev count_sound : ℕ → ℕ → Bool
  count_sound i c = when i <? n then true else c =? 0

  pub kept_of : kept_sound n taken kept ≡ true → KeptSound n taken kept
  unfolding kept_sound past_place_sound
  kept_of e =
      let each = all_at count_sound 0 kept.counts (both_first (all count_sound 0 kept.counts) _ e) in
      let place = above_each (past_place_sound n taken kept) (taken - places_most) places_most (both_then (all count_sound 0 kept.counts) _ e) in
      record {
        unused = λ i h.
            le_or (length kept.counts) i (λ l. get_or-eq_default kept.counts 0 {n = i} l)
            (λ l. eqb-true _ 0 (when_false (i <? n) _ _ _ (le-ltb i n h) refl ∙ each i l));
        past = λ s a b. past_facts n kept.counts (message_at kept.past s) (when_true (s ≤? taken) _ _ _ (le-leb s taken b) refl ∙ place s a (omega arith));
        empty = λ s a b. when_false (s ≤? taken) _ _ _ (lt-leb s taken a) refl ∙ place s (omega arith) b;
      }

  pub of_kept : KeptSound n taken kept → kept_sound n taken kept ≡ true
  unfolding kept_sound past_place_sound
  of_kept f =
      both_hold _ _ (at_all count_sound 0 kept.counts (λ i l. when_elim (λ (b : Bool). b ≡ true) (i <? n) (λ t. refl) (λ t. eq-eqb _ 0 (f.unused i (ltb-false i n t)))))
      (above_all (past_place_sound n taken kept) (taken - places_most) places_most
      (λ s a b. when_elim (λ (x : Bool). x ≡ true) (s ≤? taken)
      (λ t. facts_past n kept.counts (message_at kept.past s) (f.past s a (leb-true s taken t)))
      (λ t. f.empty s (leb-false s taken t) b)))

-- a message that is taken next
pub took_kept : (n taken : ℕ) (kept : Kept) (m : Message) → length kept.past ≡ places_most → n ≤ length kept.counts
    → m.originator.0 < n → 1 ≤ m.count → m.length ≤ payload_most → zero_behind m ≡ true → KeptSound n taken kept → KeptSound n (taken + 1) (kept_took kept (taken + 1) m)
unfolding kept_took
took_kept n taken kept m long most originator least short zeros f =
    record {
      unused = counted_unused kept.counts m n originator f.unused;
      past = λ s a b.
          eq_or s (taken + 1)
          (λ q. rw (q, get_or-set_same kept.past (place_of (taken + 1)) m blank (omega arith))
          (record { originator = originator; count_least = least; count_most = counted_own kept.counts m (omega arith); short = short; zeros = zeros }))
          (λ q.
          let old = f.past s (omega arith) (omega arith) in
          rw (get_or-set_other kept.past (place_of (taken + 1)) (place_of s) m blank (omega arith))
          (record {
            originator = old.originator;
            count_least = old.count_least;
            count_most = le_trans old.count_most (counted_up kept.counts m _);
            short = old.short;
            zeros = old.zeros;
          }));
      empty = λ s a b. ap is_empty (get_or-set_other kept.past (place_of (taken + 1)) (place_of s) m blank (omega arith)) ∙ f.empty s (omega arith) (omega arith);
    }

-- a floor that is read changes nothing else of what is kept
module _ (kept : Kept) (answer : Answer) (floor : ℕ) where
  pub read_kept : (n taken : ℕ) → KeptSound n taken kept → KeptSound n taken (kept_read kept answer floor)
  unfolding kept_read
  read_kept n taken k = when_elim (KeptSound n taken) (is_refusal answer) (λ _. k) (λ _. record { unused = k.unused; past = k.past; empty = k.empty })

  pub read_past : (kept_read kept answer floor).past ≡ kept.past
  unfolding kept_read
  read_past = when_elim (λ (x : Kept). x.past ≡ kept.past) (is_refusal answer) (λ _. refl) (λ _. refl)

  pub read_counts : (kept_read kept answer floor).counts ≡ kept.counts
  unfolding kept_read
  read_counts = when_elim (λ (x : Kept). x.counts ≡ kept.counts) (is_refusal answer) (λ _. refl) (λ _. refl)
