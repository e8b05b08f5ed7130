-- The sequencer that an elected terminal begins with is sound: its acknowledgements, from its own sequencer or from its member. Assumes nothing.
use mathlib.Core.Path.{◌≡◌, refl, sym, ap, ◌∙◌, subst}
use mathlib.Core.Bool.{Bool, true, false, false≢true}
use mathlib.Core.List.{List, [], ◌∷◌}
use Prim.Native.Nat.{ℕ, zero, suc, ◌+◌, ◌-◌, ◌≤◌, ◌<◌}
use native.Mathlib.Nat.{le_refl, le_trans, le_antisymm}
use native.Mathlib.Omega.{arith}
use borrow.Author.Tests.{leb-true, leb-false}
use lib.ListN.{length, get_or, get_or-replicate, length-set, length-replicate, get_or-eq_default}
use lib.Seq.{get_or-set_same, get_or-set_other}
use Rattle.group.proofs.Lists.{when_elim, eq_or, le_or}
use Rattle.group.proofs.Members.{Standing, survivor_lt}
use Rattle.group.specs.Choice.{when◌then◌else◌, ◌≤?◌}
use Rattle.group.specs.Limits.{members_most, places_most, held_most, largest_number}
use Rattle.group.specs.Members.{is_in}
use Rattle.group.specs.declared.Group.{Group}
use Rattle.message.proofs.Kept.{empty_zero}
use Rattle.message.specs.Message.{Message, empty_message, blank, is_empty}
use Rattle.history.proofs.Soundness.{taken_in, count_in, Lost, floor_most, floor_least}
use Rattle.history.specs.State.{Acknowledgement, no_acknowledgement, place_of, message_at, floor_of}
use Rattle.member.proofs.Acknowledged.{reach_least, reach_near, reach_holds}
use Rattle.member.proofs.Soundness as member
use Rattle.member.specs.State.{Member, reach_of}
use Rattle.sequencer.proofs.Soundness as sequencer
use Rattle.window.proofs.Row.{smaller_le, larger_le, le_smaller, row_is}
use Rattle.window.specs.Places as window
use Rattle.window.specs.Places.{larger_of, smaller_of}
use Rattle.recovery.specs.Begin.{table_from, counts_in, history_from, begun}
use Rattle.recovery.specs.State.{Terminal, kept_floor, message_of_number, counted_row, counts_of}
use Rattle.recovery.proofs.Kept.{PastFacts, KeptSound, row_length, row_up, row_own, row_unused}

-- the entry of a member in a table that begins with a floor
abbrev entry_from : ℕ → ℕ → List ℕ → ℕ → ℕ → Acknowledgement
entry_from survivors floor counts i j = record { taken = record { 0 = when is_in survivors j then floor else 0 }; count = get_or counts i 0; repeats = 0 }

module _ (survivors floor : ℕ) where
  pub table_length : (i : ℕ) (counts : List ℕ) → length (table_from survivors floor i counts) ≡ length counts
  unfolding table_from
  table_length i [] = refl
  table_length i (c ∷ counts) = ap suc (table_length (i + 1) counts)

  table_at : (i j : ℕ) (counts : List ℕ) → j < length counts → get_or (table_from survivors floor i counts) j no_acknowledgement ≡ entry_from survivors floor counts j (i + j)
  unfolding table_from
  table_at i j [] h = absurd (omega arith)
  table_at i zero (c ∷ counts) h = let z : i ≡ i + 0 = omega arith in ap (λ (x : ℕ). entry_from survivors floor (c ∷ counts) 0 x) z
  table_at i (suc j) (c ∷ counts) h =
      let z : i + 1 + j ≡ i + suc j = omega arith in
      table_at (i + 1) j counts (omega arith) ∙ ap (λ (x : ℕ). entry_from survivors floor counts j x) z

  pub table_entry : (counts : List ℕ) (j : ℕ) → j < length counts → get_or (table_from survivors floor 0 counts) j no_acknowledgement ≡ entry_from survivors floor counts j j
  table_entry counts j h = let z : 0 + j ≡ j = omega arith in table_at 0 j counts h ∙ ap (λ (x : ℕ). entry_from survivors floor counts j x) z

-- the last counts of a table
pub counts_at : (table : List Acknowledgement) (i : ℕ) → get_or (counts_in table) i 0 ≡ count_in table i
unfolding counts_in
counts_at [] i = refl
counts_at (a ∷ table) zero = refl
counts_at (a ∷ table) (suc i) = counts_at table i

pub counts_length : (table : List Acknowledgement) → length (counts_in table) ≡ length table
unfolding counts_in
counts_length [] = refl
counts_length (a ∷ table) = ap suc (counts_length table)

-- a sequencer that begins
module _ (group : Group) (stands : Standing group) (number floor : ℕ) (counts : List ℕ) (kept : List Message)
    (long : length counts ≡ members_most) (fits : floor ≤ largest_number) (low : floor ≤ number) (high : number ≤ floor + places_most)
    (unused : (i : ℕ) → group.n ≤ i → get_or counts i 0 ≡ 0)
    (messages : (k : ℕ) → floor < k → k ≤ number → PastFacts group.n counts (message_at kept k))
    (empty : (k : ℕ) → number < k → k ≤ floor + places_most → is_empty (message_at kept k) ≡ true) where
  abbrev table : List Acknowledgement
  table = table_from group.survivors floor 0 counts

  size : length table ≡ members_most
  size = table_length group.survivors floor 0 counts ∙ long

  entry : (i : ℕ) → i < members_most → get_or table i no_acknowledgement ≡ entry_from group.survivors floor counts i i
  entry i h = table_entry group.survivors floor counts i (omega arith)

  taken_survivor : (i : ℕ) → is_in group.survivors i ≡ true → i < members_most → taken_in table i ≡ floor
  unfolding when◌then◌else◌
  taken_survivor i e h = ap (λ (a : Acknowledgement). a.taken.0) (entry i h) ∙ rw e

  taken_le : (i : ℕ) → taken_in table i ≤ floor
  taken_le i =
      le_or members_most i
      (λ l. let z = ap (λ (a : Acknowledgement). a.taken.0) (get_or-eq_default table no_acknowledgement {n = i} (let s = size in omega arith)) in omega arith)
      (λ l. subst (λ (a : Acknowledgement). a.taken.0 ≤ floor) (sym (entry i l)) (when_elim (λ (x : ℕ). x ≤ floor) (is_in group.survivors i) (λ _. le_refl floor) (λ _. omega arith)))

  count_is : (i : ℕ) → count_in table i ≡ get_or counts i 0
  count_is i =
      le_or members_most i
      (λ l. ap (λ (a : Acknowledgement). a.count) (get_or-eq_default table no_acknowledgement {n = i} (let s = size in omega arith)) ∙ sym (get_or-eq_default counts 0 {n = i} (omega arith)))
      (λ l. ap (λ (a : Acknowledgement). a.count) (entry i l))

  survivor_most : (i : ℕ) → is_in group.survivors i ≡ true → i < members_most
  survivor_most i e = let z = survivor_lt group stands i e in let y = stands.n_most in omega arith

  floor_is : floor_of group.survivors table ≡ floor
  floor_is =
      let e = group.elected.0 in
      let l = survivor_most e stands.elected_in in
      let t = taken_survivor e stands.elected_in l in
      let s = size in
      let a = floor_most group.survivors table e stands.elected_in (omega arith) in
      le_antisymm (omega arith)
      (floor_least group.survivors table floor fits (λ i h k. let y = taken_survivor i h (survivor_most i h) in omega arith))

  out : (i : ℕ) → group.n ≤ i → (b : Bool) → is_in group.survivors i ≡ b → b ≡ false
  out i h true e = absurd (let z = survivor_lt group stands i e in omega arith)
  out i h false e = refl

  lost_entry : (i : ℕ) → group.n ≤ i → entry_from group.survivors floor counts i i ≡ no_acknowledgement
  unfolding when◌then◌else◌
  lost_entry i h =
      let e = out i h (is_in group.survivors i) refl in
      let c = unused i h in
      rw (e, c)

  pub begun_sound : sequencer.Sound (begun group number floor counts kept)
  begun_sound =
      record {
        n_least = stands.n_least;
        n_most = stands.n_most;
        resilient = stands.resilient;
        within = stands.within;
        elected_in = stands.elected_in;
        floor_is = floor_is;
        floor_le = low;
        accepted_le = le_refl number;
        window = high;
        taken_le = λ i h. le_trans (taken_le i) low;
        lost = λ i h.
            le_or members_most i
            (λ l. rw (get_or-eq_default table no_acknowledgement {n = i} (let s = size in omega arith)) (record { taken = refl; repeats = refl }))
            (λ l. subst Lost (sym (entry i l)) (record { taken = when_elim (λ (x : ℕ). x ≡ 0) (is_in group.survivors i) (λ t. absurd (false≢true (sym h ∙ t))) (λ _. refl); repeats = refl }));
        unused = λ i h.
            le_or members_most i (λ l. get_or-eq_default table no_acknowledgement {n = i} (let s = size in omega arith))
            (λ l. entry i l ∙ lost_entry i h);
        kept = λ k a b.
            let f = messages k a b in
            record {
              originator = f.originator;
              count_least = f.count_least;
              count_most = rw (count_is (message_at kept k).originator.0) f.count_most;
              short = f.short;
              zeros = f.zeros;
            };
        empty = empty;
        marks_in = λ k a b. absurd (omega arith);
        marks_below = λ k a b. get_or-replicate places_most (place_of k) 0 0 (omega arith);
        marks_above = λ k a b. get_or-replicate places_most (place_of k) 0 0 (omega arith);
      }

-- no number is over the largest
pub reach_fits : (m : Member) → m.taken.0 ≤ largest_number → reach_of m ≤ largest_number
unfolding reach_of
reach_fits m h =
    let k = smaller_of largest_number (m.taken.0 + held_most) in
    let a = (smaller_le largest_number (m.taken.0 + held_most)).0 in
    let r = row_is m.held m.taken.0 (k - m.taken.0) in
    let b = r.most in
    let c = le_smaller largest_number (m.taken.0 + held_most) m.taken.0 h (omega arith) in
    omega arith

-- what a member has above its floor
module _ (t : Terminal) (sound : member.Sound t.member) (kept : KeptSound t.member.group.n t.member.taken.0 t.kept)
    (long : length t.kept.counts ≡ members_most) where
  pub floor_reach : kept_floor t ≤ reach_of t.member
  unfolding kept_floor
  floor_reach = (smaller_le (larger_of t.kept.read.0 (reach_of t.member - places_most)) (reach_of t.member)).1

  pub reach_floor : reach_of t.member ≤ kept_floor t + places_most
  unfolding kept_floor
  reach_floor =
      let r = reach_of t.member in
      let a = (larger_le t.kept.read.0 (r - places_most)).1 in
      let b = le_smaller (larger_of t.kept.read.0 (r - places_most)) r (r - places_most) a (omega arith) in
      omega arith

  row_ok : (j : ℕ) → t.member.taken.0 < j → j ≤ t.member.taken.0 + (reach_of t.member - t.member.taken.0) → (window.message_at t.member.held j).originator.0 < t.member.group.n
  row_ok j a b =
      let l = reach_least t.member in
      let n = reach_near t.member in
      (sound.places.holds j a (omega arith) (reach_holds t.member j a (omega arith))).originator_lt

  pub counts_size : length (counts_of t) ≡ members_most
  unfolding counts_of
  counts_size = row_length t.kept.counts t.member.held t.member.taken.0 _ ∙ long

  pub counts_unused : (i : ℕ) → t.member.group.n ≤ i → get_or (counts_of t) i 0 ≡ 0
  unfolding counts_of
  counts_unused = row_unused t.kept.counts t.member.held t.member.taken.0 t.member.group.n (reach_of t.member - t.member.taken.0) row_ok kept.unused

  pub message_facts : (s : ℕ) → kept_floor t < s → s ≤ reach_of t.member → PastFacts t.member.group.n (counts_of t) (message_of_number t s)
  unfolding message_of_number counts_of
  message_facts s a b =
      let n = t.member.group.n in
      let taken = t.member.taken.0 in
      let counts = counted_row t.kept.counts t.member.held taken (reach_of t.member - taken) in
      let near = reach_near t.member in
      let least = reach_least t.member in
      let wide = reach_floor in
      when_elim (λ (x : Message). PastFacts n counts x) (s ≤? taken)
      (λ h.
      let f = kept.past s (omega arith) (leb-true s taken h) in
      record {
        originator = f.originator;
        count_least = f.count_least;
        count_most = le_trans f.count_most (row_up t.kept.counts t.member.held taken (reach_of t.member - taken) _);
        short = f.short;
        zeros = f.zeros;
      })
      (λ h.
      let above = leb-false s taken h in
      let c = reach_holds t.member s above b in
      let f = sound.places.holds s above (omega arith) c in
      record {
        originator = f.originator_lt;
        count_least = c;
        count_most = row_own t.kept.counts t.member.held taken n (let z = sound.n_most in omega arith) (reach_of t.member - taken) s row_ok above (omega arith);
        short = f.short;
        zeros = f.zero_behind_lem;
      })

-- a history laid number by number
module _ (t : Terminal) (floor : ℕ) where
  pub history_length : (k : ℕ) → length (history_from t floor k) ≡ places_most
  unfolding history_from
  history_length zero = length-replicate places_most empty_message
  history_length (suc k) = length-set (history_from t floor k) (place_of (floor + suc k)) _ ∙ history_length k

  pub history_in : (k s : ℕ) → k ≤ places_most → floor < s → s ≤ floor + k → message_at (history_from t floor k) s ≡ message_of_number t s
  unfolding history_from
  history_in zero s most a b = absurd (omega arith)
  history_in (suc k) s most a b =
      let l = history_length k in
      eq_or s (floor + suc k)
      (λ q. rw q (get_or-set_same (history_from t floor k) (place_of (floor + suc k)) (message_of_number t (floor + suc k)) blank (omega arith)))
      (λ q. get_or-set_other (history_from t floor k) (place_of (floor + suc k)) (place_of s) (message_of_number t (floor + suc k)) blank (omega arith)
      ∙ history_in k s (omega arith) a (omega arith))

  pub history_out : (k s : ℕ) → k ≤ places_most → floor + k < s → s ≤ floor + places_most → is_empty (message_at (history_from t floor k) s) ≡ true
  unfolding history_from
  history_out zero s most a b = ap is_empty (get_or-replicate places_most (place_of s) empty_message blank (omega arith)) ∙ empty_zero
  history_out (suc k) s most a b =
      ap is_empty (get_or-set_other (history_from t floor k) (place_of (floor + suc k)) (place_of s) (message_of_number t (floor + suc k)) blank (omega arith))
      ∙ history_out k s (omega arith) (omega arith) b
