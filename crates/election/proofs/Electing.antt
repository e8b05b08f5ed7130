-- What the elected terminal's sequencer begins with, and the sequencer: the arrays that the code leaves are the meaning's. Assumes nothing.
use mathlib.Core.Path.{◌≡◌, refl, sym, ap, ◌∙◌}
use mathlib.Core.Bool.{true, false}
use mathlib.Core.List.{List, [], ◌∷◌}
use Prim.Native.Nat.{ℕ, zero, suc, ◌+◌, ◌-◌, ◌≤◌, ◌<◌}
use native.Mathlib.Nat.{not-suc-le-zero}
use native.Mathlib.Omega.{arith}
use lib.ListN.{length, get_or, drop, replicate, length-set, length-replicate, get_or-replicate, get_or-eq_default}
use lib.Seq.{get_or-set_same, get_or-set_other, get_or-drop}
use Rattle.group.specs.Choice.{when◌then◌else◌}
use Rattle.group.specs.Limits.{members_most, places_most, held_most, largest_number}
use Rattle.group.specs.Members.{is_in}
use Rattle.group.specs.declared.Group.{Group}
use Rattle.group.specs.declared.SequenceNumber.{SequenceNumber}
use Rattle.group.proofs.Choice.{when_true, when_false}
use Rattle.group.proofs.Lists.{eq_or, le_or}
use Rattle.message.specs.Message.{empty_message}
use Rattle.store.specs.Places.{messages_in}
use Rattle.history.specs.View.{table_in, listed}
use Rattle.member.specs.State.{reach_of}
use Rattle.member.specs.View as memberView
use Rattle.sequencer.specs.View as sequencerView
use Rattle.recovery.specs.Begin.{table_from, counts_in, history_from, begun, elected_sequencer}
use Rattle.recovery.specs.State.{Terminal, serves, kept_floor, counted_row, counts_of}
use Rattle.recovery.specs.Steps.{reach_in, serves_in, kept_floor_in, starts_of, filled_of}
use Rattle.recovery.specs.View.{Stored, terminal_of}
use Rattle.recovery.specs.declared.Head.{Head}
use Rattle.recovery.proofs.Begun.{counts_in_lem, history_filled, row_listed, reach_as, floor_as}
use Rattle.recovery.proofs.Kept.{row_length}
use Rattle.election.specs.Steps.{FromMember}

-- each member's acknowledgement starts where the meaning says
starts_length : (taken : List ℕ) (survivors floor k : ℕ) → length (starts_of taken survivors floor k) ≡ length taken
unfolding starts_of
starts_length taken survivors floor zero = refl
starts_length taken survivors floor (suc k) = length-set (starts_of taken survivors floor k) k _ ∙ starts_length taken survivors floor k

starts_at : (taken : List ℕ) (survivors floor k i : ℕ) → i < k → k ≤ length taken → get_or (starts_of taken survivors floor k) i 0 ≡ (when is_in survivors i then floor else 0)
unfolding starts_of
starts_at taken survivors floor zero i h r = absurd (not-suc-le-zero h)
starts_at taken survivors floor (suc k) i h r =
    let size = starts_length taken survivors floor k in
    eq_or i k
    (λ e. rw e (get_or-set_same (starts_of taken survivors floor k) k (when is_in survivors k then floor else 0) 0 (omega arith)))
    (λ n. get_or-set_other (starts_of taken survivors floor k) k i (when is_in survivors k then floor else 0) 0 n ∙ starts_at taken survivors floor k i (omega arith) (omega arith))

-- a table that begins has the last counts of the one before, whatever the arrays of both are
module _ (survivors floor : ℕ) where
  table_from_lem : (j : ℕ) (taken before counts repeats zeros : List ℕ) → length taken ≡ length before
      → ((i : ℕ) → i < length taken → get_or taken i 0 ≡ (when is_in survivors (j + i) then floor else 0)) → ((i : ℕ) → get_or zeros i 0 ≡ 0)
      → table_in taken counts zeros ≡ table_from survivors floor j (counts_in (table_in before counts repeats))
  unfolding table_in table_from counts_in
  table_from_lem j [] [] counts repeats zeros size t z = refl
  table_from_lem j [] (y ∷ before) counts repeats zeros size t z = absurd (let e : 0 ≡ suc (length before) = size in omega arith)
  table_from_lem j (x ∷ taken) [] counts repeats zeros size t z = absurd (let e : suc (length taken) ≡ 0 = size in omega arith)
  table_from_lem j (x ∷ taken) (y ∷ before) counts repeats zeros size t z =
      let w : j + 0 ≡ j = omega arith in
      let here : x ≡ (when is_in survivors j then floor else 0) = t 0 (omega arith) ∙ ap (λ (k : ℕ). when is_in survivors k then floor else 0) w in
      let rest = table_from_lem (j + 1) taken before (drop 1 counts) (drop 1 repeats) (drop 1 zeros) (let e : suc (length taken) ≡ suc (length before) = size in omega arith)
      (λ i h. let e : j + suc i ≡ j + 1 + i = omega arith in t (suc i) (omega arith) ∙ ap (λ (k : ℕ). when is_in survivors k then floor else 0) e)
      (λ i. get_or-drop 1 zeros i 0 ∙ z (1 + i)) in
      λ i. record { taken = record { 0 = here i }; count = get_or counts 0 0; repeats = z 0 i } ∷ rest i

none : (k i : ℕ) → ◌≡◌ {A = ℕ} (get_or (replicate k 0) i 0) 0
none k i = le_or k i (λ h. get_or-eq_default (replicate k 0) 0 (let z = length-replicate {A = ℕ} k 0 in omega arith)) (λ h. get_or-replicate k i 0 0 h)

table_started : (survivors floor : ℕ) (taken counts repeats : List ℕ) → length taken ≡ members_most
    → table_in (starts_of taken survivors floor members_most) counts (replicate members_most 0) ≡ table_from survivors floor 0 (counts_in (table_in taken counts repeats))
table_started survivors floor taken counts repeats size =
    let same = starts_length taken survivors floor members_most in
    table_from_lem survivors floor 0 (starts_of taken survivors floor members_most) taken counts repeats (replicate members_most 0) same
    (λ i h. let z : 0 + i ≡ i = omega arith in starts_at taken survivors floor members_most i (omega arith) (omega arith) ∙ ap (λ (k : ℕ). when is_in survivors k then floor else 0) (sym z))
    (none members_most)

-- the sequencer that begins, by what it begins with
pub begun_as : (t : Terminal) (group : Group) (number : SequenceNumber) {floor : SequenceNumber} (taken repeats : List ℕ) {taken' : List ℕ} (counts kept originators lengths payloads : List ℕ) → length taken ≡ members_most
    → elected_sequencer t group number.0 ≡ begun group number.0 floor.0 (counts_in (table_in taken counts repeats)) (messages_in kept originators lengths payloads)
    → taken' ≡ starts_of taken group.survivors floor.0 members_most
    → sequencerView.view_of (sequencerView.whole (record { group = group; top = number; accepted = number; floor = floor }) taken' counts (replicate members_most 0) kept (replicate places_most 0) originators lengths payloads)
    ≡ elected_sequencer t group number.0
unfolding sequencerView.view_of
begun_as t group number {floor} taken repeats {taken'} counts kept originators lengths payloads size e h =
    let table = ap (λ (l : List ℕ). table_in l counts (replicate members_most 0)) h ∙ table_started group.survivors floor.0 taken counts repeats size in
    (λ i. record {
      group = group;
      acknowledgements = table i;
      top = number;
      accepted = number;
      floor = floor;
      history = messages_in kept originators lengths payloads;
      marks = replicate places_most 0;
    }) ∙ sym e

-- what its member begins with, by what the code finds
pub from_parts : (head : Head) (held held_originators held_lengths held_payloads past past_originators past_lengths past_payloads highest : List ℕ) {floor reach : SequenceNumber} {counts kept originators lengths payloads : List ℕ}
    → floor.0 ≡ kept_floor_in head held → reach.0 ≡ reach_in head held → length highest ≡ members_most
    → counts ≡ counted_row highest (listed held held_originators) head.member.taken.0 (reach.0 - head.member.taken.0)
    → messages_in kept originators lengths payloads ≡ filled_of (replicate places_most empty_message) (messages_in past past_originators past_lengths past_payloads) (messages_in held held_originators held_lengths held_payloads) head.member.taken.0 floor.0 (reach.0 - floor.0)
    → FromMember head held held_originators held_lengths held_payloads past past_originators past_lengths past_payloads highest floor counts kept originators lengths payloads
from_parts head held held_originators held_lengths held_payloads past past_originators past_lengths past_payloads highest {floor} {reach} {counts} {kept} {originators} {lengths} {payloads} f r size c h =
    record {
      floor_is = f;
      highest_size = size;
      counts_are = c ∙ ap (λ (x : ℕ). counted_row highest (listed held held_originators) head.member.taken.0 (x - head.member.taken.0)) r;
      history_is = h ∙ ap (λ (x : ℕ). filled_of (replicate places_most empty_message) (messages_in past past_originators past_lengths past_payloads) (messages_in held held_originators held_lengths held_payloads) head.member.taken.0 floor.0 (x - floor.0)) r;
    }

not_serving : (s : Stored) → serves_in s.head ≡ false → serves (terminal_of s) ≡ false
unfolding terminal_of sequencerView.view_of memberView.view_of
not_serving s e = e

module _ (s : Stored) (group : Group) (number : ℕ) where
  -- from its group's sequencer
  pub from_own : serves_in s.head ≡ true
      → elected_sequencer (terminal_of s) group number ≡ begun group number s.head.sequencer.floor.0 (counts_in (table_in s.taken s.counts s.repeats)) (messages_in s.kept s.originators s.lengths s.payloads)
  unfolding elected_sequencer terminal_of sequencerView.view_of memberView.view_of
  from_own h = sym (when_true (serves_in s.head) _ _ _ h refl)

  -- from its member
  module _ (most : s.head.member.taken.0 ≤ largest_number) {floor : SequenceNumber} {counts kept originators lengths payloads : List ℕ}
      (f : FromMember s.head s.held s.held_originators s.held_lengths s.held_payloads s.past s.past_originators s.past_lengths s.past_payloads s.highest floor counts kept originators lengths payloads) where
    floored : floor.0 ≡ kept_floor (terminal_of s)
    floored = f.floor_is ∙ floor_as s most

    counts_as : length s.held ≡ held_most → length s.taken ≡ members_most → counts_in (table_in s.taken counts s.repeats) ≡ counts_of (terminal_of s)
    unfolding counts_of terminal_of memberView.view_of
    counts_as size long =
        let same : length counts ≡ members_most =
        ap (λ (l : List ℕ). length l) f.counts_are ∙ row_length s.highest (listed s.held s.held_originators) s.head.member.taken.0 (reach_in s.head s.held - s.head.member.taken.0) ∙ f.highest_size in
        counts_in_lem s.taken counts s.repeats (long ∙ sym same) ∙ f.counts_are
        ∙ (λ i. counted_row s.highest (listed s.held s.held_originators) s.head.member.taken.0 (reach_as s most i - s.head.member.taken.0))
        ∙ row_listed s.highest s.held s.held_originators s.held_lengths s.held_payloads s.head.member.taken.0 (reach_of (terminal_of s).member - s.head.member.taken.0) size

    history_as : messages_in kept originators lengths payloads ≡ history_from (terminal_of s) (kept_floor (terminal_of s)) (reach_of (terminal_of s).member - kept_floor (terminal_of s))
    unfolding terminal_of memberView.view_of
    history_as =
        f.history_is
        ∙ (λ i. filled_of (replicate places_most empty_message) (terminal_of s).kept.past (terminal_of s).member.held (terminal_of s).member.taken.0 (floored i) (reach_as s most i - floored i))
        ∙ history_filled (terminal_of s) (kept_floor (terminal_of s)) (reach_of (terminal_of s).member - kept_floor (terminal_of s))

    pub from_member : serves_in s.head ≡ false → length s.held ≡ held_most → length s.taken ≡ members_most
        → elected_sequencer (terminal_of s) group number ≡ begun group number floor.0 (counts_in (table_in s.taken counts s.repeats)) (messages_in kept originators lengths payloads)
    unfolding elected_sequencer
    from_member alone size long =
        let same = counts_as size long in
        sym (when_false (serves (terminal_of s)) _ _ _ (not_serving s alone) (λ i. begun group number (floored i) (same i) (history_as i)))
