-- Numbering a message keeps a state sound: it lies in the place above top, which was free, and no other place or
-- acknowledgement changes. Assumes nothing.
use mathlib.Core.Path.{◌≡◌, refl, sym, ap, ◌∙◌}
use mathlib.Core.Logic.{◌≢◌}
use mathlib.Core.List.{List}
use Prim.Native.Nat.{ℕ, ◌+◌, ◌≤◌, ◌<◌}
use native.Mathlib.Nat.{le_refl}
use native.Mathlib.Omega.{arith}
use borrow.Author.Tests.{eqb-true, eqb-false}
use lib.Bits.{bit_and, and_zero_r}
use lib.ListN.{length, set, length-set}
use lib.Seq.{get_or-set_same, get_or-set_other}
use Rattle.group.proofs.Lists.{eq_or, le_or, when_elim}
use Rattle.group.proofs.Members.{expected_none}
use Rattle.group.specs.Choice.{◌=?◌}
use Rattle.group.specs.Limits.{places_most, payload_most, largest_number}
use Rattle.group.specs.Members.{needed_of}
use Rattle.group.specs.declared.MemberNumber.{MemberNumber}
use Rattle.group.specs.declared.SequenceNumber.{SequenceNumber}
use Rattle.message.proofs.Kept.{kept_zero}
use Rattle.message.specs.Message.{Message, message_of, blank, is_empty}
use Rattle.history.proofs.Counting.{counted_each, counted_taken, counted_same, counted_up}
use Rattle.history.proofs.Soundness.{Lost, count_in, KeptFacts, kept_under, floor_same}
use Rattle.history.specs.Marks.{mark_at}
use Rattle.history.specs.Note.{with_counts}
use Rattle.history.specs.State.{Acknowledgement, no_acknowledgement, acknowledgement_of, place_of, message_at}
use Rattle.sequencer.specs.Calls.{with_message}
use Rattle.sequencer.specs.Laws.{Typed}
use Rattle.sequencer.specs.State.{Sequencer, repeat_count}
use Rattle.sequencer.proofs.Soundness.{Sound}

module _ (s : Sequencer) (m : MemberNumber) (count : ℕ) (payload : List ℕ) (typed : Typed s) (sound : Sound s) (member : m.0 < s.group.n) where
  abbrev table : List Acknowledgement
  table = s.acknowledgements

  -- the member's entry, with the count
  abbrev entry : Acknowledgement
  entry = with_counts (acknowledgement_of s.acknowledgements m) count (repeat_count s m)

  abbrev table' : List Acknowledgement
  table' = set table m.0 entry

  abbrev history' : List Message
  history' = set s.history (place_of (s.top.0 + 1)) (message_of m count payload)

  inside : m.0 < length table
  inside = omega arith

  -- the new message lies in its place, and the others in theirs
  pub kept_here : message_at history' (s.top.0 + 1) ≡ message_of m count payload
  kept_here = get_or-set_same s.history (place_of (s.top.0 + 1)) (message_of m count payload) blank (omega arith)

  pub kept_other : s.top.0 < s.floor.0 + places_most → (k : ℕ) → s.floor.0 < k → k ≤ s.floor.0 + places_most → k ≢ s.top.0 + 1
      → message_at history' k ≡ message_at s.history k
  kept_other room k a b q =
      get_or-set_other s.history (place_of (s.top.0 + 1)) (place_of k) (message_of m count payload) blank (omega arith)

  -- what is accepted: all, where none has to confirm, else what was
  pub accepted_each : (P : ℕ → Type 0) → (needed_of s.group ≡ 0 → P (s.top.0 + 1)) → (needed_of s.group ≢ 0 → P s.accepted.0)
      → P (with_message s m count payload).accepted.0
  unfolding with_message
  accepted_each P all same =
      when_elim (λ (x : SequenceNumber). P x.0) (needed_of s.group =? 0) (λ e. all (eqb-true _ 0 e)) (λ e. same (eqb-false _ 0 e))

  module _ (up : count_in table m.0 ≤ count) (fits : count ≤ largest_number) (left : s.top.0 < largest_number) where
    pub numbered_typed : Typed (with_message s m count payload)
    unfolding with_message
    numbered_typed =
        record {
          group = typed.group;
          top = omega arith;
          accepted = accepted_each (λ a. a ≤ largest_number) (λ e. omega arith) (λ e. typed.accepted);
          table = length-set table m.0 entry ∙ typed.table;
          history = length-set s.history (place_of (s.top.0 + 1)) (message_of m count payload) ∙ typed.history;
          counts = λ i. counted_each table m count (repeat_count s m) inside (λ j a. a.count ≤ largest_number) i (λ q. fits) (λ q. typed.counts i);
          repeats = λ i. counted_each table m count (repeat_count s m) inside (λ j a. a.repeats ≤ largest_number) i (λ q. typed.repeats m.0) (λ q. typed.repeats i);
          marks = typed.marks;
          masks = typed.masks;
        }

    pub numbered_sound : 1 ≤ count → length payload ≤ payload_most → s.top.0 < s.floor.0 + places_most → Sound (with_message s m count payload)
    unfolding with_message message_of
    numbered_sound least short room =
        record {
          n_least = sound.n_least;
          n_most = sound.n_most;
          resilient = sound.resilient;
          within = sound.within;
          elected_in = sound.elected_in;
          floor_is = floor_same s.group.survivors table' table (length-set table m.0 entry) (counted_taken table m count (repeat_count s m) inside) ∙ sound.floor_is;
          floor_le = accepted_each (λ a. s.floor.0 ≤ a) (λ e. let h = sound.floor_le in let k = sound.accepted_le in omega arith) (λ e. sound.floor_le);
          accepted_le = accepted_each (λ a. a ≤ s.top.0 + 1) (λ e. le_refl _) (λ e. let h = sound.accepted_le in omega arith);
          window = omega arith;
          taken_le = λ i h. let z = counted_taken table m count (repeat_count s m) inside i in let y = sound.taken_le i h in omega arith;
          lost = λ i h.
              counted_each table m count (repeat_count s m) inside (λ j a. Lost a) i
              (λ q. let l = sound.lost m.0 (rw q at h) in record { taken = l.taken; repeats = l.repeats }) (λ q. sound.lost i h);
          unused = λ i h. counted_each table m count (repeat_count s m) inside (λ j a. a ≡ no_acknowledgement) i (λ q. absurd (omega arith)) (λ q. sound.unused i h);
          kept = λ k a b.
              eq_or k (s.top.0 + 1) (λ q. rw (q, kept_here) fresh)
              (λ q. rw (kept_other room k a (omega arith) q) (kept_under s.group.n table table' (message_at s.history k) (counted_up table m count (repeat_count s m) inside up _) (sound.kept k a (omega arith))));
          empty = λ k a b. ap is_empty (kept_other room k (omega arith) b (omega arith)) ∙ sound.empty k (omega arith) b;
          marks_in = λ k a b.
              eq_or k (s.top.0 + 1)
              (λ q. rw (q, sound.marks_above (s.top.0 + 1) (omega arith) (omega arith)) refl)
              (λ q. sound.marks_in k (accepted_each (λ c. c < k → s.accepted.0 < k) (λ e c. absurd (omega arith)) (λ e c. c) a) (omega arith));
          marks_below = λ k a b.
              accepted_each (λ c. k ≤ c → mark_at s.marks k ≡ 0)
              (λ e c. le_or k s.accepted.0 (sound.marks_below k a)
              (λ h. le_or k s.top.0
              (λ l. sym (sound.marks_in k h l) ∙ ap (bit_and (mark_at s.marks k)) (expected_none s.group e) ∙ and_zero_r (mark_at s.marks k))
              (λ l. sound.marks_above k l (omega arith))))
              (λ e c. sound.marks_below k a c) b;
          marks_above = λ k a b. sound.marks_above k (omega arith) b;
        }
      where
        fresh : KeptFacts s.group.n table' (message_of m count payload)
        fresh =
            record {
              originator = member;
              count_least = least;
              count_most = let z = counted_same table m count (repeat_count s m) inside in omega arith;
              short = short;
              zeros = kept_zero m count payload;
            }
