-- Noting an acknowledgement keeps a state sound, and moves floor up, at most to top: what floor passes is cleared, and every
-- number above the new floor keeps its place. Assumes nothing.
use mathlib.Core.Path.{◌≡◌, refl, sym, ap, ◌∙◌}
use mathlib.Core.Logic.{◌≢◌}
use mathlib.Core.Bool.{true, false≢true}
use mathlib.Core.List.{List}
use Prim.Native.Nat.{ℕ, ◌+◌, ◌-◌, ◌≤◌, ◌<◌}
use native.Mathlib.Nat.{le_refl, le_trans, le_antisymm}
use native.Mathlib.Omega.{arith}
use lib.ListN.{length, get_or, length-set}
use Rattle.group.proofs.Lists.{le_or, set_each}
use Rattle.group.specs.Limits.{members_most, places_most, largest_number}
use Rattle.group.specs.Members.{is_in}
use Rattle.group.specs.declared.MemberNumber.{MemberNumber}
use Rattle.group.specs.declared.SequenceNumber.{SequenceNumber}
use Rattle.message.proofs.Kept.{empty_zero}
use Rattle.message.specs.Message.{is_empty}
use Rattle.history.proofs.Soundness.{taken_in, count_in, Lost, kept_under, floor_most, floor_least, floor_first, floor_same}
use Rattle.history.specs.Note.{with_taken, table_noted}
use Rattle.history.specs.State.{Acknowledgement, no_acknowledgement, acknowledgement_of, message_at, place_of, floor_of}
use Rattle.history.proofs.Noting.{larger_least, larger_new, larger_most, cleared_length, cleared_other, cleared_empty}
use Rattle.sequencer.specs.Laws.{Typed}
use Rattle.sequencer.specs.Note.{with_table, note_of}
use Rattle.sequencer.specs.State.{Sequencer}
use Rattle.sequencer.proofs.Soundness.{Sound}

module _ (s : Sequencer) (m : MemberNumber) (taken : SequenceNumber) (long : length s.acknowledgements ≡ members_most) (sound : Sound s) (member : m.0 < s.group.n) where
  abbrev table : List Acknowledgement
  table = s.acknowledgements

  abbrev table' : List Acknowledgement
  table' = table_noted s.acknowledgements m taken

  pub noted_length : length table' ≡ members_most
  unfolding table_noted
  noted_length = length-set table m.0 (with_taken (acknowledgement_of table m) taken) ∙ long

  -- an entry is the member's, with the larger number, or as it was
  pub noted_each : (P : ℕ → Acknowledgement → Type 0) (i : ℕ) → (i ≡ m.0 → P i (with_taken (acknowledgement_of table m) taken))
      → (i ≢ m.0 → P i (get_or table i no_acknowledgement)) → P i (get_or table' i no_acknowledgement)
  unfolding table_noted
  noted_each P i same other =
      set_each P table m.0 (with_taken (acknowledgement_of table m) taken) no_acknowledgement i same other (omega arith)

  pub noted_count : (i : ℕ) → count_in table' i ≡ count_in table i
  noted_count i = noted_each (λ j a. a.count ≡ count_in table j) i (λ q. rw q) (λ q. refl)

  pub noted_least : (i : ℕ) → taken_in table i ≤ taken_in table' i
  noted_least i = noted_each (λ j a. taken_in table j ≤ a.taken.0) i (λ q. rw q (larger_least (taken_in table m.0) taken.0)) (λ q. le_refl (taken_in table i))

  pub noted_own : taken.0 ≤ taken_in table' m.0
  noted_own = noted_each (λ j a. taken.0 ≤ a.taken.0) m.0 (λ q. larger_new (taken_in table m.0) taken.0) (λ q. absurd (q refl))

  pub noted_other : (i : ℕ) → i ≢ m.0 → taken_in table' i ≡ taken_in table i
  noted_other i other = noted_each (λ j a. a.taken.0 ≡ taken_in table j) i (λ q. absurd (other q)) (λ q. refl)

  pub noted_most : (t : ℕ → ℕ) → ((i : ℕ) → i < s.group.n → taken_in table i ≤ t i) → taken.0 ≤ t m.0 → (i : ℕ) → i < s.group.n → taken_in table' i ≤ t i
  noted_most t old new i h =
      noted_each (λ j a. a.taken.0 ≤ t j) i (λ q. rw q (larger_most (taken_in table m.0) taken.0 (t m.0) (old m.0 member) new)) (λ q. old i h)

  pub floor_up : s.floor.0 ≤ floor_of s.group.survivors table'
  floor_up =
      let first = floor_first s.group.survivors table in
      let is = sound.floor_is in
      floor_least s.group.survivors table' s.floor.0 (omega arith)
      (λ i h k.
      let l = noted_length in
      let a = floor_most s.group.survivors table i h (omega arith) in
      let b = noted_least i in
      omega arith)

  module _ (known : taken.0 ≤ s.accepted.0) (survives : is_in s.group.survivors m.0 ≡ true) where
    -- the new floor is accepted: the member's entry is, or it stays as it was, and with it the floor
    pub floor_down : floor_of s.group.survivors table' ≤ s.accepted.0
    floor_down =
        let l = noted_length in
        let low = sound.floor_le in
        let is = sound.floor_is in
        le_or (taken_in table m.0) s.accepted.0
        (λ h. le_trans (floor_most s.group.survivors table' m.0 survives (omega arith))
        (noted_each (λ j a. a.taken.0 ≤ s.accepted.0) m.0 (λ q. larger_most (taken_in table m.0) taken.0 s.accepted.0 h known) (λ q. absurd (q refl))))
        (λ h. let z = floor_same s.group.survivors table' table (noted_length ∙ sym long)
        (λ i. noted_each (λ j a. a.taken.0 ≡ taken_in table j) i
        (λ q. rw q (le_antisymm (larger_most (taken_in table m.0) taken.0 (taken_in table m.0) (le_refl _) (omega arith)) (larger_least (taken_in table m.0) taken.0)))
        (λ q. refl)) in
        omega arith)

    pub note_typed : Typed s → Typed (note_of s m taken)
    unfolding note_of with_table
    note_typed typed =
        record {
          group = typed.group;
          top = typed.top;
          accepted = typed.accepted;
          table = noted_length;
          history = cleared_length s.history s.floor.0 (floor_of s.group.survivors table' - s.floor.0) ∙ typed.history;
          counts = λ i. rw (noted_count i) (typed.counts i);
          repeats = λ i. noted_each (λ j a. a.repeats ≤ largest_number) i (λ q. typed.repeats m.0) (λ q. typed.repeats i);
          marks = typed.marks;
          masks = typed.masks;
        }

    pub note_sound : length s.history ≡ places_most → Sound (note_of s m taken)
    unfolding note_of with_table
    note_sound places =
        let up = floor_up in
        let down = floor_down in
        let floor' = floor_of s.group.survivors table' in
        let k' = floor' - s.floor.0 in
        record {
          n_least = sound.n_least;
          n_most = sound.n_most;
          resilient = sound.resilient;
          within = sound.within;
          elected_in = sound.elected_in;
          floor_is = refl;
          floor_le = down;
          accepted_le = sound.accepted_le;
          window = let w = sound.window in omega arith;
          taken_le = noted_most (λ i. s.top.0) sound.taken_le (let h = sound.accepted_le in omega arith);
          lost = λ i h. noted_each (λ j a. Lost a) i (λ q. absurd (false≢true (sym h ∙ rw q survives))) (λ q. sound.lost i h);
          unused = λ i h. noted_each (λ j a. a ≡ no_acknowledgement) i (λ q. absurd (omega arith)) (λ q. sound.unused i h);
          kept = λ k a b.
              rw (cleared_other s.history s.floor.0 k' k (omega arith) (let w = sound.window in omega arith))
              (let z = noted_count (message_at s.history k).originator.0 in kept_under s.group.n table table' (message_at s.history k) (omega arith) (sound.kept k (omega arith) b));
          empty = λ k a b.
              le_or k (s.floor.0 + places_most)
              (λ h. ap is_empty (cleared_other s.history s.floor.0 k' k (omega arith) h) ∙ sound.empty k a h)
              (λ h.
              let e = cleared_empty s.history s.floor.0 places k' k (k - places_most) (omega arith) (omega arith) (omega arith) in
              ap is_empty e ∙ empty_zero);
          marks_in = sound.marks_in;
          marks_below = λ k a b. sound.marks_below k (omega arith) b;
          marks_above = λ k a b.
              le_or k (s.floor.0 + places_most) (λ h. sound.marks_above k a h)
              (λ h. let e : place_of k ≡ place_of (k - places_most) = omega arith in
              ap (λ (i : ℕ). get_or s.marks i 0) e ∙ sound.marks_below (k - places_most) (omega arith) (omega arith));
        }
