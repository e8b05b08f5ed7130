-- A confirmation keeps a state sound, and the marks it sets stand where their members' reach goes, so that as many as have to confirm
-- have what it accepts: the ones of a mark are counted. Assumes nothing.
use mathlib.Core.Path.{◌≡◌, ◌∙◌, subst}
use mathlib.Core.Logic.{◌⊎◌, inl, inr}
use mathlib.Core.Bool.{true}
use mathlib.Core.List.{List}
use Prim.Native.Nat.{ℕ, ◌+◌, ◌-◌, ◌≤◌, ◌<◌}
use native.Mathlib.Nat.{le_trans}
use native.Mathlib.Omega.{arith}
use borrow.Author.Tests.{le-leb, leb-true, eqb-true, eqb-false}
use lib.Bits.{bit_or}
use lib.Count.{ones}
use Rattle.group.proofs.Choice.{both_hold, both_first, both_then}
use Rattle.group.proofs.Counting.{count, count_within, count_mono, ones_count}
use Rattle.group.proofs.Lists.{when_elim, le_or}
use Rattle.group.specs.Choice.{◌≤?◌, ◌=?◌}
use Rattle.group.proofs.Members.{in_or, in_only, within_in, more_within, others_in, expected_others, survivor_lt}
use Rattle.group.specs.Limits.{members_most, places_most}
use Rattle.group.specs.Members.{is_in, only_of, others_of, expected_of, needed_of}
use Rattle.group.specs.declared.Group.{Group}
use Rattle.group.specs.declared.MemberNumber.{MemberNumber}
use Rattle.group.specs.declared.SequenceNumber.{SequenceNumber}
use Rattle.history.proofs.Marks.{marked_length, marked_other, marked_at, marked_lt, unmarked_length, unmarked_other, unmarked_at, unmarked_lt, enough_in_lem, enough_highest}
use Rattle.history.specs.Marks.{mark_at, marked_of, unmarked_of}
use Rattle.sequencer.specs.Calls.{Outcome, answered, with_mark, with_accepted, enough_in, settled_of, confirm_of}
use Rattle.sequencer.specs.Laws.{Typed, FewMarks}
use Rattle.sequencer.specs.State.{Sequencer}
use Rattle.sequencer.proofs.Invariant.{Confirmed, reaches}
use Rattle.sequencer.proofs.Soundness.{stands, Sound, sound_of_lem}

-- an expected member confirms an unaccepted number
module _ (s : Sequencer) (typed : Typed s) (sound : Sound s) (m : MemberNumber) (number : SequenceNumber)
    (member : m.0 < s.group.n) (above : s.accepted.0 < number.0) (below : number.0 ≤ s.top.0) where
  abbrev marks' : List ℕ
  marks' = marked_of s.marks m s.accepted.0 (number.0 - s.accepted.0)

  pub mark_typed : Typed (with_mark s m number)
  unfolding with_mark
  mark_typed =
      record {
        group = typed.group;
        top = typed.top;
        accepted = typed.accepted;
        table = typed.table;
        history = typed.history;
        counts = typed.counts;
        repeats = typed.repeats;
        marks = marked_length s.marks m s.accepted.0 (number.0 - s.accepted.0) ∙ typed.marks;
        masks = marked_lt s.marks m s.accepted.0 (let n = sound.n_most in omega arith) typed.masks (number.0 - s.accepted.0);
      }

  -- the numbers up to A have the member's mark, the others theirs
  mark_in : (k : ℕ) → s.accepted.0 < k → k ≤ number.0 → mark_at marks' k ≡ bit_or (mark_at s.marks k) (only_of m)
  mark_in k a b =
      let w = sound.window in
      let f = sound.floor_le in
      marked_at s.marks m s.accepted.0 typed.marks (number.0 - s.accepted.0) k (omega arith) a (omega arith)

  mark_out : (k : ℕ) → s.floor.0 < k → k ≤ s.floor.0 + places_most → (k ≤ s.accepted.0) ⊎ (number.0 < k) → mark_at marks' k ≡ mark_at s.marks k
  mark_out k a b c =
      let w = sound.window in
      marked_other s.marks m s.accepted.0 s.floor.0 (number.0 - s.accepted.0) k
      (record { low = sound.floor_le; high = omega arith; least = a; most = b; apart = apart c })
    where
      apart : (k ≤ s.accepted.0) ⊎ (number.0 < k) → (k ≤ s.accepted.0) ⊎ (s.accepted.0 + (number.0 - s.accepted.0) < k)
      apart (inl h) = inl h
      apart (inr h) = inr (omega arith)

  pub mark_sound_lem : is_in (expected_of s.group) m.0 ≡ true → Sound (with_mark s m number)
  unfolding with_mark
  mark_sound_lem expected =
      let f = sound.floor_le in
      let w = sound.window in
      record {
        n_least = sound.n_least;
        n_most = sound.n_most;
        resilient = sound.resilient;
        within = sound.within;
        elected_in = sound.elected_in;
        floor_is = sound.floor_is;
        floor_le = sound.floor_le;
        accepted_le = sound.accepted_le;
        window = sound.window;
        taken_le = sound.taken_le;
        lost = sound.lost;
        unused = sound.unused;
        kept = sound.kept;
        empty = sound.empty;
        marks_in = λ k a b.
            le_or k number.0
            (λ h. rw (mark_in k a h) (more_within (mark_at s.marks k) m.0 (expected_of s.group) (sound.marks_in k a b) expected))
            (λ h. rw (mark_out k (omega arith) (omega arith) (inr h)) (sound.marks_in k a b));
        marks_below = λ k a b. mark_out k a (omega arith) (inl b) ∙ sound.marks_below k a b;
        marks_above = λ k a b. mark_out k (omega arith) b (inr (omega arith)) ∙ sound.marks_above k a b;
      }

  pub mark_confirmed : (group : Group) (reach : ℕ → ℕ) → number.0 ≤ reach m.0 → Confirmed group s reach → Confirmed group (with_mark s m number) reach
  unfolding with_mark
  mark_confirmed group reach has c =
      record {
        marked = λ k i a b e.
            le_or k number.0
            (λ h. go k i a b h (in_or (mark_at s.marks k) (only_of m) i (rw (mark_in k a h) at e)))
            (λ h. c.marked k i a b
            (rw (mark_out k (let f = sound.floor_le in omega arith) (let w = sound.window in omega arith) (inr h)) at e));
        enough = c.enough;
      }
    where
      go : (k i : ℕ) → s.accepted.0 < k → k ≤ s.top.0 → k ≤ number.0 → (is_in (mark_at s.marks k) i ≡ true) ⊎ (is_in (only_of m) i ≡ true) → k ≤ reach i
      go k i a b h (inl e) = c.marked k i a b e
      go k i a b h (inr e) = rw (in_only m.0 i e) (le_trans h has)

-- all up to an unaccepted number are accepted
module _ (s : Sequencer) (typed : Typed s) (sound : Sound s) (number : ℕ) (above : s.accepted.0 < number) (below : number ≤ s.top.0) where
  abbrev marks'' : List ℕ
  marks'' = unmarked_of s.marks s.accepted.0 (number - s.accepted.0)

  pub accept_typed : Typed (with_accepted s number)
  unfolding with_accepted
  accept_typed =
      record {
        group = typed.group;
        top = typed.top;
        accepted = (let t = typed.top in omega arith);
        table = typed.table;
        history = typed.history;
        counts = typed.counts;
        repeats = typed.repeats;
        marks = unmarked_length s.marks s.accepted.0 (number - s.accepted.0) ∙ typed.marks;
        masks = unmarked_lt s.marks s.accepted.0 typed.masks (number - s.accepted.0);
      }

  cleared_out : (k : ℕ) → s.floor.0 < k → k ≤ s.floor.0 + places_most → (k ≤ s.accepted.0) ⊎ (number < k) → mark_at marks'' k ≡ mark_at s.marks k
  cleared_out k a b c =
      let w = sound.window in
      unmarked_other s.marks s.accepted.0 s.floor.0 (number - s.accepted.0) k
      (record { low = sound.floor_le; high = omega arith; least = a; most = b; apart = apart c })
    where
      apart : (k ≤ s.accepted.0) ⊎ (number < k) → (k ≤ s.accepted.0) ⊎ (s.accepted.0 + (number - s.accepted.0) < k)
      apart (inl h) = inl h
      apart (inr h) = inr (omega arith)

  pub accept_sound : Sound (with_accepted s number)
  unfolding with_accepted
  accept_sound =
      let f = sound.floor_le in
      let w = sound.window in
      record {
        n_least = sound.n_least;
        n_most = sound.n_most;
        resilient = sound.resilient;
        within = sound.within;
        elected_in = sound.elected_in;
        floor_is = sound.floor_is;
        floor_le = omega arith;
        accepted_le = below;
        window = sound.window;
        taken_le = sound.taken_le;
        lost = sound.lost;
        unused = sound.unused;
        kept = sound.kept;
        empty = sound.empty;
        marks_in = λ k a b. rw (cleared_out k (omega arith) (omega arith) (inr a)) (sound.marks_in k (omega arith) b);
        marks_below = λ k a b.
            le_or k s.accepted.0 (λ h. cleared_out k a (omega arith) (inl h) ∙ sound.marks_below k a h)
            (λ h. unmarked_at s.marks s.accepted.0 typed.marks (number - s.accepted.0) k (omega arith) h (omega arith));
        marks_above = λ k a b. cleared_out k (omega arith) b (inr (omega arith)) ∙ sound.marks_above k a b;
      }

  -- who marked it has it
  pub accept_confirmed : (group : Group) → s.group ≡ group → (reach : ℕ → ℕ) → needed_of s.group ≤ ones (mark_at s.marks number) → Confirmed group s reach
      → Confirmed group (with_accepted s number) reach
  unfolding with_accepted
  accept_confirmed group e reach enough c =
      let needed : needed_of group ≤ ones (mark_at s.marks number) = subst (λ (g : Group). needed_of g ≤ ones (mark_at s.marks number)) e enough in
      let mark = mark_at s.marks number in
      let counted = ones_count members_most mark (typed.masks _) in
      let within : count members_most (is_in mark) ≤ count group.n (reaches group reach number) =
      count_within members_most group.n (is_in mark) (reaches group reach number)
      (λ i h.
      let x = expected_others s.group (stands s sound) i (within_in mark (expected_of s.group) i (sound.marks_in number above below) h) in
      let y : is_in (others_of group) i ≡ true = rw (← e) x in (
        subst (λ (g : Group). i < g.n) e (survivor_lt s.group (stands s sound) i (others_in s.group (stands s sound) i x).0),
        both_hold _ _ y (le-leb number (reach i) (c.marked number i above below h)),
      )) in
      record {
        marked = λ k i a b h.
            c.marked k i (omega arith) b
            (rw (cleared_out k (let f = sound.floor_le in omega arith) (let w = sound.window in omega arith) (inr a)) at h);
        enough = omega arith;
      }

-- a reach that grows confirms as much
pub confirmed_up : (group : Group) (s : Sequencer) (reach reach' : ℕ → ℕ) → ((i : ℕ) → reach i ≤ reach' i) → Confirmed group s reach → Confirmed group s reach'
confirmed_up group s reach reach' up c =
    record {
      marked = λ k i a b e. le_trans (c.marked k i a b e) (up i);
      enough =
          le_trans c.enough
          (count_mono group.n (reaches group reach s.accepted.0) (reaches group reach' s.accepted.0)
          (λ i b e.
          both_hold _ _ (both_first (is_in (others_of group) i) _ e)
          (le-leb s.accepted.0 (reach' i) (le_trans (leb-true s.accepted.0 (reach i) (both_then (is_in (others_of group) i) _ e)) (up i)))));
    }

left_few : (s : Sequencer) → Typed s → (sound : Sound s) → (number : ℕ) → s.accepted.0 < number → number ≤ s.top.0 → (k : ℕ)
    → (number < k → s.accepted.0 < k → k ≤ s.accepted.0 + (s.top.0 - s.accepted.0) → ones (mark_at s.marks k) < needed_of s.group)
    → (with_accepted s number).accepted.0 < k → k ≤ (with_accepted s number).top.0 → ones (mark_at (with_accepted s number).marks k) < needed_of s.group
unfolding with_accepted
left_few s typed sound number above below k few a b =
    let f = sound.floor_le in
    let w = sound.window in
    rw (cleared_out s typed sound number above below k (omega arith) (omega arith) (inr a)) (few a (omega arith) (omega arith))

-- what is left unaccepted has too few marks
few_accepted : (s : Sequencer) → Typed s → Sound s → (k : ℕ) → let o = settled_of s (enough_in s) in
    o.sequencer.accepted.0 < k → k ≤ o.sequencer.top.0 → ones (mark_at o.sequencer.marks k) < needed_of s.group
unfolding settled_of answered
few_accepted s typed sound k =
    when_elim (λ (o : Outcome). o.sequencer.accepted.0 < k → k ≤ o.sequencer.top.0 → ones (mark_at o.sequencer.marks k) < needed_of s.group) (enough_in s =? 0)
    (λ t a b. enough_highest s.marks (needed_of s.group) s.accepted.0 (s.top.0 - s.accepted.0) k (let z = eqb-true (enough_in s) 0 t in omega arith) a (omega arith))
    (λ t. let z = enough_in_lem s.marks (needed_of s.group) s.accepted.0 (s.top.0 - s.accepted.0) (eqb-false (enough_in s) 0 t) in
    let h = sound.accepted_le in
    left_few s typed sound (enough_in s) z.0 (let y = z.1 in omega arith) k
    (enough_highest s.marks (needed_of s.group) s.accepted.0 (s.top.0 - s.accepted.0) k))

pub few_marks : FewMarks
unfolding confirm_of with_mark
few_marks s m number typed sound member expected above below k =
    let f = sound_of_lem s sound in
    when_elim (λ (o : Outcome). o.sequencer.accepted.0 < k → k ≤ o.sequencer.top.0 → ones (mark_at o.sequencer.marks k) < needed_of s.group) (number.0 ≤? s.accepted.0)
    (λ t. let z = leb-true number.0 s.accepted.0 t in absurd (omega arith))
    (λ t. few_accepted (with_mark s m number) (mark_typed s typed f m number member above below) (mark_sound_lem s typed f m number member above below expected) k)
