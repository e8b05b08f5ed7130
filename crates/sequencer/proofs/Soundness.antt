-- What soundness of a state says, fact by fact, and the state is sound where all of them hold: each test by its own law, each
-- fold by what it says of an entry. Assumes nothing.
use mathlib.Core.Path.{◌≡◌, refl, ap, ◌∙◌}
use mathlib.Core.Bool.{Bool, true, false}
use Prim.Native.Nat.{ℕ, ◌+◌, ◌-◌, ◌≤◌, ◌<◌}
use lib.Bits.{bit_and}
use native.Mathlib.Omega.{arith}
use borrow.Author.Tests.{leb-true, leb-false, le-leb, lt-leb}
use lib.ListN.{length, get_or, get_or-eq_default}
use Rattle.group.proofs.Choice.{when_true, when_false, both_hold, both_first, both_then, says, tests}
use Rattle.group.proofs.Fold.{all_at, at_all, above_each, above_all}
use Rattle.group.proofs.Lists.{when_elim, le_or}
use Rattle.group.proofs.Members.{Standing, standing_of, of_standing, survivor_lt}
use Rattle.group.specs.Choice.{◌≤?◌}
use Rattle.group.specs.Fold.{all, all_above}
use Rattle.group.specs.Limits.{members_most, places_most}
use Rattle.group.specs.Members.{is_in, all_of, expected_of, group_sound}
use Rattle.group.specs.declared.Group.{Group}
use Rattle.message.specs.Message.{is_empty}
use Rattle.history.proofs.Marks.{mark_inside, mark_below, mark_above, mark_sound_lem}
use Rattle.history.proofs.Soundness.{taken_in, KeptFacts, kept_facts, facts_kept, Lost, entry_used, entry_lost, entry_unused, entry_sound_lem}
use Rattle.history.specs.Marks.{mark_at, mark_sound}
use Rattle.history.specs.Sound.{entry_sound, place_sound, frame_sound}
use Rattle.history.specs.State.{Acknowledgement, no_acknowledgement, message_at, floor_of}
use Rattle.sequencer.specs.Sound.{sound_of}
use Rattle.sequencer.specs.State.{Sequencer}

-- the facts of a sound state
pub record Sound (s : Sequencer) : Type 0 where
  pub n_least : 1 ≤ s.group.n
  pub n_most : s.group.n ≤ members_most
  pub resilient : s.group.resilience < s.group.n
  pub within : bit_and s.group.survivors (all_of s.group.n) ≡ s.group.survivors
  pub elected_in : is_in s.group.survivors s.group.elected.0 ≡ true
  pub floor_is : floor_of s.group.survivors s.acknowledgements ≡ s.floor.0
  pub floor_le : s.floor.0 ≤ s.accepted.0
  pub accepted_le : s.accepted.0 ≤ s.top.0
  pub window : s.top.0 ≤ s.floor.0 + places_most
  pub taken_le : (i : ℕ) → i < s.group.n → taken_in s.acknowledgements i ≤ s.top.0
  pub lost : (i : ℕ) → is_in s.group.survivors i ≡ false → Lost (get_or s.acknowledgements i no_acknowledgement)
  pub unused : (i : ℕ) → s.group.n ≤ i → get_or s.acknowledgements i no_acknowledgement ≡ no_acknowledgement
  pub kept : (k : ℕ) → s.floor.0 < k → k ≤ s.top.0 → KeptFacts s.group.n s.acknowledgements (message_at s.history k)
  pub empty : (k : ℕ) → s.top.0 < k → k ≤ s.floor.0 + places_most → is_empty (message_at s.history k) ≡ true
  pub marks_in : (k : ℕ) → s.accepted.0 < k → k ≤ s.top.0 → bit_and (mark_at s.marks k) (expected_of s.group) ≡ mark_at s.marks k
  pub marks_below : (k : ℕ) → s.floor.0 < k → k ≤ s.accepted.0 → mark_at s.marks k ≡ 0
  pub marks_above : (k : ℕ) → s.top.0 < k → k ≤ s.floor.0 + places_most → mark_at s.marks k ≡ 0

-- its group's description is sound
pub stands : (s : Sequencer) → Sound s → Standing s.group
stands s f = record { n_least = f.n_least; n_most = f.n_most; resilient = f.resilient; within = f.within; elected_in = f.elected_in }

-- who is no member is no survivor
out_of : (group : Group) → Standing group → (i : ℕ) → group.n ≤ i → is_in group.survivors i ≡ false
out_of group f i h = go (is_in group.survivors i) refl
  where
    go : (b : Bool) → is_in group.survivors i ≡ b → b ≡ false
    go true e = absurd (let z = survivor_lt group f i e in omega arith)
    go false e = refl

module _ (s : Sequencer) where
  pub sound_of_lem : sound_of s ≡ true → Sound s
  unfolding sound_of frame_sound place_sound
  sound_of_lem e =
      let n = s.group.n in
      let table = s.acknowledgements in
      let expected = expected_of s.group in
      let accepted = s.accepted.0 in
      let top = s.top.0 in
      let frame = both_first (frame_sound s.group table s.floor.0 accepted top) _ e in
      let rest = both_then (frame_sound s.group table s.floor.0 accepted top) _ e in
      let entries = both_first (all (entry_sound s.group top) 0 table) _ rest in
      let behind = both_then (all (entry_sound s.group top) 0 table) _ rest in
      let places = both_first (all_above (place_sound n table s.history top) s.floor.0 places_most) _ behind in
      let masks = both_then (all_above (place_sound n table s.history top) s.floor.0 places_most) _ behind in
      let entry = all_at (entry_sound s.group s.top.0) no_acknowledgement table entries in
      let place = above_each (place_sound n table s.history s.top.0) s.floor.0 places_most places in
      let mark = above_each (mark_sound expected s.marks accepted top) s.floor.0 places_most masks in
      let stand = standing_of s.group (both_first (group_sound s.group) _ frame) in
      let low : s.floor.0 ≤ accepted = search says depth 9 in
      let high : accepted ≤ top = search says depth 9 in
      let wide : s.top.0 - s.floor.0 ≤ places_most = search says depth 9 in
      record {
        n_least = stand.n_least;
        n_most = stand.n_most;
        resilient = stand.resilient;
        within = stand.within;
        elected_in = stand.elected_in;
        floor_is = search says depth 9;
        floor_le = low;
        accepted_le = high;
        window = omega arith;
        taken_le = λ i h.
            le_or (length table) i (λ l. let z = ap (λ (x : Acknowledgement). x.taken.0) (get_or-eq_default table no_acknowledgement l) in omega arith)
            (λ l. entry_used s.group s.top.0 i (get_or table i no_acknowledgement) (entry i l));
        lost = λ i h.
            le_or (length table) i (λ l. rw (get_or-eq_default table no_acknowledgement {n = i} l) (record { taken = refl; repeats = refl }))
            (λ l. entry_lost s.group s.top.0 i (get_or table i no_acknowledgement) h (entry i l));
        unused = λ i h.
            le_or (length table) i (λ l. get_or-eq_default table no_acknowledgement l)
            (λ l. entry_unused s.group s.top.0 i (get_or table i no_acknowledgement) (out_of s.group stand i h) h (entry i l));
        kept = λ k a b.
            kept_facts n table (message_at s.history k) (when_true (k ≤? s.top.0) _ _ _ (le-leb k s.top.0 b) refl ∙ place k a (omega arith));
        empty = λ k a b. when_false (k ≤? s.top.0) _ _ _ (lt-leb k s.top.0 a) refl ∙ place k (omega arith) b;
        marks_in = λ k a b. mark_inside expected s.marks accepted top k a b (mark k (omega arith) (omega arith));
        marks_below = λ k a b. mark_below expected s.marks accepted top k b (mark k a (omega arith));
        marks_above = λ k a b. mark_above expected s.marks accepted top k a (mark k (omega arith) b);
      }

  pub of_sound : Sound s → sound_of s ≡ true
  unfolding sound_of frame_sound place_sound
  of_sound f =
      let n = s.group.n in
      let table = s.acknowledgements in
      let low = f.floor_le in
      let high = f.accepted_le in
      let w = f.window in
      let wide : s.top.0 - s.floor.0 ≤ places_most = omega arith in
      let entry-most : (i : ℕ) → taken_in table i ≤ s.top.0 =
      λ i. le_or n i (λ h. let z = ap (λ (x : Acknowledgement). x.taken.0) (f.unused i h) in omega arith) (λ h. f.taken_le i h) in
      both_hold (frame_sound s.group table s.floor.0 s.accepted.0 s.top.0) _
      (both_hold (group_sound s.group) _ (of_standing s.group (stands s f)) (search tests depth 12))
      (both_hold (all (entry_sound s.group s.top.0) 0 table) _
      (at_all (entry_sound s.group s.top.0) no_acknowledgement table (λ i h. entry_sound_lem s.group s.top.0 i (get_or table i no_acknowledgement) (entry-most i) (f.lost i) (f.unused i)))
      (both_hold (all_above (place_sound n table s.history s.top.0) s.floor.0 places_most) _
      (above_all (place_sound n table s.history s.top.0) s.floor.0 places_most
      (λ k a b. when_elim (λ (x : Bool). x ≡ true) (k ≤? s.top.0)
      (λ t. facts_kept n table (message_at s.history k) (f.kept k a (leb-true k s.top.0 t)))
      (λ t. f.empty k (leb-false k s.top.0 t) b)))
      (above_all (mark_sound (expected_of s.group) s.marks s.accepted.0 s.top.0) s.floor.0 places_most
      (λ k a b. mark_sound_lem (expected_of s.group) s.marks s.accepted.0 s.top.0 k (f.marks_in k) (λ c. f.marks_below k a c) (λ c. f.marks_above k c b)))))
