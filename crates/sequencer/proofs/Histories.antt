-- The invariant of demand 3 holds of a fresh sequencer, and noting, repeating and numbering keep it; and a number of the
-- history has the broadcast of the order's message. Assumes nothing.
use mathlib.Core.Path.{◌≡◌, refl, sym, ap, ◌∙◌}
use mathlib.Core.Logic.{◌⊎◌, inl, inr}
use mathlib.Core.Bool.{true}
use mathlib.Core.Option.{Option, some}
use mathlib.Core.List.{List, [], ◌∷◌, ◌++◌}
use Prim.Native.Nat.{ℕ, suc, ◌+◌, ◌^◌, ◌≤◌, ◌<◌}
use native.Mathlib.Nat.{le_trans}
use native.Mathlib.Omega.{arith}
use borrow.Author.Tests.{le-leb}
use lib.Pow.{pow_pos}
use lib.ListN.{length, get_or, length-append, get_or-replicate, get_or-eq_default}
use Rattle.group.proofs.Members.{Standing, survivor_lt, others_count}
use Rattle.group.proofs.Lists.{at, at_le, at_nil, at_snoc, at_some, eq_or, le_or}
use Rattle.group.specs.Choice.{◌≤?◌}
use Rattle.group.specs.Members.{is_in, expected_of, needed_of}
use Rattle.group.specs.Limits.{members_most, places_most, payload_most, largest_number}
use Rattle.group.specs.declared.Group.{Group}
use Rattle.group.specs.declared.MemberNumber.{MemberNumber}
use Rattle.group.specs.declared.SequenceNumber.{SequenceNumber}
use Rattle.message.proofs.Kept.{kept_payload, empty_zero}
use Rattle.message.specs.Message.{message_of, empty_message, blank, is_empty}
use Rattle.message.proofs.Owning.{own_more, own_other}
use Rattle.message.specs.Order.{Ordered, own_of}
use Rattle.packet.proofs.Facts.{Voice, Facts, Says, Known, ordered}
use Rattle.packet.specs.Laws.{Allowed}
use Rattle.packet.specs.Packet.{fields_of, packet_of}
use Rattle.packet.specs.declared.Packet.{Packet}
use Rattle.history.proofs.Counting.{counted_each, counted_same, counted_up}
use Rattle.history.proofs.Noting.{cleared_other}
use Rattle.history.proofs.Soundness.{count_in, floor_most}
use Rattle.history.specs.Marks.{mark_at}
use Rattle.history.specs.State.{floor_of, Acknowledgement, no_acknowledgement, message_at, place_of}
use Rattle.sequencer.specs.Calls.{announced, broadcast_of, repeated_of, with_message, with_mark, with_accepted}
use Rattle.sequencer.specs.Note.{with_table, note_of}
use Rattle.sequencer.specs.State.{Sequencer, repeat_count, fresh_sequencer}
use Rattle.sequencer.proofs.Invariant.{SequencerInv, Confirmed, facts_of}
use Rattle.sequencer.proofs.Confirming.{mark_typed, mark_sound_lem, accept_typed, accept_sound}
use Rattle.sequencer.proofs.Keeping.{repeated_count, repeated_typed, repeated_sound}
use Rattle.sequencer.proofs.Noting.{noted_count, floor_up, note_typed, note_sound}
use Rattle.sequencer.proofs.Numbering.{kept_here, kept_other, accepted_each, numbered_typed, numbered_sound}
use Rattle.sequencer.proofs.Packets.{announced_each, broadcast_allowed}
use Rattle.sequencer.proofs.Soundness.{Sound, sound_of_lem, of_sound}

module _ (group : Group) (order : List Ordered) (s : Sequencer) (v : SequencerInv group s order) where
  sound : Sound s
  sound = sound_of_lem s v.sound

  -- a member of the group has an entry
  pub member_inside : {m : ℕ} → m < group.n → m < length s.acknowledgements
  member_inside h = let n : s.group.n ≡ group.n = ap (λ (g : Group). g.n) v.group_is in let f = sound.n_most in let l = v.typed.table in omega arith

  -- a member of the group and a number that it can have taken
  module _ (m : MemberNumber) (taken : SequenceNumber) (member : m.0 < group.n) (survives : is_in group.survivors m.0 ≡ true) (known : taken.0 ≤ s.accepted.0) where
    pub note_inv : SequencerInv group (note_of s m taken) order
    unfolding note_of with_table
    note_inv =
        let f = sound in
        let member' : m.0 < s.group.n = rw v.group_is member in
        let up = floor_up s m taken v.typed.table f member' in
        record {
          group_is = v.group_is;
          typed = note_typed s m taken v.typed.table f member' known (rw v.group_is survives) v.typed;
          sound = of_sound (note_of s m taken) (note_sound s m taken v.typed.table f member' known (rw v.group_is survives) v.typed.history);
          top_is = v.top_is;
          history_is = λ k x e h.
              let l = at_le order k e in
              let t = v.top_is in
              let w = f.window in
              cleared_other s.history s.floor.0 _ k (omega arith) (omega arith) ∙ v.history_is k x e (omega arith);
          number_is = v.number_is;
          originator_ok = v.originator_ok;
          count_least = v.count_least;
          count_most = λ k x e. rw (noted_count s m taken v.typed.table f member' x.originator) (v.count_most k x e);
          payload_ok = v.payload_ok;
          counts_are = λ i h. noted_count s m taken v.typed.table f member' i ∙ v.counts_are i h;
          plain = v.plain;
        }

  pub repeated_inv : (m : MemberNumber) → m.0 < group.n → is_in group.survivors m.0 ≡ true → SequencerInv group (repeated_of s m) order
  unfolding repeated_of
  repeated_inv m member survives =
      let member' : m.0 < s.group.n = rw v.group_is member in
      let count = repeated_count s v.typed sound m member' in
      record {
        group_is = v.group_is;
        typed = repeated_typed s v.typed sound m member';
        sound = of_sound (repeated_of s m) (repeated_sound s v.typed sound m member' (rw v.group_is survives));
        top_is = v.top_is;
        history_is = v.history_is;
        number_is = v.number_is;
        originator_ok = v.originator_ok;
        count_least = v.count_least;
        count_most = λ k x e. rw (count x.originator) (v.count_most k x e);
        payload_ok = v.payload_ok;
        counts_are = λ i h. count i ∙ v.counts_are i h;
        plain = v.plain;
      }

  -- marks are set, and an unaccepted number is accepted
  pub mark_inv : (m : MemberNumber) (number : SequenceNumber) → m.0 < group.n → s.accepted.0 < number.0 → number.0 ≤ s.top.0
      → is_in (expected_of s.group) m.0 ≡ true → SequencerInv group (with_mark s m number) order
  unfolding with_mark
  mark_inv m number member above below expected =
      let member' : m.0 < s.group.n = rw v.group_is member in
      record {
        group_is = v.group_is;
        typed = mark_typed s v.typed sound m number member' above below;
        sound = of_sound (with_mark s m number) (mark_sound_lem s v.typed sound m number member' above below expected);
        top_is = v.top_is;
        history_is = v.history_is;
        number_is = v.number_is;
        originator_ok = v.originator_ok;
        count_least = v.count_least;
        count_most = v.count_most;
        payload_ok = v.payload_ok;
        counts_are = v.counts_are;
        plain = v.plain;
      }

  pub accept_inv : (number : ℕ) → s.accepted.0 < number → number ≤ s.top.0 → SequencerInv group (with_accepted s number) order
  unfolding with_accepted
  accept_inv number above below =
      record {
        group_is = v.group_is;
        typed = accept_typed s v.typed sound number above below;
        sound = of_sound (with_accepted s number) (accept_sound s v.typed sound number above below);
        top_is = v.top_is;
        history_is = v.history_is;
        number_is = v.number_is;
        originator_ok = v.originator_ok;
        count_least = v.count_least;
        count_most = v.count_most;
        payload_ok = v.payload_ok;
        counts_are = v.counts_are;
        plain = λ e. let z = v.plain e in absurd (omega arith);
      }

  -- a message of a member with the count after its last, where a place and a number are left
  module _ (m : MemberNumber) (count : ℕ) (payload : List ℕ) (member : m.0 < group.n) (next : count ≡ count_in s.acknowledgements m.0 + 1)
      (most : count ≤ largest_number) (short : length payload ≤ payload_most) (room : s.top.0 < s.floor.0 + places_most) (left : s.top.0 < largest_number) where
    abbrev message : Ordered
    message = ordered (s.top.0 + 1) m.0 count payload

    -- what the order has with the message: what it had, or the message
    abbrev Had : ℕ → Ordered → Type 0
    Had k x = (at order k ≡ some x) ⊎ ((k ≡ suc (length order)) × (message ≡ x))

    pub numbered_inv : SequencerInv group (with_message s m count payload) (order ++ (message ∷ []))
    unfolding with_message
    numbered_inv =
        let f = sound in
        let typed = v.typed in
        let member' : m.0 < s.group.n = rw v.group_is member in
        let up : count_in s.acknowledgements m.0 ≤ count = omega arith in
        record {
          group_is = v.group_is;
          typed = numbered_typed s m count payload typed f member' up most left;
          sound = of_sound (with_message s m count payload) (numbered_sound s m count payload typed f member' up most left (omega arith) short room);
          top_is = let t = v.top_is in simp length-append (omega arith);
          history_is = λ k x e h. history k x h (at_snoc order message k e);
          number_is = λ k x e. number k x (at_snoc order message k e);
          originator_ok = λ k x e. originator k x (at_snoc order message k e);
          count_least = λ k x e. least k x (at_snoc order message k e);
          count_most = λ k x e. counted k x (at_snoc order message k e);
          payload_ok = λ k x e. size k x (at_snoc order message k e);
          counts_are = λ i h.
              counted_each s.acknowledgements m count (repeat_count s m) inside (λ j a. a.count ≡ length (own_of j (order ++ (message ∷ [])))) i
              (λ q. rw q own)
              (λ q. v.counts_are i h ∙ ap length (sym (own_other i order message (λ w. q (sym w)))));
          plain = λ e. accepted_each s m count payload typed f member' (λ a. a ≡ s.top.0 + 1) (λ q. refl) (λ q. absurd (q (rw v.group_is e)));
        }
      where
        inside : m.0 < length s.acknowledgements
        inside = member_inside member

        own : count ≡ length (own_of m.0 (order ++ (message ∷ [])))
        own = let z = own_more order message in let y = v.counts_are m.0 member in omega arith

        history : (k : ℕ) (x : Ordered) → s.floor.0 < k → Had k x
            → message_at (with_message s m count payload).history k ≡ message_of (record { 0 = x.originator }) x.count x.payload
        history k x h (inl e) =
            let l = at_le order k e in
            let t = v.top_is in
            kept_other s m count payload v.typed sound (rw v.group_is member) room k h (let w = sound.window in omega arith) (omega arith) ∙ v.history_is k x e h
        history k x h (inr e) =
            let z : k ≡ s.top.0 + 1 = (let w = e.0 in let t = v.top_is in omega arith) in
            rw (z, ← e.1) (kept_here s m count payload v.typed sound (rw v.group_is member))

        number : (k : ℕ) (x : Ordered) → Had k x → x.number ≡ k
        number k x (inl e) = v.number_is k x e
        number k x (inr e) = rw (← e.1) (let w = e.0 in let t = v.top_is in omega arith)

        originator : (k : ℕ) (x : Ordered) → Had k x → x.originator < group.n
        originator k x (inl e) = v.originator_ok k x e
        originator k x (inr e) = rw (← e.1) member

        least : (k : ℕ) (x : Ordered) → Had k x → 1 ≤ x.count
        least k x (inl e) = v.count_least k x e
        least k x (inr e) = rw (← e.1) (omega arith)

        counted : (k : ℕ) (x : Ordered) → Had k x → x.count ≤ count_in (with_message s m count payload).acknowledgements x.originator
        counted k x (inl e) = le_trans (v.count_most k x e) (counted_up s.acknowledgements m count (repeat_count s m) inside (omega arith) x.originator)
        counted k x (inr e) = rw (← e.1) (let z = counted_same s.acknowledgements m count (repeat_count s m) inside in omega arith)

        size : (k : ℕ) (x : Ordered) → Had k x → length x.payload ≤ payload_most
        size k x (inl e) = v.payload_ok k x e
        size k x (inr e) = rw (← e.1) short

  -- the packet of a number of the history is that of the order's message
  module _ (k : ℕ) (m : Ordered) (e : at order k ≡ some m) (above : s.floor.0 < k) where
    abbrev broadcast : Packet
    broadcast = announced s.accepted (record { 0 = m.originator }) (record { 0 = k }) m.count s.floor

    pub broadcast_is : broadcast_of s k ≡ packet_of (fields_of group.number broadcast) m.payload
    unfolding broadcast_of message_of
    broadcast_is = rw (v.group_is, v.history_is k m e above, kept_payload (record { 0 = m.originator }) m.count m.payload)

    pub broadcast_may : Allowed (fields_of group.number broadcast) m.payload
    unfolding message_of
    broadcast_may =
        let l = at_le order k e in
        let t = v.top_is in
        rw (v.group_is, v.history_is k m e above, kept_payload (record { 0 = m.originator }) m.count m.payload) at
        (broadcast_allowed s v.typed sound k above (omega arith))

  pub broadcast_known : (voice : ℕ → Voice) (k : ℕ) → s.floor.0 < k → k ≤ length order
      → Known group.number (facts_of group order s.accepted.0 voice) (broadcast_of s k)
  broadcast_known voice k above below =
      let found = at_some order k (omega arith) below in
      let m : Ordered = found.0 in
      let originator : MemberNumber = record { 0 = m.originator } in
      let number : SequenceNumber = record { 0 = k } in
      let facts : Facts = facts_of group order s.accepted.0 voice in
      let this : at order k ≡ some (ordered k m.originator m.count m.payload) =
      found.1
      ∙ ap {B = Option Ordered} some
      (λ i. record { number = v.number_is k m found.1 i; originator = m.originator; count = m.count; payload = m.payload }) in
      record {
        content = announced s.accepted originator number m.count s.floor;
        payload = m.payload;
        bytes_are = broadcast_is k m found.1 above;
        allowed = broadcast_may k m found.1 above;
        says =
            announced_each (λ (p : Packet). Says facts p m.payload) s.accepted originator number m.count s.floor
            (λ h. (this, h))
            (λ h. (this, eq_or (needed_of group) 0 (λ e. let z = v.plain e in let t = v.top_is in absurd (omega arith)) (λ e. omega arith)));
      }

-- nothing was numbered in a fresh state
module _ (group : Group) (standing : Standing group) (fits : group.number ≤ largest_number) where
  abbrev opened : Sequencer
  opened = fresh_sequencer group

  fresh_entry : (i : ℕ) → get_or opened.acknowledgements i no_acknowledgement ≡ no_acknowledgement
  unfolding fresh_sequencer
  fresh_entry i =
      le_or members_most i (λ h. get_or-eq_default opened.acknowledgements no_acknowledgement {n = i} h)
      (λ h. get_or-replicate members_most i no_acknowledgement no_acknowledgement h)

  fresh_place : (k : ℕ) → message_at opened.history k ≡ empty_message
  unfolding fresh_sequencer
  fresh_place k = get_or-replicate places_most (place_of k) empty_message blank (omega arith)

  fresh_mark : (k : ℕ) → mark_at opened.marks k ≡ 0
  unfolding fresh_sequencer
  fresh_mark k = get_or-replicate places_most (place_of k) 0 0 (omega arith)

  fresh_mask : (i : ℕ) → get_or opened.marks i 0 < 2 ^ members_most
  unfolding fresh_sequencer
  fresh_mask i =
      le_or places_most i (λ h. rw (get_or-eq_default opened.marks 0 {n = i} h) (pow_pos members_most))
      (λ h. rw (get_or-replicate {A = ℕ} places_most i 0 0 h) (pow_pos members_most))

  fresh_floor : floor_of group.survivors opened.acknowledgements ≡ 0
  unfolding fresh_sequencer
  fresh_floor =
      let e = group.elected.0 in
      let l = survivor_lt group standing e standing.elected_in in
      let m = standing.n_most in
      let t = ap (λ (a : Acknowledgement). a.taken.0) (fresh_entry e) in
      let z = floor_most group.survivors opened.acknowledgements e standing.elected_in (omega arith) in
      omega arith

  fresh_sound : Sound opened
  unfolding fresh_sequencer
  fresh_sound =
      record {
        n_least = standing.n_least;
        n_most = standing.n_most;
        resilient = standing.resilient;
        within = standing.within;
        elected_in = standing.elected_in;
        floor_is = fresh_floor;
        floor_le = omega arith;
        accepted_le = omega arith;
        window = omega arith;
        taken_le = λ i h. let z = ap (λ (a : Acknowledgement). a.taken.0) (fresh_entry i) in omega arith;
        lost = λ i h. rw (fresh_entry i) (record { taken = refl; repeats = refl });
        unused = λ i h. fresh_entry i;
        kept = λ k a b. absurd (omega arith);
        empty = λ k a b. ap is_empty (fresh_place k) ∙ empty_zero;
        marks_in = λ k a b. absurd (omega arith);
        marks_below = λ k a b. fresh_mark k;
        marks_above = λ k a b. fresh_mark k;
      }

  pub fresh_inv : SequencerInv group opened []
  unfolding fresh_sequencer own_of
  fresh_inv =
      record {
        group_is = refl;
        typed =
            record {
              group = fits;
              top = omega arith;
              accepted = omega arith;
              table = refl;
              history = refl;
              counts = λ i. let z = ap (λ (a : Acknowledgement). a.count) (fresh_entry i) in omega arith;
              repeats = λ i. let z = ap (λ (a : Acknowledgement). a.repeats) (fresh_entry i) in omega arith;
              marks = refl;
              masks = fresh_mask;
            };
        sound = of_sound opened fresh_sound;
        top_is = refl;
        history_is = λ k m e h. absurd (at_nil k e);
        number_is = λ k m e. absurd (at_nil k e);
        originator_ok = λ k m e. absurd (at_nil k e);
        count_least = λ k m e. absurd (at_nil k e);
        count_most = λ k m e. absurd (at_nil k e);
        payload_ok = λ k m e. absurd (at_nil k e);
        counts_are = λ i h. ap (λ (a : Acknowledgement). a.count) (fresh_entry i);
        plain = λ e. refl;
      }

  -- everybody has what is accepted
  pub fresh_confirmed : (reach : ℕ → ℕ) → Confirmed group opened reach
  unfolding fresh_sequencer
  fresh_confirmed reach =
      record {
        marked = λ k i a b e. absurd (omega arith);
        enough = others_count group standing (λ i. 0 ≤? reach i) (λ i. le-leb 0 (reach i) (omega arith));
      }
