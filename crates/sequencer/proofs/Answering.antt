-- What each answer of the sequencer owes the group: one that numbers nothing leaves the order, and Numbered adds the next
-- submission of its originator. Assumes nothing.
use mathlib.Core.Path.{◌≡◌, refl, sym, ap, ◌∙◌}
use mathlib.Core.Logic.{◌≢◌}
use mathlib.Core.Bool.{true}
use mathlib.Core.Option.{some}
use mathlib.Core.List.{List, [], ◌∷◌, ◌++◌, append-nil}
use Prim.Native.Nat.{ℕ, suc, ◌+◌, ◌-◌, ◌≤◌, ◌<◌}
use native.Mathlib.Nat.{le_trans}
use native.Mathlib.Omega.{arith}
use borrow.Author.Tests.{ltb-false, leb-false, eqb-false}
use lib.Count.{ones}
use lib.ListN.{length, length-append}
use Rattle.group.proofs.Lists.{when_elim, eq_or, at, at_le, at_last, All}
use Rattle.group.specs.Choice.{◌<?◌, ◌≤?◌, ◌=?◌}
use Rattle.group.proofs.Counting as counting
use Rattle.group.proofs.Members.{in_zero, none_expected}
use Rattle.group.specs.Members.{is_in, expected_of, needed_of}
use Rattle.group.specs.Limits.{places_most, payload_most, largest_number}
use Rattle.group.specs.declared.Group.{Group}
use Rattle.group.specs.declared.MemberNumber.{MemberNumber}
use Rattle.group.specs.declared.SequenceNumber.{SequenceNumber}
use Rattle.message.proofs.Owning.{Owns, own_next, own_still}
use Rattle.message.specs.Order.{Ordered}
use Rattle.packet.proofs.Facts.{Voice, Facts, Known, ordered}
use Rattle.packet.proofs.RoundTrip.{header_back, payload_back}
use Rattle.packet.specs.Packet.{fields_of, written}
use Rattle.packet.specs.declared.Packet.TheVariants.{Poll, Accept}
use Rattle.history.proofs.Counting.{counted_each}
use Rattle.history.proofs.Finding.{found_in}
use Rattle.history.proofs.Marks.{enough_in_lem}
use Rattle.history.specs.Marks.{mark_at}
use Rattle.history.proofs.Soundness.{taken_in, count_in}
use Rattle.history.specs.Note.{larger_of}
use Rattle.history.specs.Repeat.{find_of}
use Rattle.sequencer.specs.Calls.{Outcome, answered, broadcast_of, poll_packet, repeated_of, old_of, again_of, full_of, with_message, numbered_of, request_of, gap_of, accept_packet, with_mark, with_accepted, enough_in, settled_of, confirm_of}
use Rattle.sequencer.specs.Note.{with_table, note_of}
use Rattle.sequencer.specs.Order.{numbered_by}
use Rattle.sequencer.specs.State.{Sequencer, last_count, repeat_count}
use Rattle.sequencer.specs.declared.Answer.{Answer}
use Rattle.sequencer.specs.declared.Answer.TheVariants.{Old, Again, Full, Numbered, Noted, Wanted, Marked}
use Rattle.sequencer.proofs.Histories.{member_inside, note_inv, repeated_inv, numbered_inv, mark_inv, accept_inv, broadcast_is, broadcast_may, broadcast_known}
use Rattle.sequencer.proofs.Invariant.{SequencerInv, SequencerGood, Confirmed, reaches, facts_of}
use Rattle.sequencer.proofs.Confirming.{mark_confirmed, accept_confirmed}
use Rattle.sequencer.proofs.Keeping.{repeated_taken}
use Rattle.sequencer.proofs.Noting.{noted_most}
use Rattle.sequencer.proofs.Numbering.{accepted_each}
use Rattle.sequencer.proofs.Packets.{announced_fields, poll_allowed, accept_allowed}
use Rattle.sequencer.proofs.Soundness.{Sound, sound_of_lem}

-- the order of the group, the last number that was accepted before the call, and what the terminals can say of themselves
module _ (group : Group) (order : List Ordered) (before : ℕ) (voice : ℕ → Voice) where
  abbrev pub Good : Outcome → Type 0
  Good o = SequencerGood group order before voice (written o.bytes) o

  -- what packets can speak of after a step that numbers nothing and leaves s
  abbrev pub Facts' : Sequencer → Facts
  Facts' s = facts_of group order s.accepted.0 voice

  -- a state with its invariant, and its part of the group's
  pub record Ready (s : Sequencer) : Type 0 where
    pub inv : SequencerInv group s order
    pub acked : (i : ℕ) → i < group.n → taken_in s.acknowledgements i ≤ (voice i).row
    pub owns : (i : ℕ) → i < group.n → Owns i order (voice i).submitted
    pub confirmed : Confirmed group s (λ i. (voice i).reach)
    pub up : before ≤ s.accepted.0

  -- what is known of the bytes that a call wrote is known of its packets
  packets_known : (f : Facts) (bytes : List ℕ) → Known group.number f bytes → All (Known group.number f) (written bytes)
  unfolding written
  packets_known f [] k = tt
  packets_known f (b ∷ rest) k = (k, tt)

  -- a step that numbers nothing
  module _ (s : Sequencer) (r : Ready s) where
    settled : (answer : Answer) (bytes : List ℕ) → numbered_by answer bytes ≡ [] → All (Known group.number (Facts' s)) (written bytes)
        → Good (record { sequencer = s; answer = answer; bytes = bytes })
    settled answer bytes e known =
        let z : order ++ numbered_by answer bytes ≡ order = ap (λ (l : List Ordered). order ++ l) e ∙ append-nil order in
        record {
          inv = rw z r.inv;
          acknowledged = r.acked;
          own = λ i h. rw z (r.owns i h);
          confirmed = r.confirmed;
          up = r.up;
          known = rw z known;
        }

    pub silent : (answer : Answer) → numbered_by answer [] ≡ [] → Good (answered s answer)
    unfolding answered written
    silent answer e = settled answer [] e tt

    pub writing : (answer : Answer) (bytes : List ℕ) → numbered_by answer bytes ≡ [] → Known group.number (Facts' s) bytes
        → Good (record { sequencer = s; answer = answer; bytes = bytes })
    writing answer bytes e k = settled answer bytes e (packets_known (Facts' s) bytes k)

  module _ (s : Sequencer) (r : Ready s) where
    sound : Sound s
    sound = sound_of_lem s r.inv.sound

    repeated_ready : (m : MemberNumber) → m.0 < group.n → is_in group.survivors m.0 ≡ true → Ready (repeated_of s m)
    unfolding repeated_of
    repeated_ready m member survives =
        let taken = repeated_taken s r.inv.typed sound m (rw r.inv.group_is member) in
        record {
          inv = repeated_inv group order s r.inv m member survives;
          acked = λ i h. rw (taken i) (r.acked i h);
          owns = r.owns;
          confirmed = record { marked = r.confirmed.marked; enough = r.confirmed.enough };
          up = r.up;
        }

    pub note_ready : (m : MemberNumber) (taken : SequenceNumber) → m.0 < group.n → is_in group.survivors m.0 ≡ true → taken.0 ≤ (voice m.0).row → (voice m.0).row ≤ s.accepted.0
        → Ready (note_of s m taken)
    unfolding note_of with_table
    note_ready m taken member survives known below =
        let v = r.inv in
        let member' : m.0 < s.group.n = rw v.group_is member in
        record {
          inv = note_inv group order s v m taken member survives (le_trans known below);
          acked = rw v.group_is at (noted_most s m taken v.typed.table sound member' (λ i. (voice i).row) (rw v.group_is r.acked) known);
          owns = r.owns;
          confirmed = record { marked = r.confirmed.marked; enough = r.confirmed.enough };
          up = r.up;
        }

    pub poll_known : Known group.number (Facts' s) (poll_packet s)
    unfolding poll_packet
    poll_known =
        record {
          content = Poll group.elected s.top s.floor;
          payload = [];
          bytes_are = rw r.inv.group_is;
          allowed = rw r.inv.group_is at (poll_allowed s r.inv.typed sound);
          says = tt;
        }

    pub copy_known : (k : ℕ) → s.floor.0 < k → k ≤ s.top.0 → Known group.number (Facts' s) (broadcast_of s k)
    copy_known k a b = broadcast_known group order s r.inv voice k a (rw r.inv.top_is at b)

    -- a message that is numbered
    module _ (m : MemberNumber) (count : ℕ) (payload : List ℕ) (member : m.0 < group.n) (submission : at (voice m.0).submitted count ≡ some payload)
        (next : count ≡ count_in s.acknowledgements m.0 + 1) (most : count ≤ largest_number) (short : length payload ≤ payload_most)
        (room : s.top.0 < s.floor.0 + places_most) (left : s.top.0 < largest_number) where
      abbrev message : Ordered
      message = ordered (s.top.0 + 1) m.0 count payload

      abbrev order' : List Ordered
      order' = order ++ (message ∷ [])

      abbrev s' : Sequencer
      s' = with_message s m count payload

      inv' : SequencerInv group s' order'
      inv' = numbered_inv group order s r.inv m count payload member next most short room left

      above : s.floor.0 < s.top.0 + 1
      above = let f = sound.floor_le in let e = sound.accepted_le in omega arith

      -- the broadcast says the message that was numbered
      numbered_by_lem : numbered_by (Numbered (record { 0 = s.top.0 + 1 })) (broadcast_of s' (s.top.0 + 1)) ≡ message ∷ []
      unfolding numbered_by with_message fields_of
      numbered_by_lem =
          let k : s.top.0 + 1 ≡ suc (length order) = (let z = r.inv.top_is in omega arith) in
          let e : at order' (s.top.0 + 1) ≡ some message = ap (λ (j : ℕ). at order' j) k ∙ at_last order message in
          let b = broadcast_is group order' s' inv' (s.top.0 + 1) message e above in
          let a = broadcast_may group order' s' inv' (s.top.0 + 1) message e above in
          let f = announced_fields group.number s'.accepted m (record { 0 = s.top.0 + 1 }) count s.floor in
          rw (b, header_back _ payload a.0, payload_back _ payload, f.0, f.2)

      own_numbered : Owns m.0 order' (voice m.0).submitted
      own_numbered =
          own_next order (voice m.0).submitted message (next ∙ ap (λ (k : ℕ). k + 1) (r.inv.counts_are m.0 member)) submission (r.owns m.0 member)

      -- the new number has no mark; where none has to confirm, none is needed
      numbered_confirmed : Confirmed group s' (λ i. (voice i).reach)
      unfolding with_message
      numbered_confirmed =
          let member' : m.0 < s.group.n = rw r.inv.group_is member in
          let accepted' = accepted_each s m count payload r.inv.typed sound member' in
          record {
            marked = λ k i a b e.
                eq_or k (s.top.0 + 1)
                (λ q. absurd (in_zero i (rw (q, sound.marks_above (s.top.0 + 1) (omega arith) (omega arith)) at e)))
                (λ q. r.confirmed.marked k i (accepted' (λ c. c < k → s.accepted.0 < k) (λ x c. absurd (omega arith)) (λ x c. c) a) (omega arith) e);
            enough =
                accepted' (λ a. needed_of group ≤ counting.count group.n (reaches group (λ i. (voice i).reach) a))
                (λ e. let z : needed_of group ≡ 0 = rw (← r.inv.group_is) e in omega arith)
                (λ e. r.confirmed.enough);
          }

      numbered_good : Good (numbered_of s m count payload)
      unfolding numbered_of with_message
      numbered_good =
          let v = r.inv in
          let z = ap (λ (l : List Ordered). order ++ l) numbered_by_lem in
          let l : s.top.0 + 1 ≤ length order' = (let e = v.top_is in simp length-append (omega arith)) in
          let each = counted_each s.acknowledgements m count (repeat_count s m) (member_inside group order s v member) in
          let member' : m.0 < s.group.n = rw v.group_is member in
          let accepted' = accepted_each s m count payload v.typed sound member' in
          record {
            inv = rw z inv';
            acknowledged = λ i h. each (λ j a. a.taken.0 ≤ (voice j).row) i (λ q. rw q (r.acked m.0 member)) (λ q. r.acked i h);
            own = λ i h.
                rw z (eq_or i m.0 (λ q. rw q own_numbered) (λ q. own_still i order (voice i).submitted message (λ w. q (sym w)) (r.owns i h)));
            confirmed = numbered_confirmed;
            up = accepted' (λ a. before ≤ a) (λ e. let x = r.up in let y = sound.accepted_le in omega arith) (λ e. r.up);
            known =
                rw z
                (packets_known (facts_of group order' s'.accepted.0 voice) (broadcast_of s' (s.top.0 + 1)) (broadcast_known group order' s' inv' voice (s.top.0 + 1) above l));
          }

  module _ (s : Sequencer) (r : Ready s) where
    again_good : (m : MemberNumber) → m.0 < group.n → is_in group.survivors m.0 ≡ true → (number : ℕ) → (number ≢ 0 → (s.floor.0 < number) × (number ≤ s.floor.0 + (s.top.0 - s.floor.0))) → Good (again_of s m number)
    unfolding again_of old_of repeated_of numbered_by
    again_good m member survives number found =
        when_elim Good (number =? 0) (λ c. silent (repeated_of s m) (repeated_ready s r m member survives) Old refl)
        (λ c.
        let f = found (eqb-false number 0 c) in
        let g = (sound s r).floor_le in
        let h = (sound s r).accepted_le in
        writing (repeated_of s m) (repeated_ready s r m member survives) (Again (record { 0 = number })) (broadcast_of s number) refl (copy_known s r number f.0 (omega arith)))

    -- a request, once A is noted
    pub request_good : (m : MemberNumber) (count : ℕ) (payload : List ℕ) → m.0 < group.n → is_in group.survivors m.0 ≡ true → at (voice m.0).submitted count ≡ some payload
        → length (voice m.0).submitted ≤ largest_number → length payload ≤ payload_most
        → count ≤ last_count s m + 1 → (last_count s m < count → s.top.0 < largest_number) → Good (request_of s m count payload)
    unfolding request_of old_of full_of numbered_by
    request_good m count payload member survives submission sizes short next left =
        let wide = s.top.0 - s.floor.0 in
        when_elim Good (count <? last_count s m) (λ a. silent (repeated_of s m) (repeated_ready s r m member survives) Old refl)
        (λ a. when_elim Good (count =? last_count s m)
        (λ b. again_good m member survives (find_of s.history m count s.floor.0 wide) (found_in s.history m count s.floor.0 wide))
        (λ b. when_elim Good (wide =? places_most) (λ c. writing s r Full (poll_packet s) refl (poll_known s r))
        (λ c.
        let p = ltb-false count (last_count s m) a in
        let q = eqb-false count (last_count s m) b in
        let d = eqb-false wide places_most c in
        let w = (sound s r).window in
        let l = at_le (voice m.0).submitted count submission in
        let room : s.top.0 < s.floor.0 + places_most = omega arith in
        let next : count ≡ count_in s.acknowledgements m.0 + 1 = omega arith in
        let most : count ≤ largest_number = omega arith in
        numbered_good s r m count payload member submission next most short room (left (omega arith)))))

    pub gap_good : (first last : SequenceNumber) → Good (gap_of s first last)
    unfolding gap_of numbered_by
    gap_good first last =
        when_elim Good (last.0 ≤? s.floor.0) (λ a. silent s r Noted refl)
        (λ a. silent s r (Wanted (record { 0 = larger_of first.0 (s.floor.0 + 1) }) last) refl)

    -- an unaccepted number with enough marks is accepted
    accepts_good : 1 ≤ needed_of group → (number : ℕ) → s.accepted.0 < number → number ≤ s.top.0 → needed_of s.group ≤ ones (mark_at s.marks number)
        → Good (record { sequencer = with_accepted s number; answer = Answer.Accepted; bytes = accept_packet (with_accepted s number) })
    unfolding with_accepted accept_packet numbered_by
    accepts_good some-needed number above below marks =
        let v = r.inv in
        let s' : Sequencer = with_accepted s number in
        let v' = accept_inv group order s v number above below in
        let r' : Ready s' =
        record {
          inv = v';
          acked = r.acked;
          owns = r.owns;
          confirmed = accept_confirmed s v.typed (sound s r) number above below group v.group_is (λ i. (voice i).reach) marks r.confirmed;
          up = (let u = r.up in omega arith);
        } in
        writing s' r' Answer.Accepted (accept_packet s') refl
        (record {
          content = Accept group.elected s'.accepted;
          payload = [];
          bytes_are = rw v.group_is;
          allowed = rw v.group_is at (accept_allowed s' v'.typed (sound_of_lem s' v'.sound) (omega arith));
          says = (omega arith, some-needed);
        })

    accept_good : 1 ≤ needed_of group → Good (settled_of s (enough_in s))
    unfolding settled_of numbered_by
    accept_good some-needed =
        when_elim Good (enough_in s =? 0) (λ t. silent s r Marked refl)
        (λ t.
        let z = enough_in_lem s.marks (needed_of s.group) s.accepted.0 (s.top.0 - s.accepted.0) (eqb-false (enough_in s) 0 t) in
        let f = (sound s r).accepted_le in
        accepts_good some-needed (enough_in s) z.0 (let a = z.1 in omega arith) z.2)

  pub confirm_good : (s : Sequencer) → Ready s → (m : MemberNumber) (number : SequenceNumber) → m.0 < group.n → number.0 ≤ s.top.0 → number.0 ≤ (voice m.0).reach
      → (s.accepted.0 < number.0 → is_in (expected_of s.group) m.0 ≡ true) → Good (confirm_of s m number)
  unfolding confirm_of with_mark numbered_by
  confirm_good s r m number member below has expected =
      when_elim Good (number.0 ≤? s.accepted.0) (λ t. silent s r Old refl)
      (λ t.
      let above = leb-false number.0 s.accepted.0 t in
      let v = r.inv in
      let f = sound s r in
      let member' : m.0 < s.group.n = rw v.group_is member in
      accept_good (with_mark s m number)
      (record {
        inv = mark_inv group order s v m number member above below (expected above);
        acked = r.acked;
        owns = r.owns;
        confirmed = mark_confirmed s v.typed f m number member' above below group (λ i. (voice i).reach) has r.confirmed;
        up = r.up;
      })
      (rw v.group_is at (none_expected s.group m.0 (expected above))))
