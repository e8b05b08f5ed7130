-- Each step of a sound sequencer leaves a sound state that its types can hold, and writes nothing or a packet that reading
-- accepts: the step's text, with a proof for each way that a choice goes. Assumes nothing.
use Rattle.group.specs.Question.{all_yes}
use Rattle.std.specs.Prelude.{Ok}
use mathlib.Core.Path.{◌≡◌, refl, sym, ◌∙◌}
use mathlib.Core.Logic.{◌≢◌, ◌⊎◌, inl, inr}
use mathlib.Core.Bool.{true, false≢true}
use mathlib.Core.List.{List, []}
use Prim.Native.Nat.{ℕ, ◌+◌, ◌-◌, ◌≤◌, ◌<◌}
use native.Mathlib.Omega.{arith}
use borrow.Author.Tests.{ltb-false, leb-false, eqb-false}
use lib.ListN.{length, get_or, set, length-set}
use Rattle.group.proofs.Choice.{says}
use Rattle.group.proofs.Lists.{when_elim, judged_elim}
use Rattle.group.specs.Choice.{when◌then◌else◌, ◌<?◌, ◌≤?◌, ◌=?◌}
use Rattle.group.specs.Limits.{places_most, payload_most, largest_number}
use Rattle.group.specs.Members.{is_in, expected_of, needed_of}
use Rattle.group.specs.declared.MemberNumber.{MemberNumber}
use Rattle.group.specs.declared.Refusal.{Refusal}
use Rattle.group.specs.declared.Refusal.TheVariants.{OtherEnd}
use Rattle.group.specs.declared.SequenceNumber.{SequenceNumber}
use Rattle.packet.proofs.Laws.{read_written}
use Rattle.packet.specs.Packet.{obeys, read_of, fields_of}
use Rattle.packet.specs.declared.Header.{Header}
use Rattle.packet.specs.declared.Packet.{Packet}
use Rattle.packet.specs.declared.Packet.TheVariants.{Request, Broadcast, Gap, Status, Poll, Offer, Confirm, Accept, Invitation, Result}
use Rattle.history.proofs.Finding.{found_in}
use Rattle.history.specs.Ask.{sender_verdict, count_verdict, wanted_verdict, expected_verdict}
use Rattle.history.specs.Note.{larger_of, with_counts}
use Rattle.history.specs.Repeat.{one_more, find_of}
use Rattle.history.specs.State.{Acknowledgement, no_acknowledgement, acknowledgement_of, message_at}
use Rattle.history.proofs.Asking.{sender_was, count_was, expected_was}
use Rattle.history.proofs.Counting.{counted_each, counted_taken}
use Rattle.history.proofs.Marks.{enough_in_lem}
use Rattle.history.proofs.Repeating.{more_most}
use Rattle.history.proofs.Soundness.{Lost, taken_in, count_in, kept_under, floor_same}
use Rattle.sequencer.specs.Calls.{Outcome, answered, refused, broadcast_of, poll_packet, repeated_of, old_of, again_of, full_of, numbered_of, with_message, request_of, gap_of, accept_packet, with_mark, with_accepted, enough_in, settled_of, confirm_of, content_step}
use Rattle.sequencer.specs.Laws.{Typed}
use Rattle.sequencer.specs.Note.{with_table, note_of}
use Rattle.sequencer.specs.State.{Sequencer, last_count, repeat_count}
use Rattle.sequencer.specs.declared.Answer.{Answer}
use Rattle.sequencer.specs.declared.Answer.TheVariants.{Old, Noted, Wanted, Marked}
use Rattle.sequencer.proofs.Confirming.{mark_typed, mark_sound_lem, accept_typed, accept_sound}
use Rattle.sequencer.proofs.Noting.{noted_count, note_typed, note_sound}
use Rattle.sequencer.proofs.Numbering.{numbered_typed, numbered_sound}
use Rattle.sequencer.proofs.Packets.{broadcast_allowed, poll_allowed, accept_allowed}
use Rattle.group.proofs.Members.{survivor_lt}
use Rattle.sequencer.proofs.Soundness.{stands, Sound}

-- what a step leaves
pub record Stays (o : Outcome) : Type 0 where
  pub typed : Typed o.sequencer
  pub sound : Sound o.sequencer
  pub bytes : (o.bytes ≡ []) ⊎ ((h : Header) × (read_of o.bytes ≡ Ok h))

module _ (s : Sequencer) (typed : Typed s) (sound : Sound s) where
  pub answered_stays : (answer : Answer) → Stays (answered s answer)
  unfolding answered
  answered_stays answer = record { typed = typed; sound = sound; bytes = inl refl }

  -- a member that repeated itself: its acknowledgement and its count stay
  module _ (m : MemberNumber) (member : m.0 < s.group.n) where
    abbrev table : List Acknowledgement
    table = s.acknowledgements

    abbrev entry : Acknowledgement
    entry = with_counts (acknowledgement_of s.acknowledgements m) (last_count s m) (one_more (repeat_count s m))

    abbrev table' : List Acknowledgement
    table' = set table m.0 entry

    repeated_each : (P : ℕ → Acknowledgement → Type 0) (i : ℕ) → (i ≡ m.0 → P i entry)
        → (i ≢ m.0 → P i (get_or table i no_acknowledgement)) → P i (get_or table' i no_acknowledgement)
    repeated_each = counted_each table m (last_count s m) (one_more (repeat_count s m)) (omega arith)

    pub repeated_taken : (i : ℕ) → taken_in table' i ≡ taken_in table i
    repeated_taken = counted_taken table m (last_count s m) (one_more (repeat_count s m)) (omega arith)

    pub repeated_count : (i : ℕ) → count_in table' i ≡ count_in table i
    repeated_count i = repeated_each (λ j a. a.count ≡ count_in table j) i (λ q. rw q) (λ q. refl)

    pub repeated_typed : Typed (repeated_of s m)
    unfolding repeated_of
    repeated_typed =
        record {
          group = typed.group;
          top = typed.top;
          accepted = typed.accepted;
          table = length-set table m.0 entry ∙ typed.table;
          history = typed.history;
          counts = λ i. rw (repeated_count i) (typed.counts i);
          repeats = λ i. repeated_each (λ j a. a.repeats ≤ largest_number) i (λ q. more_most (repeat_count s m) (typed.repeats m.0)) (λ q. typed.repeats i);
          marks = typed.marks;
          masks = typed.masks;
        }

    pub repeated_sound : is_in s.group.survivors m.0 ≡ true → Sound (repeated_of s m)
    unfolding repeated_of
    repeated_sound survives =
        record {
          n_least = sound.n_least;
          n_most = sound.n_most;
          resilient = sound.resilient;
          within = sound.within;
          elected_in = sound.elected_in;
          floor_is = floor_same s.group.survivors table' table (length-set table m.0 entry) repeated_taken ∙ sound.floor_is;
          floor_le = sound.floor_le;
          accepted_le = sound.accepted_le;
          window = sound.window;
          taken_le = λ i h. rw (repeated_taken i) (sound.taken_le i h);
          lost = λ i h. repeated_each (λ j a. Lost a) i (λ q. absurd (false≢true (sym h ∙ rw q survives))) (λ q. sound.lost i h);
          unused = λ i h. repeated_each (λ j a. a ≡ no_acknowledgement) i (λ q. absurd (omega arith)) (λ q. sound.unused i h);
          kept = λ k a b.
              let z = repeated_count (message_at s.history k).originator.0 in
              kept_under s.group.n table table' (message_at s.history k) (omega arith) (sound.kept k a b);
          empty = sound.empty;
          marks_in = sound.marks_in;
          marks_below = sound.marks_below;
          marks_above = sound.marks_above;
        }

  pub broadcast_reads : (k : ℕ) → s.floor.0 < k → k ≤ s.top.0 → (h : Header) × (read_of (broadcast_of s k) ≡ Ok h)
  unfolding broadcast_of
  broadcast_reads k a b = (_, (read_written _ _ (broadcast_allowed s typed sound k a b)).0)

  pub poll_reads : (h : Header) × (read_of (poll_packet s) ≡ Ok h)
  unfolding poll_packet
  poll_reads = (_, (read_written _ _ (poll_allowed s typed sound)).0)

module _ (s : Sequencer) (typed : Typed s) (sound : Sound s) (m : MemberNumber) (member : m.0 < s.group.n) (survives : is_in s.group.survivors m.0 ≡ true) where
  again_stays : (number : ℕ) → (number ≢ 0 → (s.floor.0 < number) × (number ≤ s.floor.0 + (s.top.0 - s.floor.0))) → Stays (again_of s m number)
  unfolding again_of old_of answered
  again_stays number found =
      when_elim Stays (number =? 0) (λ t. record { typed = repeated_typed s typed sound m member; sound = repeated_sound s typed sound m member survives; bytes = inl refl })
      (λ t.
      let f = found (eqb-false number 0 t) in
      let g = sound.floor_le in
      let e = sound.accepted_le in
      record { typed = repeated_typed s typed sound m member; sound = repeated_sound s typed sound m member survives; bytes = inr (broadcast_reads s typed sound number f.0 (omega arith)) })

  numbered_stays : (count : ℕ) (payload : List ℕ) → 1 ≤ count → count ≤ largest_number → length payload ≤ payload_most
      → s.top.0 < s.floor.0 + places_most → last_count s m ≤ count → s.top.0 < largest_number → Stays (numbered_of s m count payload)
  unfolding numbered_of with_message
  numbered_stays count payload least most short room up left =
      let typed' = numbered_typed s m count payload typed sound member up most left in
      let sound' = numbered_sound s m count payload typed sound member up most left least short room in
      let f = sound.floor_le in
      let e = sound.accepted_le in
      let reads = broadcast_reads (with_message s m count payload) typed' sound' (s.top.0 + 1) (omega arith) (omega arith) in
      record { typed = typed'; sound = sound'; bytes = inr reads }

  -- a request, once A is noted
  request_stays : (count : ℕ) (payload : List ℕ) → 1 ≤ count → count ≤ largest_number → length payload ≤ payload_most
      → count ≤ last_count s m + 1 → (last_count s m < count → s.top.0 < largest_number) → Stays (request_of s m count payload)
  unfolding request_of old_of answered full_of
  request_stays count payload least most short next left =
      let wide = s.top.0 - s.floor.0 in
      when_elim Stays (count <? last_count s m) (λ a. record { typed = repeated_typed s typed sound m member; sound = repeated_sound s typed sound m member survives; bytes = inl refl })
      (λ a. when_elim Stays (count =? last_count s m)
      (λ b. again_stays (find_of s.history m count s.floor.0 wide) (found_in s.history m count s.floor.0 wide))
      (λ b. when_elim Stays (wide =? places_most) (λ c. record { typed = typed; sound = sound; bytes = inr (poll_reads s typed sound) })
      (λ c.
      let p = ltb-false count (last_count s m) a in
      let q = eqb-false count (last_count s m) b in
      let r = eqb-false wide places_most c in
      let w = sound.window in
      let room : s.top.0 < s.floor.0 + places_most = omega arith in
      numbered_stays count payload least most short room p (left (omega arith)))))

-- the packet that accepts reads
pub accept_reads : (s : Sequencer) → Typed s → Sound s → 1 ≤ s.accepted.0 → (h : Header) × (read_of (accept_packet s) ≡ Ok h)
unfolding accept_packet
accept_reads s typed sound least = (_, (read_written _ _ (accept_allowed s typed sound least)).0)

-- a number that has enough marks is accepted
settled_stays : (s : Sequencer) → Typed s → Sound s → Stays (settled_of s (enough_in s))
unfolding settled_of with_accepted
settled_stays s typed sound =
    let number = enough_in s in
    when_elim Stays (number =? 0) (λ t. answered_stays s typed sound Marked)
    (λ t.
    let f = enough_in_lem s.marks (needed_of s.group) s.accepted.0 (s.top.0 - s.accepted.0) (eqb-false number 0 t) in
    let a = f.0 in
    let below : number ≤ s.top.0 = (let b = f.1 in let c = sound.accepted_le in omega arith) in
    let typed' = accept_typed s typed sound number a below in
    let sound' = accept_sound s typed sound number a below in
    record { typed = typed'; sound = sound'; bytes = inr (accept_reads (with_accepted s number) typed' sound' (omega arith)) })

-- a confirmation
confirm_stays : (s : Sequencer) → Typed s → Sound s → (m : MemberNumber) (number : SequenceNumber) → m.0 < s.group.n → number.0 ≤ s.top.0
    → (s.accepted.0 < number.0 → is_in (expected_of s.group) m.0 ≡ true) → Stays (confirm_of s m number)
unfolding confirm_of
confirm_stays s typed sound m number member below expected =
    when_elim Stays (number.0 ≤? s.accepted.0) (λ t. answered_stays s typed sound Old)
    (λ t. let above = leb-false number.0 s.accepted.0 t in
    settled_stays (with_mark s m number) (mark_typed s typed sound m number member above below) (mark_sound_lem s typed sound m number member above below (expected above)))

-- an accepted sender is a survivor, and so a member
pub sender_in : (s : Sequencer) → Sound s → (most : ℕ) (sender : MemberNumber) (taken : SequenceNumber) → sender_verdict s.group.survivors most sender taken ≡ all_yes
    → (sender.0 < s.group.n) × (taken.0 ≤ most) × (is_in s.group.survivors sender.0 ≡ true)
sender_in s sound most sender taken e =
    let a = sender_was s.group.survivors most sender taken e in
    (survivor_lt s.group (stands s sound) sender.0 a.0, a.1, a.0)

-- what a packet of our group says
module _ (s : Sequencer) (typed : Typed s) (sound : Sound s) (g : ℕ) (payload : List ℕ) (short : length payload ≤ payload_most) where
  refused_stays : (refusal : Refusal) → Stays (refused s refusal)
  refused_stays refusal = answered_stays s typed sound (Answer.Refused refusal)

  -- once a sender was accepted, its number is noted
  module _ (sender : MemberNumber) (taken : SequenceNumber) (e : sender_verdict s.group.survivors s.accepted.0 sender taken ≡ all_yes) where
    typed' : Typed (note_of s sender taken)
    typed' = let a = sender_in s sound s.accepted.0 sender taken e in note_typed s sender taken typed.table sound a.0 a.1 a.2 typed

    sound' : Sound (note_of s sender taken)
    sound' = let a = sender_in s sound s.accepted.0 sender taken e in note_sound s sender taken typed.table sound a.0 a.1 a.2 typed.history

    noted_stays : (answer : Answer) → Stays (answered (note_of s sender taken) answer)
    noted_stays answer = answered_stays (note_of s sender taken) typed' sound' answer

    requested_stays : (count : ℕ) → 1 ≤ count → count ≤ largest_number → count_verdict (last_count s sender) s.top.0 count ≡ all_yes
        → Stays (request_of (note_of s sender taken) sender count payload)
    unfolding note_of with_table
    requested_stays count least most f =
        let a = sender_in s sound s.accepted.0 sender taken e in
        let b = count_was (last_count s sender) s.top.0 count f in
        let c = noted_count s sender taken typed.table sound a.0 sender.0 in
        request_stays (note_of s sender taken) typed' sound' sender a.0 a.2 count payload least most short (omega arith) (λ h. b.1 (omega arith))

    gap_stays : (first last : SequenceNumber) → Stays (gap_of (note_of s sender taken) first last)
    unfolding gap_of
    gap_stays first last =
        when_elim Stays (last.0 ≤? (note_of s sender taken).floor.0) (λ t. noted_stays Noted)
        (λ t. noted_stays (Wanted (record { 0 = larger_of first.0 ((note_of s sender taken).floor.0 + 1) }) last))

  pub content_stays : (content : Packet) → obeys (fields_of g content) payload ≡ true → (fields_of g content).b ≤ largest_number → Stays (content_step s content payload)
  unfolding content_step fields_of obeys when◌then◌else◌
  content_stays (Request sender taken count) o most =
      judged_elim Stays (sender_verdict s.group.survivors s.accepted.0 sender taken) (λ r e. refused_stays r)
      (λ e. judged_elim Stays (count_verdict (last_count s sender) s.top.0 count) (λ r f. refused_stays r)
      (λ f. requested_stays sender taken e count (search says) most f))
  content_stays (Broadcast originator number count floor) o most = refused_stays OtherEnd
  content_stays (Gap sender taken first last) o most =
      judged_elim Stays (sender_verdict s.group.survivors s.accepted.0 sender taken) (λ r e. refused_stays r)
      (λ e. judged_elim Stays (wanted_verdict s.top.0 last) (λ r f. refused_stays r) (λ f. gap_stays sender taken e first last))
  content_stays (Status sender taken) o most =
      judged_elim Stays (sender_verdict s.group.survivors s.accepted.0 sender taken) (λ r e. refused_stays r) (λ e. noted_stays sender taken e Noted)
  content_stays (Poll elected top floor) o most = refused_stays OtherEnd
  content_stays (Offer originator number count floor) o most = refused_stays OtherEnd
  content_stays (Confirm sender number) o most =
      judged_elim Stays (sender_verdict s.group.survivors s.top.0 sender number) (λ r e. refused_stays r)
      (λ e. judged_elim Stays (expected_verdict s.group s.accepted.0 sender number) (λ r f. refused_stays r)
      (λ f. let a = sender_in s sound s.top.0 sender number e in
      confirm_stays s typed sound sender number a.0 a.1 (expected_was s.group s.accepted.0 sender number f)))
  content_stays (Accept elected number) o most = refused_stays OtherEnd
  content_stays (Invitation sender attempt) o most = refused_stays OtherEnd
  content_stays (Packet.Reply sender attempt number) o most = refused_stays OtherEnd
  content_stays (Result sender attempt elected number) o most = refused_stays OtherEnd
