-- Each call of the sequencer owes the group what the invariant of demand 3 asks: the call's text, with a proof for each way
-- that a choice goes. Assumes nothing.
use Rattle.group.specs.Question.{all_yes}
use mathlib.Core.Path.{◌≡◌, refl, sym, ap, ◌∙◌, subst}
use mathlib.Core.Logic.{◌≢◌}
use mathlib.Core.Bool.{true}
use mathlib.Core.Option.{some}
use mathlib.Core.List.{List, []}
use Prim.Native.Nat.{ℕ, ◌≤◌, ◌<◌}
use native.Mathlib.Nat.{le_refl}
use native.Mathlib.Omega.{arith}
use borrow.Author.Tests.{ltb-true, leb-true, eq-eqb, lt-ltb, le-leb}
use lib.ListN.{length}
use Rattle.group.proofs.Choice.{both_first, both_then}
use Rattle.group.proofs.Lists.{when_elim, judged_elim, at, at_le}
use Rattle.group.specs.Choice.{when◌then◌else◌, ◌and◌, ◌<?◌, ◌≤?◌}
use Rattle.group.specs.Limits.{payload_most, longest_packet, largest_number}
use Rattle.group.specs.Question.{judged}
use Rattle.group.specs.declared.Group.{Group}
use Rattle.group.specs.declared.MemberNumber.{MemberNumber}
use Rattle.group.specs.declared.Refusal.{Refusal}
use Rattle.group.specs.declared.Refusal.TheVariants.{ForbiddenFields, OtherEnd, NotInHistory}
use Rattle.group.specs.declared.SequenceNumber.{SequenceNumber}
use Rattle.message.proofs.Owning.{Owns}
use Rattle.message.specs.Order.{Ordered}
use Rattle.packet.proofs.Facts.{Voice, Known, Says}
use Rattle.packet.proofs.Laws.{read_written, content_fields, fields_group}
use Rattle.packet.proofs.Verdicts.{writable}
use Rattle.packet.specs.Laws.{Allowed}
use Rattle.packet.specs.Packet.{packet_of, fields_of, written, from_elected}
use Rattle.packet.specs.declared.Packet.{Packet}
use Rattle.packet.specs.declared.Packet.TheVariants.{Request, Broadcast, Gap, Status, Poll, Offer, Confirm, Accept, Invitation, Result}
use Rattle.history.proofs.Asking.{count_was, expected_was}
use Rattle.history.proofs.Soundness.{taken_in, floor_most, floor_least}
use Rattle.history.specs.Ask.{sender_verdict, count_verdict, wanted_verdict, expected_verdict}
use Rattle.sequencer.specs.Calls.{Outcome, answered, refused, announced, broadcast_of, poll_packet, request_of, content_step, read_step, call_verdict, receive_of, poll_of, copy_of}
use Rattle.sequencer.specs.Note.{with_table, note_of}
use Rattle.sequencer.specs.Order.{numbered_by}
use Rattle.sequencer.specs.State.{Sequencer, last_count}
use Rattle.sequencer.specs.declared.Answer.{Answer}
use Rattle.sequencer.specs.declared.Answer.TheVariants.{Noted, Sent}
use Rattle.sequencer.proofs.Histories.{broadcast_is}
use Rattle.sequencer.proofs.Invariant.{SequencerInv, SequencerGood, Confirmed, facts_of}
use Rattle.sequencer.proofs.Noting.{noted_count, noted_own, noted_other}
use Rattle.group.proofs.Members.{survivor_lt}
use Rattle.group.specs.Members.{is_in}
use Rattle.sequencer.proofs.Keeping.{sender_in}
use Rattle.sequencer.proofs.Soundness.{sound_of_lem, stands}
use Rattle.sequencer.proofs.Answering.{Good, Ready, silent, writing, note_ready, poll_known, copy_known, request_good, gap_good, confirm_good}

-- a state with its invariant
module _ (group : Group) (order : List Ordered) (s : Sequencer) (v : SequencerInv group s order) where
  called : call_verdict s longest_packet ≡ all_yes
  unfolding call_verdict when◌then◌else◌
  called = rw v.sound

  -- a packet of the group that may be written reaches its step
  pub received : (content : Packet) (payload : List ℕ) → Allowed (fields_of group.number content) payload
      → receive_of s (packet_of (fields_of group.number content) payload) longest_packet
      ≡ when from_elected s.group content then content_step s content payload else refused s ForbiddenFields
  unfolding receive_of judged read_step when◌then◌else◌
  received content payload allowed =
      let r = read_written (fields_of group.number content) payload allowed in
      let e = eq-eqb (fields_of group.number content).group s.group.number (fields_group group.number content ∙ sym (ap (λ (x : Group). x.number) v.group_is)) in
      rw (called, r.0, r.1, e, content_fields group.number content)

  -- the copy of a number of the history is the packet of the order's message
  pub copy_ok : (k : ℕ) (m : Ordered) → at order k ≡ some m → s.floor.0 < k
      → let broadcast : Packet = announced s.accepted (record { 0 = m.originator }) (record { 0 = k }) m.count s.floor in
      copy_of s (record { 0 = k }) longest_packet ≡ record { sequencer = s; answer = Sent; bytes = packet_of (fields_of group.number broadcast) m.payload }
  unfolding copy_of judged when◌then◌else◌
  copy_ok k m e above =
      let l = at_le order k e in
      let z = v.top_is in
      rw (called, lt-ltb s.floor.0 k above, le-leb k s.top.0 (omega arith), broadcast_is group order s v k m e above)

  -- a member's status is noted
  pub status_ok : (sender : MemberNumber) (taken : SequenceNumber) → Allowed (fields_of group.number (Status sender taken)) [] → is_in group.survivors sender.0 ≡ true → taken.0 ≤ s.accepted.0
      → receive_of s (packet_of (fields_of group.number (Status sender taken)) []) longest_packet ≡ answered (note_of s sender taken) Noted
  unfolding content_step sender_verdict judged when◌then◌else◌ from_elected
  status_ok sender taken allowed member known =
      received (Status sender taken) [] allowed
      ∙ rw (v.group_is, member, le-leb taken.0 s.accepted.0 known)

  -- of which that member's entry shows as much, and the others' entries what they did
  pub status_own : (sender : MemberNumber) (taken : SequenceNumber) → sender.0 < group.n → taken.0 ≤ taken_in (note_of s sender taken).acknowledgements sender.0
  unfolding note_of with_table
  status_own sender taken member = noted_own s sender taken v.typed.table (sound_of_lem s v.sound) (rw v.group_is member)

  pub status_other : (sender : MemberNumber) (taken : SequenceNumber) → sender.0 < group.n → (i : ℕ) → i ≢ sender.0
      → taken_in (note_of s sender taken).acknowledgements i ≡ taken_in s.acknowledgements i
  unfolding note_of with_table
  status_other sender taken member = noted_other s sender taken v.typed.table (sound_of_lem s v.sound) (rw v.group_is member)

  -- floor is at most each survivor's entry, and the last accepted number where all of them are
  pub floor_below : (i : ℕ) → is_in group.survivors i ≡ true → s.floor.0 ≤ taken_in s.acknowledgements i
  floor_below i h =
      let f = sound_of_lem s v.sound in
      let l = v.typed.table in
      let inside : is_in s.group.survivors i ≡ true = rw v.group_is h in
      let lt = survivor_lt s.group (stands s f) i inside in
      let most = f.n_most in
      rw f.floor_is at (floor_most s.group.survivors s.acknowledgements i inside (omega arith))

  pub survivor_in : (i : ℕ) → is_in group.survivors i ≡ true → i < group.n
  survivor_in i h = rw v.group_is at (survivor_lt s.group (stands s (sound_of_lem s v.sound)) i (rw v.group_is h))

  pub floor_survivors : ((i : ℕ) → is_in group.survivors i ≡ true → s.accepted.0 ≤ taken_in s.acknowledgements i) → s.floor.0 ≡ s.accepted.0
  floor_survivors all =
      let f = sound_of_lem s v.sound in
      let low = floor_least s.group.survivors s.acknowledgements s.accepted.0 v.typed.accepted (λ i h k. all i (rw v.group_is at h)) in
      omega arith

  pub floor_all : ((i : ℕ) → i < group.n → s.accepted.0 ≤ taken_in s.acknowledgements i) → s.floor.0 ≡ s.accepted.0
  floor_all all = floor_survivors (λ i h. all i (survivor_in i h))

  -- the group's other facts: what its terminals can say of themselves
  module _ (voice : ℕ → Voice)
      (acked : (i : ℕ) → i < group.n → taken_in s.acknowledgements i ≤ (voice i).row) (rows : (i : ℕ) → i < group.n → (voice i).row ≤ s.accepted.0)
      (sizes : (i : ℕ) → i < group.n → length (voice i).submitted ≤ largest_number)
      (owns : (i : ℕ) → i < group.n → Owns i order (voice i).submitted) (confirmed : Confirmed group s (λ i. (voice i).reach)) where
    abbrev before : ℕ
    before = s.accepted.0

    abbrev Owes : Outcome → Type 0
    Owes = Good group order before voice

    ready : Ready group order before voice s
    ready = record { inv = v; acked = acked; owns = owns; confirmed = confirmed; up = le_refl before }

    refused_good : (refusal : Refusal) → Owes (refused s refusal)
    unfolding numbered_by
    refused_good refusal = silent group order before voice s ready (Answer.Refused refusal) refl

    -- the steps, once a sender was accepted and its number is noted
    module _ (sender : MemberNumber) (taken : SequenceNumber) (known : taken.0 ≤ (voice sender.0).row)
        (e : sender_verdict s.group.survivors s.accepted.0 sender taken ≡ all_yes) where
      member : sender.0 < group.n
      member = rw v.group_is at (sender_in s (sound_of_lem s v.sound) s.accepted.0 sender taken e).0

      survives : is_in group.survivors sender.0 ≡ true
      survives = rw v.group_is at (sender_in s (sound_of_lem s v.sound) s.accepted.0 sender taken e).2

      noted : Ready group order before voice (note_of s sender taken)
      noted = note_ready group order before voice s ready sender taken member survives known (rows sender.0 member)

      noted_request : (count : ℕ) (payload : List ℕ) → at (voice sender.0).submitted count ≡ some payload → length payload ≤ payload_most
          → count_verdict (last_count s sender) s.top.0 count ≡ all_yes → Owes (request_of (note_of s sender taken) sender count payload)
      unfolding note_of with_table
      noted_request count payload submission short f =
          let b = count_was (last_count s sender) s.top.0 count f in
          let c = noted_count s sender taken v.typed.table (sound_of_lem s v.sound) (rw v.group_is member) sender.0 in
          request_good group order before voice (note_of s sender taken) noted
          sender count payload member survives submission (sizes sender.0 member) short (omega arith) (λ h. b.1 (omega arith))

    content_good : (content : Packet) (payload : List ℕ) → length payload ≤ payload_most → Says (facts_of group order before voice) content payload
        → Owes (content_step s content payload)
    unfolding content_step numbered_by
    content_good (Request sender taken count) payload short says =
        judged_elim Owes (sender_verdict s.group.survivors s.accepted.0 sender taken) (λ r e. refused_good r)
        (λ e. judged_elim Owes (count_verdict (last_count s sender) s.top.0 count) (λ r f. refused_good r)
        (λ f. noted_request sender taken says.0 e count payload says.1 short f))
    content_good (Broadcast originator number count floor) payload short says = refused_good OtherEnd
    content_good (Gap sender taken first last) payload short says =
        judged_elim Owes (sender_verdict s.group.survivors s.accepted.0 sender taken) (λ r e. refused_good r)
        (λ e. judged_elim Owes (wanted_verdict s.top.0 last) (λ r f. refused_good r)
        (λ f. gap_good group order before voice (note_of s sender taken) (noted sender taken says e) first last))
    content_good (Status sender taken) payload short says =
        judged_elim Owes (sender_verdict s.group.survivors s.accepted.0 sender taken) (λ r e. refused_good r)
        (λ e. silent group order before voice (note_of s sender taken) (noted sender taken says e) Noted refl)
    content_good (Poll elected top floor) payload short says = refused_good OtherEnd
    content_good (Offer originator number count floor) payload short says = refused_good OtherEnd
    content_good (Confirm sender number) payload short says =
        judged_elim Owes (sender_verdict s.group.survivors s.top.0 sender number) (λ r e. refused_good r)
        (λ e. judged_elim Owes (expected_verdict s.group s.accepted.0 sender number) (λ r f. refused_good r)
        (λ f. let a = sender_in s (sound_of_lem s v.sound) s.top.0 sender number e in
        confirm_good group order before voice s ready sender number (rw v.group_is at a.0) a.1 says.0
        (expected_was s.group s.accepted.0 sender number f)))
    content_good (Accept elected number) payload short says = refused_good OtherEnd
    content_good (Invitation sender attempt) payload short says = refused_good OtherEnd
    content_good (Packet.Reply sender attempt number) payload short says = refused_good OtherEnd
    content_good (Result sender attempt elected number) payload short says = refused_good OtherEnd

    pub receive_good : (bytes : List ℕ) → Known group.number (facts_of group order before voice) bytes
        → SequencerGood group order before voice (written (receive_of s bytes longest_packet).bytes) (receive_of s bytes longest_packet)
    receive_good bytes k =
        let w = writable (fields_of group.number k.content) k.payload longest_packet k.allowed.1 in
        let e = received k.content k.payload k.allowed in
        subst (λ (p : List ℕ). Owes (receive_of s p longest_packet)) (sym k.bytes_are)
        (subst Owes (sym e)
        (when_elim Owes (from_elected s.group k.content) (λ t. content_good k.content k.payload w.short k.says) (λ t. refused_good ForbiddenFields)))

    pub poll_good : SequencerGood group order before voice (written (poll_of s longest_packet).bytes) (poll_of s longest_packet)
    unfolding poll_of numbered_by
    poll_good =
        judged_elim Owes (call_verdict s longest_packet) (λ r e. refused_good r)
        (λ e. writing group order before voice s ready Sent (poll_packet s) refl (poll_known group order before voice s ready))

    pub copy_good : (number : SequenceNumber)
        → SequencerGood group order before voice (written (copy_of s number longest_packet).bytes) (copy_of s number longest_packet)
    unfolding copy_of numbered_by
    copy_good number =
        let inside = s.floor.0 <? number.0 and number.0 ≤? s.top.0 in
        judged_elim Owes (call_verdict s longest_packet) (λ r e. refused_good r)
        (λ e. when_elim Owes inside
        (λ h.
        let a = ltb-true s.floor.0 number.0 (both_first (s.floor.0 <? number.0) (number.0 ≤? s.top.0) h) in
        let b = leb-true number.0 s.top.0 (both_then (s.floor.0 <? number.0) (number.0 ≤? s.top.0) h) in
        writing group order before voice s ready Sent (broadcast_of s number.0) refl
        (copy_known group order before voice s ready number.0 a b))
        (λ h. refused_good NotInHistory))
