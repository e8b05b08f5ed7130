-- What a terminal's calls write: packets under the number of its member's group, or of its sequencer's, none of a reset; and a sequencer's floor is in
-- each of its own. Assumes nothing.
use Rattle.std.specs.Prelude.{Ok, Err}
use mathlib.Core.Path.{◌≡◌, refl, sym, ap, ◌∙◌, subst}
use mathlib.Core.Bool.{Bool, true, false, false≢true}
use mathlib.Core.List.{List, [], ◌∷◌}
use Prim.Native.Nat.{ℕ, ◌+◌, ◌-◌, ◌≤◌}
use native.Mathlib.Nat.{le_refl}
use native.Mathlib.Omega.{arith}
use lib.ListN.{length}
use Rattle.big_endian.proofs.Number.{number_behind, number_of_bytes}
use Rattle.big_endian.specs.Number.{bytes_of}
use Rattle.group.proofs.Lists.{when_elim, judged_elim, All}
use Rattle.group.specs.Choice.{when◌then◌else◌, ◌and◌, ◌<?◌, ◌≤?◌, ◌=?◌}
use Rattle.group.specs.Limits.{held_most, places_most, largest_number}
use Rattle.group.specs.Members.{is_in, expected_of}
use Rattle.group.specs.declared.Group.{Group}
use Rattle.group.specs.declared.MemberNumber.{MemberNumber}
use Rattle.group.specs.declared.Refusal.{Refusal}
use Rattle.group.specs.declared.SequenceNumber.{SequenceNumber}
use Rattle.message.specs.Message.{message_of, payload_of}
use Rattle.member.specs.Calls as member
use Rattle.member.specs.State.{Member}
use Rattle.member.specs.declared.Answer.{Answer}
use Rattle.packet.proofs.Laws.{read_written, content_fields, fields_group}
use Rattle.packet.proofs.Verdicts.{readable}
use Rattle.packet.specs.Laws.{Allowed}
use Rattle.packet.specs.Packet.{request_kind, broadcast_kind, gap_kind, status_kind, poll_kind, offer_kind, confirm_kind, accept_kind, invitation_kind, reply_kind, header_of, header_bytes, packet_of, read_of, payload_at, content_of, fields_of, from_elected, written}
use Rattle.packet.specs.declared.Header.{Header}
use Rattle.packet.specs.declared.Packet.{Packet}
use Rattle.packet.specs.Answers.{Reading}
use Rattle.sequencer.specs.Calls as sequencer
use Rattle.history.specs.Ask.{sender_verdict, count_verdict, wanted_verdict, expected_verdict}
use Rattle.history.specs.Repeat.{find_of}
use Rattle.history.specs.State as history
use Rattle.sequencer.specs.declared.Answer as sequencerAnswer
use Rattle.sequencer.specs.Note.{with_table, note_of}
use Rattle.sequencer.specs.State.{Sequencer, last_count}
use Rattle.window.specs.Places as window
use Rattle.recovery.proofs.Laws.{content_frame}
use Rattle.recovery.specs.Calls as terminal
use Rattle.recovery.specs.State.{Terminal}

-- a choice made twice alike
when_both : {A : Type 0} (R : A → A → Type 0) (b : Bool) {x x' y y' : A} → R x x' → R y y' → R (when b then x else y) (when b then x' else y')
unfolding when◌then◌else◌
when_both R true h k = h
when_both R false h k = k

-- two packets, both of a reset or neither
abbrev Alike : Packet → Packet → Type 0
Alike p q = terminal.of_reset p ≡ terminal.of_reset q

alike : (kind : ℕ) (m m' : MemberNumber) (g g' a a' b b' c c' : ℕ)
    → Alike (content_of (record { kind = kind; member = m; group = g; a = a; b = b; c = c })) (content_of (record { kind = kind; member = m'; group = g'; a = a'; b = b'; c = c' }))
unfolding content_of terminal.of_reset
alike kind m m' g g' a a' b b' c c' =
    when_both Alike (kind =? request_kind) refl
    (when_both Alike (kind =? broadcast_kind) refl
    (when_both Alike (kind =? gap_kind) refl
    (when_both Alike (kind =? status_kind) refl
    (when_both Alike (kind =? poll_kind) refl
    (when_both Alike (kind =? offer_kind) refl
    (when_both Alike (kind =? confirm_kind) refl
    (when_both Alike (kind =? accept_kind) refl
    (when_both Alike (kind =? invitation_kind) refl
    (when_both Alike (kind =? reply_kind) refl refl)))))))))

-- a floor stands in C
floor_c : (h : Header) → terminal.floor_in (content_of h) ≤ h.c
unfolding content_of terminal.floor_in
floor_c h =
    let P : Packet → Type 0 = λ p. terminal.floor_in p ≤ h.c in
    when_elim P (h.kind =? request_kind) (λ _. omega arith)
    (λ _. when_elim P (h.kind =? broadcast_kind) (λ _. le_refl _)
    (λ _. when_elim P (h.kind =? gap_kind) (λ _. omega arith)
    (λ _. when_elim P (h.kind =? status_kind) (λ _. omega arith)
    (λ _. when_elim P (h.kind =? poll_kind) (λ _. le_refl _)
    (λ _. when_elim P (h.kind =? offer_kind) (λ _. le_refl _)
    (λ _. when_elim P (h.kind =? confirm_kind) (λ _. omega arith)
    (λ _. when_elim P (h.kind =? accept_kind) (λ _. omega arith)
    (λ _. when_elim P (h.kind =? invitation_kind) (λ _. omega arith)
    (λ _. when_elim P (h.kind =? reply_kind) (λ _. omega arith) (λ _. omega arith))))))))))

module _ (h : Header) (payload : List ℕ) where
  group_back : h.group ≤ largest_number → (header_of (packet_of h payload)).group ≡ h.group
  unfolding header_of packet_of header_bytes bytes_of
  group_back fits = number_behind 4 (packet_of h payload) 4 ∙ number_of_bytes 4 h.group _ (omega arith)

  c_back : h.c ≤ largest_number → (header_of (packet_of h payload)).c ≡ h.c
  unfolding header_of packet_of header_bytes bytes_of
  c_back fits = number_behind 4 (packet_of h payload) 16 ∙ number_of_bytes 4 h.c _ (omega arith)

  kind_back : terminal.of_reset (content_of (header_of (packet_of h payload))) ≡ terminal.of_reset (content_of h)
  unfolding header_of packet_of header_bytes
  kind_back = alike h.kind _ _ _ _ _ _ _ _ _ _

-- a packet reads to the fields that it was made of
pub reads_back : (h : Header) (payload p : List ℕ) → p ≡ packet_of h payload → Allowed h payload → (x : Header) → read_of p ≡ Ok x → x ≡ h
reads_back h payload p is allowed x e =
    (readable p x e).header ∙ sym (readable p h (ap read_of is ∙ (read_written h payload allowed).0)).header

-- a packet that reads to no fields but of this number, and not of a reset; and whose floor is at most a number
abbrev pub Reads : ℕ → List ℕ → Type 0
Reads number p = (h : Header) → read_of p ≡ Ok h → (h.group ≡ number) × (terminal.of_reset (content_of h) ≡ false)

abbrev pub FloorAt : ℕ → List ℕ → Type 0
FloorAt floor p = (h : Header) → read_of p ≡ Ok h → terminal.floor_in (content_of h) ≤ floor

-- what a call writes, but a packet of a reset
pub record Wrote (number : ℕ) (p : List ℕ) : Type 0 where
  pub content : Packet
  pub payload : List ℕ
  pub bytes_are : p ≡ packet_of (fields_of number content) payload
  pub plain : terminal.of_reset content ≡ false

pub wrote_reads : (number : ℕ) (p : List ℕ) → number ≤ largest_number → Wrote number p → Reads number p
wrote_reads number p fits w h e =
    let f : Header = fields_of number w.content in
    let is : h ≡ header_of (packet_of f w.payload) = (readable p h e).header ∙ ap header_of w.bytes_are in
    let g : f.group ≡ number = fields_group number w.content in (
      ap (λ (x : Header). x.group) is ∙ group_back f w.payload (omega arith) ∙ g,
      ap (λ (x : Header). terminal.of_reset (content_of x)) is ∙ kind_back f w.payload ∙ ap terminal.of_reset (content_fields number w.content) ∙ w.plain,
    )

floor_reads : (floor : ℕ) (h : Header) (payload p : List ℕ) → p ≡ packet_of h payload → h.c ≤ floor → floor ≤ largest_number → FloorAt floor p
floor_reads floor f payload p is low fits h e =
    let same : h ≡ header_of (packet_of f payload) = (readable p h e).header ∙ ap header_of is in
    let c : h.c ≡ f.c = ap (λ (x : Header). x.c) same ∙ c_back f payload (omega arith) in
    let z = floor_c h in
    omega arith

pub written_all : (P : List ℕ → Type 0) (bytes : List ℕ) → P bytes → All P (written bytes)
unfolding written
written_all P [] h = tt
written_all P (x ∷ bytes) h = (h, tt)

-- a message leaves the group
message_group : (m : Member) (originator : MemberNumber) (k count : ℕ) (payload : List ℕ) → (member.message_step m originator k count payload).member.group ≡ m.group
unfolding member.message_step member.kept_of member.with_held member.gap_up_to member.answered
message_group m originator k count payload =
    let P : member.Outcome → Type 0 = λ o. o.member.group ≡ m.group in
    let m' : Member = member.with_held m k (message_of originator count payload) in
    when_elim P (k ≤? m.taken.0) (λ _. refl)
    (λ _. when_elim P (k ≤? m.taken.0 + held_most)
    (λ _. when_elim P (window.is_held m.held k) (λ _. refl) (λ _. when_elim P (window.lowest_missing m'.held m'.taken.0 (k - 1 - m'.taken.0) =? 0) (λ _. refl) (λ _. refl)))
    (λ _. when_elim P (window.lowest_missing m.held m.taken.0 (m.taken.0 + held_most - m.taken.0) =? 0) (λ _. refl) (λ _. refl)))

-- the member's calls
module _ (number : ℕ) where
  abbrev MemberWrote : member.Outcome → Type 0
  MemberWrote o = All (Wrote number) (written o.bytes)

  module _ (m : Member) (is : m.group.number ≡ number) where
    one_wrote : (content : Packet) (payload : List ℕ) → terminal.of_reset content ≡ false → All (Wrote number) (written (packet_of (fields_of m.group.number content) payload))
    one_wrote content payload plain =
        written_all (Wrote number) _ (record { content = content; payload = payload; bytes_are = ap (λ (k : ℕ). packet_of (fields_of k content) payload) is; plain = plain })

    request_wrote : All (Wrote number) (written (member.request_packet m))
    unfolding member.request_packet terminal.of_reset
    request_wrote = one_wrote (Packet.Request m.number _ _) _ refl

    gap_wrote : (last : ℕ) (gapped : Answer) (whole : member.Outcome) → MemberWrote whole → MemberWrote (member.gap_up_to m last gapped whole)
    unfolding member.gap_up_to member.gap_packet terminal.of_reset
    gap_wrote last gapped whole h =
        when_elim MemberWrote (window.lowest_missing m.held m.taken.0 (last - m.taken.0) =? 0) (λ _. h) (λ _. one_wrote (Packet.Gap m.number _ _ _) _ refl)

    status_packet_lem : All (Wrote number) (written (member.status_packet m))
    unfolding member.status_packet terminal.of_reset
    status_packet_lem = one_wrote (Packet.Status m.number _) _ refl

    confirm_packet_lem : (k : ℕ) → All (Wrote number) (written (member.confirm_packet m k))
    unfolding member.confirm_packet terminal.of_reset
    confirm_packet_lem k = one_wrote (Packet.Confirm m.number _) _ refl

    nothing : (answer : Answer) → MemberWrote (member.answered m answer)
    unfolding member.answered written
    nothing answer = tt

  held_wrote : (m : Member) → m.group.number ≡ number → (k : ℕ) (originator : MemberNumber) (count : ℕ) (payload : List ℕ) → MemberWrote (member.kept_of m originator k count payload)
  unfolding member.kept_of member.with_held
  held_wrote m is k originator count payload =
      let m' : Member = member.with_held m k (message_of originator count payload) in
      gap_wrote m' is (k - 1) Answer.KeptGap _ (nothing m' is Answer.Kept)

  message_wrote : (m : Member) → m.group.number ≡ number → (originator : MemberNumber) (k count : ℕ) (payload : List ℕ) → MemberWrote (member.message_step m originator k count payload)
  unfolding member.message_step
  message_wrote m is originator k count payload =
      when_elim MemberWrote (k ≤? m.taken.0) (λ _. nothing m is Answer.Old)
      (λ _. when_elim MemberWrote (k ≤? m.taken.0 + held_most)
      (λ _. when_elim MemberWrote (window.is_held m.held k) (λ _. nothing m is Answer.Old) (λ _. held_wrote m is k originator count payload))
      (λ _. gap_wrote m is (m.taken.0 + held_most) Answer.BeyondGap _ (nothing m is Answer.Beyond)))

  module _ (m : Member) (is : m.group.number ≡ number) where
    content_wrote : (content : Packet) (payload : List ℕ) → MemberWrote (member.content_step m content payload)
    unfolding member.content_step member.broadcast_of member.offer_of member.confirmed_of member.poll_of member.with_accepted
    content_wrote (Packet.Request sender taken count) payload = nothing m is _
    content_wrote (Packet.Broadcast originator k count floor) payload =
        when_elim MemberWrote (originator.0 <? m.group.n) (λ _. message_wrote (member.with_accepted m k.0) is originator k.0 count payload) (λ _. nothing m is _)
    content_wrote (Packet.Gap sender taken first last) payload = nothing m is _
    content_wrote (Packet.Status sender taken) payload = nothing m is _
    content_wrote (Packet.Poll elected top floor) payload = gap_wrote m is _ Answer.Gap _ (status_packet_lem m is)
    content_wrote (Packet.Offer originator k count floor) payload =
        let o : member.Outcome = member.message_step m originator k.0 count payload in
        when_elim MemberWrote (originator.0 <? m.group.n)
        (λ _. when_elim MemberWrote (member.confirms o.answer and member.none_missing o.member k.0 and is_in (expected_of o.member.group) o.member.number.0)
        (λ _. confirm_packet_lem o.member (ap (λ (x : Group). x.number) (message_group m originator k.0 count payload) ∙ is) k.0) (λ _. message_wrote m is originator k.0 count payload))
        (λ _. nothing m is _)
    content_wrote (Packet.Confirm sender k) payload = nothing m is _
    content_wrote (Packet.Accept elected k) payload = nothing (member.with_accepted m k.0) is _
    content_wrote (Packet.Invitation sender attempt) payload = nothing m is _
    content_wrote (Packet.Reply sender attempt k) payload = nothing m is _
    content_wrote (Packet.Result sender attempt elected k) payload = nothing m is _

    submit_wrote : (payload : List ℕ) (room : ℕ) → MemberWrote (member.submit_of m payload room)
    unfolding member.submit_of member.with_waiting
    submit_wrote payload room =
        judged_elim MemberWrote (member.call_verdict m room) (λ _ _. nothing m is _)
        (λ _. judged_elim MemberWrote (member.submit_verdict m (length payload)) (λ _ _. nothing m is _)
        (λ _. when_elim MemberWrote (m.waiting =? 0) (λ _. request_wrote (member.with_waiting m payload) is) (λ _. nothing (member.with_waiting m payload) is _)))

    repeat_wrote : (room : ℕ) → MemberWrote (member.repeat_of m room)
    unfolding member.repeat_of
    repeat_wrote room =
        judged_elim MemberWrote (member.call_verdict m room) (λ _ _. nothing m is _) (λ _. when_elim MemberWrote (1 ≤? m.waiting) (λ _. request_wrote m is) (λ _. nothing m is _))

    status_wrote : (room : ℕ) → MemberWrote (member.status_of m room)
    unfolding member.status_of
    status_wrote room = judged_elim MemberWrote (member.call_verdict m room) (λ _ _. nothing m is _) (λ _. status_packet_lem m is)

-- the sequencer's: its floor is what it is left with
module _ (number floor : ℕ) where
  -- what is written stands under a number, and has a floor
  pub record SequencerWrote (p : List ℕ) : Type 0 where
    pub wrote : Wrote number p
    pub floor_at : floor ≤ largest_number → FloorAt floor p

  abbrev AllWrote : sequencer.Outcome → Type 0
  AllWrote o = All SequencerWrote (written o.bytes)

  module _ (s : Sequencer) (is : s.group.number ≡ number) (low : s.floor.0 ≤ floor) where
    sends : (content : Packet) (payload : List ℕ) → terminal.of_reset content ≡ false → (fields_of number content).c ≤ floor → All SequencerWrote (written (packet_of (fields_of s.group.number content) payload))
    sends content payload plain c =
        let same = ap (λ (k : ℕ). packet_of (fields_of k content) payload) is in
        written_all SequencerWrote _
        (record {
          wrote = record { content = content; payload = payload; bytes_are = same; plain = plain };
          floor_at = λ fits. floor_reads floor (fields_of number content) payload _ same c fits;
        })

    broadcast_sends : (k : ℕ) → All SequencerWrote (written (sequencer.broadcast_of s k))
    unfolding sequencer.broadcast_of sequencer.announced terminal.of_reset fields_of
    broadcast_sends k =
        when_elim (λ (x : Packet). All SequencerWrote (written (packet_of (fields_of s.group.number x) (payload_of (history.message_at s.history k))))) (k ≤? s.accepted.0)
        (λ _. sends (Packet.Broadcast _ _ _ s.floor) _ refl low) (λ _. sends (Packet.Offer _ _ _ s.floor) _ refl low)

    poll_sends : All SequencerWrote (written (sequencer.poll_packet s))
    unfolding sequencer.poll_packet terminal.of_reset fields_of
    poll_sends = sends (Packet.Poll _ _ s.floor) _ refl low

    accept_sends : All SequencerWrote (written (sequencer.accept_packet s))
    unfolding sequencer.accept_packet terminal.of_reset fields_of
    accept_sends = sends (Packet.Accept _ _) _ refl (omega arith)

    none_sent : (answer : sequencerAnswer.Answer) → AllWrote (sequencer.answered s answer)
    unfolding sequencer.answered written
    none_sent answer = tt

  message_sends : (s : Sequencer) → s.group.number ≡ number → s.floor.0 ≤ floor → (m : MemberNumber) (count : ℕ) (payload : List ℕ) → AllWrote (sequencer.request_of s m count payload)
  unfolding sequencer.request_of sequencer.old_of sequencer.again_of sequencer.full_of sequencer.numbered_of sequencer.repeated_of sequencer.with_message
  message_sends s is low m count payload =
      when_elim AllWrote (count <? last_count s m) (λ _. none_sent (sequencer.repeated_of s m) is low _)
      (λ _. when_elim AllWrote (count =? last_count s m)
      (λ _. when_elim AllWrote (find_of s.history m count s.floor.0 (s.top.0 - s.floor.0) =? 0) (λ _. none_sent (sequencer.repeated_of s m) is low _) (λ _. broadcast_sends s is low _))
      (λ _. when_elim AllWrote (s.top.0 - s.floor.0 =? places_most) (λ _. poll_sends s is low) (λ _. broadcast_sends (sequencer.with_message s m count payload) is low _)))

-- whose state a call leaves
abbrev Sends : Sequencer → sequencer.Outcome → Type 0
Sends s o = All (SequencerWrote s.group.number o.sequencer.floor.0) (written o.bytes)

module _ (s : Sequencer) where
  refused_sends : (refusal : Refusal) → Sends s (sequencer.refused s refusal)
  unfolding sequencer.answered written
  refused_sends refusal = tt

  request_floor : (s' : Sequencer) (m : MemberNumber) (count : ℕ) (payload : List ℕ) → (sequencer.request_of s' m count payload).sequencer.floor ≡ s'.floor
  unfolding sequencer.request_of sequencer.old_of sequencer.again_of sequencer.full_of sequencer.numbered_of sequencer.answered sequencer.repeated_of sequencer.with_message
  request_floor s' m count payload =
      let P : sequencer.Outcome → Type 0 = λ o. o.sequencer.floor ≡ s'.floor in
      when_elim P (count <? last_count s' m) (λ _. refl)
      (λ _. when_elim P (count =? last_count s' m) (λ _. when_elim P (find_of s'.history m count s'.floor.0 (s'.top.0 - s'.floor.0) =? 0) (λ _. refl) (λ _. refl))
      (λ _. when_elim P (s'.top.0 - s'.floor.0 =? places_most) (λ _. refl) (λ _. refl)))

  content_sends : (content : Packet) (payload : List ℕ) → Sends s (sequencer.content_step s content payload)
  unfolding sequencer.content_step sequencer.gap_of sequencer.confirm_of sequencer.settled_of sequencer.with_mark sequencer.with_accepted sequencer.answered note_of with_table written
  content_sends (Packet.Request sender taken count) payload =
      judged_elim (Sends s) (sender_verdict s.group.survivors s.accepted.0 sender taken) (λ _ _. tt)
      (λ _. judged_elim (Sends s) (count_verdict (last_count s sender) s.top.0 count) (λ _ _. tt)
      (λ _.
      let s' : Sequencer = note_of s sender taken in
      subst (λ (k : SequenceNumber). All (SequencerWrote s.group.number k.0) (written (sequencer.request_of s' sender count payload).bytes)) (sym (request_floor s' sender count payload))
      (message_sends s.group.number s'.floor.0 s' refl (le_refl _) sender count payload)))
  content_sends (Packet.Broadcast originator k count floor) payload = tt
  content_sends (Packet.Gap sender taken first last) payload =
      judged_elim (Sends s) (sender_verdict s.group.survivors s.accepted.0 sender taken) (λ _ _. tt)
      (λ _. judged_elim (Sends s) (wanted_verdict s.top.0 last) (λ _ _. tt) (λ _. when_elim (Sends s) (last.0 ≤? (note_of s sender taken).floor.0) (λ _. tt) (λ _. tt)))
  content_sends (Packet.Status sender taken) payload = judged_elim (Sends s) (sender_verdict s.group.survivors s.accepted.0 sender taken) (λ _ _. tt) (λ _. tt)
  content_sends (Packet.Poll elected top floor) payload = tt
  content_sends (Packet.Offer originator k count floor) payload = tt
  content_sends (Packet.Confirm sender k) payload =
      judged_elim (Sends s) (sender_verdict s.group.survivors s.top.0 sender k) (λ _ _. tt)
      (λ _. judged_elim (Sends s) (expected_verdict s.group s.accepted.0 sender k) (λ _ _. tt)
      (λ _. when_elim (Sends s) (k.0 ≤? s.accepted.0) (λ _. tt)
      (λ _. when_elim (Sends s) (sequencer.enough_in (sequencer.with_mark s sender k) =? 0) (λ _. tt)
      (λ _. accept_sends s.group.number s.floor.0 (sequencer.with_accepted (sequencer.with_mark s sender k) (sequencer.enough_in (sequencer.with_mark s sender k))) refl (le_refl _)))))
  content_sends (Packet.Accept elected k) payload = tt
  content_sends (Packet.Invitation sender attempt) payload = tt
  content_sends (Packet.Reply sender attempt k) payload = tt
  content_sends (Packet.Result sender attempt elected k) payload = tt

  pub poll_sends_own : (room : ℕ) → Sends s (sequencer.poll_of s room)
  unfolding sequencer.poll_of sequencer.answered written
  poll_sends_own room = judged_elim (Sends s) (sequencer.call_verdict s room) (λ _ _. tt) (λ _. poll_sends s.group.number s.floor.0 s refl (le_refl _))

  pub copy_sends_own : (k : SequenceNumber) (room : ℕ) → Sends s (sequencer.copy_of s k room)
  unfolding sequencer.copy_of sequencer.answered written
  copy_sends_own k room =
      judged_elim (Sends s) (sequencer.call_verdict s room) (λ _ _. tt)
      (λ _. when_elim (Sends s) (s.floor.0 <? k.0 and k.0 ≤? s.top.0) (λ _. broadcast_sends s.group.number s.floor.0 s refl (le_refl _) k.0) (λ _. tt))

-- a terminal's sequencer's call for packets
pub order_sends : (t : Terminal) (p : List ℕ) (room : ℕ) → let o = terminal.order_of t p room in
    All (SequencerWrote t.sequencer.group.number o.terminal.sequencer.floor.0) (written o.bytes)
unfolding terminal.order_of terminal.ordered_step
order_sends t p room =
    let s = t.sequencer in
    judged_elim (Sends s) (sequencer.call_verdict s room) (λ r _. refused_sends s r) (λ _. go (read_of p))
  where
    go : (r : Reading) → Sends t.sequencer (terminal.ordered_step t r (payload_at p))
    go (Err refusal) = refused_sends t.sequencer refusal
    go (Ok h) =
        let s = t.sequencer in
        when_elim (Sends s) (from_elected s.group (content_of h))
        (λ _. when_elim (Sends s) (h.group =? s.group.number and (when t.frozen then terminal.of_reset (content_of h) else true)) (λ _. content_sends s (content_of h) (payload_at p)) (λ _. refused_sends s _))
        (λ _. refused_sends s _)

-- a terminal's member's calls; and of packets that are not of a reset
module _ (t : Terminal) where
  abbrev TerminalWrote : terminal.Outcome → Type 0
  TerminalWrote o = All (Wrote t.member.group.number) (written o.bytes)

  refused_wrote : (refusal : Refusal) → TerminalWrote (terminal.refused t refusal)
  unfolding terminal.refused written
  refused_wrote refusal = tt

  pub submit_writes : (payload : List ℕ) (room : ℕ) → TerminalWrote (terminal.submit_of t payload room)
  unfolding terminal.submit_of
  submit_writes payload room = judged_elim TerminalWrote (terminal.call_verdict t room) (λ r _. refused_wrote r) (λ _. submit_wrote t.member.group.number t.member refl payload room)

  pub repeat_writes : (room : ℕ) → TerminalWrote (terminal.repeat_of t room)
  unfolding terminal.repeat_of
  repeat_writes room = judged_elim TerminalWrote (terminal.call_verdict t room) (λ r _. refused_wrote r) (λ _. repeat_wrote t.member.group.number t.member refl room)

  pub status_writes : (room : ℕ) → TerminalWrote (terminal.status_of t room)
  unfolding terminal.status_of
  status_writes room = judged_elim TerminalWrote (terminal.call_verdict t room) (λ r _. refused_wrote r) (λ _. status_wrote t.member.group.number t.member refl room)

  -- a packet that is not of a reset
  module _ (p : List ℕ) (room : ℕ) (plain : (h : Header) → read_of p ≡ Ok h → terminal.of_reset (content_of h) ≡ false) where
    -- what it leaves: the number, and the sequencer
    pub record Stays (o : terminal.Outcome) : Type 0 where
      pub wrote : TerminalWrote o
      pub group : o.terminal.member.group ≡ t.member.group
      pub reset : o.terminal.reset ≡ t.reset
      pub sequencing : o.terminal.sequencing ≡ t.sequencing
      pub sequencer : o.terminal.sequencer ≡ t.sequencer

    no_stays : (refusal : Refusal) → Stays (terminal.refused t refusal)
    unfolding terminal.refused written
    no_stays refusal = record { wrote = tt; group = refl; reset = refl; sequencing = refl; sequencer = refl }

    pub receive_stays : Stays (terminal.receive_of t p room)
    unfolding terminal.receive_of terminal.read_step terminal.heard_of
    receive_stays = judged_elim Stays (terminal.call_verdict t room) (λ r _. no_stays r) (λ _. go (read_of p) refl)
      where
        go : (r : Reading) → read_of p ≡ r → Stays (terminal.read_step t r (payload_at p))
        go (Err refusal) e = no_stays refusal
        go (Ok h) e =
            when_elim Stays (from_elected t.member.group (content_of h))
            (λ _. when_elim Stays (terminal.of_reset (content_of h)) (λ r. absurd (false≢true (sym (plain h e) ∙ r)))
            (λ _. when_elim Stays (h.group =? t.member.group.number and (when t.reset.replied then false else true))
            (λ _. record { wrote = content_wrote t.member.group.number t.member refl (content_of h) (payload_at p); group = (content_frame t.member (content_of h) (payload_at p)).group; reset = refl; sequencing = refl; sequencer = refl })
            (λ _. no_stays _)))
            (λ _. no_stays _)
