-- From what a call of an end did, and the packet that was stored, to what its event gives. Assumes nothing.
use mathlib.Core.Path.{◌≡◌, refl, sym, ap, ◌∙◌, subst}
use mathlib.Core.List.{List, [], ◌∷◌, ◌++◌, append-nil}
use Prim.Native.Nat.{ℕ, zero, suc, ◌+◌, ◌≤◌, ◌<◌}
use native.Mathlib.Omega.{arith}
use borrow.Author.Tests.{lt-ltb, le-ltb, ltb-true}
use lib.ListN.{length, take, drop, get_or, set, length-append}
use lib.Seq.{take-append_seam, take_all, get_or-set_same, get_or-set_other}
use Rattle.group.proofs.Choice.{when_true, when_false}
use Rattle.group.proofs.Lists.{when_elim, le_or}
use Rattle.group.specs.Choice.{◌<?◌}
use Rattle.group.specs.Lent.{front}
use Rattle.group.specs.Limits.{members_most, longest_packet}
use Rattle.group.specs.declared.Group as group
use Rattle.member.specs.Calls as member
use Rattle.member.specs.Promise as memberPromise
use Rattle.member.specs.State.{Member}
use Rattle.member.specs.View as memberView
use Rattle.member.specs.declared.Done as memberDone
use Rattle.member.specs.declared.Head as memberHead
use Rattle.member.specs.declared.Reply as memberReply
use Rattle.model.specs.World.{answer_of, Group, Happened, missing, with_member, with_sequencer, no_member}
use Rattle.model.specs.declared.Reply.{Reply}
use Rattle.packet.specs.Packet.{written}
use Rattle.sequencer.specs.Calls as sequencer
use Rattle.sequencer.specs.Promise as sequencerPromise
use Rattle.sequencer.specs.State.{Sequencer}
use Rattle.sequencer.specs.View as sequencerView
use Rattle.sequencer.specs.declared.Reply as sequencerReply
use Rattle.simulator.specs.Steps.{fitting_of, kept_size, outcome_of, outcome_here, Full, CallsMember, CallsAt, CallsSequencer, Stores, happened_at, happened_here, nothing, Acts, Sequences}
use Rattle.simulator.specs.Whole.{list_of, Room, Rows, rows_of, stored_at, Terminals, terminals_of, head_in, member_at, members_in, Packets, packets_of, packet_at, packets_in}
use Rattle.simulator.specs.declared.Happening.{Happening}
use Rattle.simulator.specs.declared.Head.{Head}
use Rattle.simulator.specs.declared.MemberCall.{MemberCall}
use Rattle.simulator.specs.declared.MemberCall.TheVariants as call
use Rattle.simulator.specs.declared.SequencerCall.{SequencerCall}
use Rattle.simulator.proofs.Groups as sequencerKeeps
use Rattle.simulator.proofs.Keeping as memberKeeps
use Rattle.simulator.proofs.Lists.{length_list, lists_same, lists_set, lists_snoc, lists_get}

-- arrays that changed at i alone
module _ (i : ℕ) (rows : Rows) (a b c d e f g h : List ℕ) where
  abbrev pub set_at : Rows
  set_at =
      rows_of (set rows.queued i a) (set rows.held i b) (set rows.queued_originators i c) (set rows.queued_lengths i d)
      (set rows.held_originators i e) (set rows.held_lengths i f) (set rows.queued_payloads i g) (set rows.held_payloads i h)

  pub set_own : i < members_most → Full rows → (head : memberHead.Head) → stored_at set_at i head ≡ memberView.whole head a b c d e f g h
  set_own l n head =
      let inside : (x : List (List ℕ)) → length x ≡ members_most → i < length x = λ x e. omega arith in
      λ t. memberView.whole head (get_or-set_same rows.queued i a [] (inside rows.queued n.queued) t) (get_or-set_same rows.held i b [] (inside rows.held n.held) t)
      (get_or-set_same rows.queued_originators i c [] (inside rows.queued_originators n.queued_originators) t) (get_or-set_same rows.queued_lengths i d [] (inside rows.queued_lengths n.queued_lengths) t)
      (get_or-set_same rows.held_originators i e [] (inside rows.held_originators n.held_originators) t) (get_or-set_same rows.held_lengths i f [] (inside rows.held_lengths n.held_lengths) t)
      (get_or-set_same rows.queued_payloads i g [] (inside rows.queued_payloads n.queued_payloads) t) (get_or-set_same rows.held_payloads i h [] (inside rows.held_payloads n.held_payloads) t)

  pub set_others : (j : ℕ) (head : memberHead.Head) → (j ≡ i → ⊥) → stored_at set_at j head ≡ stored_at rows j head
  set_others j head n =
      λ t. memberView.whole head (get_or-set_other rows.queued i j a [] n t) (get_or-set_other rows.held i j b [] n t)
      (get_or-set_other rows.queued_originators i j c [] n t) (get_or-set_other rows.queued_lengths i j d [] n t)
      (get_or-set_other rows.held_originators i j e [] n t) (get_or-set_other rows.held_lengths i j f [] n t)
      (get_or-set_other rows.queued_payloads i j g [] n t) (get_or-set_other rows.held_payloads i j h [] n t)

  -- a call of the member whose arrays stand at i
  pub calls_member : (call : MemberCall) (bytes : List ℕ) (head : memberHead.Head) (r : memberDone.Done) (before after : List ℕ) → i < members_most → Full rows
      → memberPromise.Changed (outcome_of call bytes (length before) (memberView.view_of (stored_at rows i head))) r.reply (memberView.whole r.head a b c d e f g h) before after
      → CallsMember call i bytes head rows r set_at before after
  calls_member call bytes head r before after l n k =
      record {
        call_is =
            subst (λ (s : memberView.Stored). memberPromise.Changed (outcome_of call bytes (length before) (memberView.view_of (stored_at rows i head))) r.reply s before after)
            (sym (set_own l n r.head)) k;
        others = set_others;
      }

-- a call that only reads the state
pub calls_told : (call : MemberCall) (i : ℕ) (bytes : List ℕ) (head : memberHead.Head) (rows : Rows) (reply : memberReply.Reply) (before after : List ℕ)
    → (outcome_of call bytes (length before) (memberView.view_of (stored_at rows i head))).member ≡ memberView.view_of (stored_at rows i head)
    → memberPromise.Told (outcome_of call bytes (length before) (memberView.view_of (stored_at rows i head))) reply before after
    → CallsMember call i bytes head rows (record { head = head; reply = reply }) rows before after
calls_told call i bytes head rows reply before after e k =
    record {
      call_is = record { answer = k.answer; state = sym e; lent = k.lent; wording = k.wording };
      others = λ j h n. refl;
    }

-- the head that a call left is the head of the row that is stored of it, since group and number stay
pub head_kept : (call : MemberCall) (bytes : List ℕ) (room : ℕ) (g : group.Group) (i : ℕ) (numbers : List ℕ) (s : memberView.Stored) (s' : memberView.Stored)
    → s.head ≡ head_in g i numbers → memberView.view_of s' ≡ (outcome_of call bytes room (memberView.view_of s)).member
    → head_in g i (s'.head.taken.0 ∷ s'.head.accepted.0 ∷ s'.head.submitted ∷ s'.head.waiting ∷ []) ≡ s'.head
unfolding memberView.view_of
head_kept call bytes room g i numbers s s' h e =
    let k = memberKeeps.outcome_has (memberView.view_of s) call bytes room in
    let a : g ≡ s'.head.group = sym (ap (λ (m : Member). m.group) e ∙ k.0 ∙ ap (λ (h : memberHead.Head). h.group) h) in
    let b : record { 0 = i } ≡ s'.head.number = sym (ap (λ (m : Member). m.number) e ∙ k.1 ∙ ap (λ (h : memberHead.Head). h.number) h) in
    λ t. record { group = a t; number = b t; taken = s'.head.taken; accepted = s'.head.accepted; submitted = s'.head.submitted; waiting = s'.head.waiting }

-- a row of numbers that is set, and arrays that changed at the same index alone
module _ (call : MemberCall) (bytes : List ℕ) (g : group.Group) (i : ℕ) (numbers : List (List ℕ)) (rows rows' : Rows) (r : memberDone.Done) (before after : List ℕ) where
  abbrev head : memberHead.Head
  head = head_in g i (get_or numbers i [])

  abbrev row : List ℕ
  row = r.head.taken.0 ∷ r.head.accepted.0 ∷ r.head.submitted ∷ r.head.waiting ∷ []

  pub calls_at : i < length numbers → CallsMember call i bytes head rows r rows' before after
      → CallsAt call i bytes (terminals_of g numbers rows) r.reply (terminals_of g (set numbers i row) rows') before after
  unfolding member_at
  calls_at h c =
      let k = head_kept call bytes (length before) g i (get_or numbers i []) (stored_at rows i head) (stored_at rows' i r.head) refl c.call_is.state in
      let e : head_in g i (get_or (set numbers i row) i []) ≡ r.head = ap (head_in g i) (get_or-set_same numbers i row [] h) ∙ k in
      record {
        answer = c.call_is.answer;
        state = ap (λ (x : memberHead.Head). memberView.view_of (stored_at rows' i x)) e ∙ c.call_is.state;
        lent = c.call_is.lent;
        others = λ j n.
            ap (λ (l : List ℕ). memberView.view_of (stored_at rows' j (head_in g j l))) (get_or-set_other numbers i j row [] n)
            ∙ ap memberView.view_of (c.others j (head_in g j (get_or numbers j [])) n);
      }

-- a packet at the end
module _ (sizes : List ℕ) (packets : List (List ℕ)) (count size : ℕ) (bytes : List ℕ) where
  abbrev p : Packets
  p = packets_of sizes packets count

  abbrev next : ℕ → Packets
  next k = packets_of (set sizes count size) (set packets count bytes) k

  at_others : (c k : ℕ) → (k ≡ count → ⊥) → packet_at (next c) k ≡ packet_at p k
  unfolding packet_at
  at_others c k n = λ t. take (get_or-set_other sizes count k size 0 n t) (get_or-set_other packets count k bytes [] n t)

  at_count : (c : ℕ) → count < length sizes → count < length packets → packet_at (next c) count ≡ take size bytes
  unfolding packet_at
  at_count c h k = λ t. take (get_or-set_same sizes count size 0 h t) (get_or-set_same packets count bytes [] k t)

  pub stores_none : size ≡ 0 → length bytes ≡ longest_packet → Stores p size bytes (next count)
  unfolding written
  stores_none e l =
      record {
        packets = lists_same (packet_at p) (packet_at (next count)) count (λ j h. at_others count j (λ c. omega arith)) ∙ rw e (sym (append-nil (packets_in p)));
        most = omega arith;
        others = at_others count;
        full = l;
      }

  -- bytes that are not none are one packet
  written_one : (size : ℕ) (bytes : List ℕ) → 0 < size → 0 < length bytes → written (take size bytes) ≡ take size bytes ∷ []
  unfolding written
  written_one zero bytes h k = absurd (omega arith)
  written_one (suc size) [] h k = absurd (omega arith)
  written_one (suc size) (b ∷ bytes) h k = refl

  pub stores_one : 0 < size → length bytes ≡ longest_packet → count < length sizes → count < length packets → Stores p size bytes (next (count + 1))
  stores_one z l h k =
      record {
        packets =
            lists_snoc (packet_at (next (count + 1))) count
            ∙ (λ t. lists_same (packet_at p) (packet_at (next (count + 1))) count (λ j h. at_others (count + 1) j (λ c. omega arith)) t
            ++ (at_count (count + 1) h k t ∷ []))
            ∙ ap (λ (l : List (List ℕ)). packets_in p ++ l) (sym (written_one size bytes z (omega arith)));
        most = omega arith;
        others = at_others (count + 1);
        full = l;
      }

-- what is stored of a call's bytes
kept_bytes : (c : MemberCall) (bytes lent : List ℕ) → take (kept_size c (length bytes)) (front bytes lent) ≡ take (kept_size c (length bytes)) bytes
unfolding kept_size
kept_bytes call.Submit bytes lent = take-append_seam bytes _ ∙ sym (take_all (length bytes) bytes (omega arith))
kept_bytes call.Repeat bytes lent = take-append_seam bytes _ ∙ sym (take_all (length bytes) bytes (omega arith))
kept_bytes call.Take bytes lent = refl
kept_bytes call.Status bytes lent = take-append_seam bytes _ ∙ sym (take_all (length bytes) bytes (omega arith))
kept_bytes call.Receive bytes lent = take-append_seam bytes _ ∙ sym (take_all (length bytes) bytes (omega arith))

-- the bytes that a call wrote are as many as it says, and behind them the output is as it was lent
pub wrote : (bytes before after : List ℕ) (size : ℕ) → size ≡ length bytes → after ≡ front bytes before → take size after ≡ bytes
wrote bytes before after size e f = rw (e, f) (take-append_seam bytes (drop (length bytes) before))

pub behind : (bytes before after : List ℕ) (size : ℕ) → size ≡ length bytes → after ≡ front bytes before → after ≡ front (take size after) before
behind bytes before after size e f = rw (wrote bytes before after size e f) f

-- and there is room for them
pub fits : (bytes before after : List ℕ) (size : ℕ) → size ≡ length bytes → after ≡ front bytes before → length after ≡ longest_packet → size ≤ longest_packet
fits bytes before after size e f l = let z = simp length-append at (ap length f) in omega arith

-- an event of member i
module _ (c : MemberCall) (i : ℕ) (bytes : List ℕ) (head : Head) (t t' : Terminals) (p p' : Packets) (told : memberReply.Reply) (before after : List ℕ) where
  abbrev o : member.Outcome
  o = outcome_of c bytes (length before) (member_at t i)

  abbrev gives : Happening
  gives = record { head = record { sequencer = head.sequencer; count = p'.count }; reply = Reply.Member told.answer; written = told.written }

  pub acts : Room head → i < t.group.n → t'.group ≡ t.group → length before ≡ longest_packet → CallsAt c i bytes t told t' before after
      → Stores p (kept_size c told.written) after p' → head.count ≡ p.count → Acts (happened_at c i bytes) head t p gives t' p' before after
  unfolding happened_at answer_of
  acts has h same room call s count =
      let w : told.written ≡ length o.bytes = ap (λ (r : memberReply.Reply). r.written) call.answer in
      let a : told.answer ≡ o.answer = ap (λ (r : memberReply.Reply). r.answer) call.answer in
      let k = wrote o.bytes before after told.written w call.lent in
      let z : take (kept_size c told.written) after ≡ take (kept_size c (length o.bytes)) o.bytes =
      (λ x. take (kept_size c (w x)) (call.lent x)) ∙ kept_bytes c o.bytes before
      in
      let happens : (s : Sequencer) → with_member (record { sequencer = s; members = members_in t; packets = packets_in p }) i o (written (take (kept_size c (length o.bytes)) o.bytes))
      ≡ happened_at c i bytes (record { sequencer = s; members = members_in t; packets = packets_in p }) =
      λ s.
      let g : Group = record { sequencer = s; members = members_in t; packets = packets_in p } in
      let m : member_at t i ≡ get_or (members_in t) i no_member = sym (lists_get (member_at t) no_member t.group.n i h) in
      (λ x. let o : member.Outcome = outcome_of c bytes (room x) (m x) in with_member g i o (written (take (kept_size c (length o.bytes)) o.bytes)))
      ∙ when_true _ _ _ _ (lt-ltb i (length (members_in t)) (rw (length_list (member_at t) 0 t.group.n) h)) refl
      in
      let ms : members_in t' ≡ set (members_in t) i o.member =
      ap (λ (k : ℕ). list_of (member_at t') 0 k) (ap (λ (g : group.Group). g.n) same)
      ∙ lists_set (member_at t) (member_at t') o.member t.group.n i h call.state call.others
      in
      record {
        group = λ _ q.
            (λ x. record { sequencer = q; members = ms x; packets = (s.packets ∙ ap (λ (l : List ℕ). packets_in p ++ written l) z) x })
            ∙ ap (λ (h : Happened). h.group) (happens q);
        stays = λ no. absurd (no has);
        answer = λ _ q. (λ x. answer_of (Reply.Member (a x)) (k x)) ∙ ap (λ (h : Happened). h.answer) (happens q);
        lent = behind o.bytes before after told.written w call.lent;
        size = fits o.bytes before after told.written w call.lent s.full;
        same = refl;
        most = rw count s.most;
        members = λ j n. call.others j (λ e. omega arith);
        packets = s.others;
      }

-- an event that names a packet or member that is not there
pub acts_not : (happened : Group → Happened) (head : Head) (t : Terminals) (p : Packets) (lent : List ℕ)
    → (Room head → (s : Sequencer) → missing (record { sequencer = s; members = members_in t; packets = packets_in p }) ≡ happened (record { sequencer = s; members = members_in t; packets = packets_in p }))
    → Acts happened head t p (nothing head) t p lent lent
unfolding answer_of
acts_not happened head t p lent e =
    record {
      group = λ room s. ap (λ (h : Happened). h.group) (e room s);
      answer = λ room s. ap (λ (h : Happened). h.answer) (e room s);
      stays = λ _. (refl, refl, refl);
      lent = refl;
      size = omega arith;
      same = refl;
      most = omega arith;
      members = λ j n. refl;
      packets = λ k n. refl;
    }

-- there is no member i
pub no_member_lem : (c : MemberCall) (i : ℕ) (bytes : List ℕ) (t : Terminals) (p : Packets) (s : Sequencer) → t.group.n ≤ i
    → missing (record { sequencer = s; members = members_in t; packets = packets_in p }) ≡ happened_at c i bytes (record { sequencer = s; members = members_in t; packets = packets_in p })
unfolding happened_at
no_member_lem c i bytes t p s h = when_false _ _ _ _ (le-ltb i (length (members_in t)) (rw (length_list (member_at t) 0 t.group.n) h)) refl

-- an event of the sequencer
module _ (c : SequencerCall) (bytes : List ℕ) (head : Head) (s s' : sequencerView.Stored) (p p' : Packets) (told : sequencerReply.Reply) (before after : List ℕ) where
  abbrev out : sequencer.Outcome
  out = outcome_here c bytes (length before) (sequencerView.view_of s)

  abbrev tells : Happening
  tells = record { head = record { sequencer = s'.head; count = p'.count }; reply = Reply.Sequencer told.answer; written = told.written }

  pub sequences : Room head → head.sequencer ≡ s.head → length before ≡ longest_packet → CallsSequencer c bytes s told s' before after
      → Stores p told.written after p' → head.count ≡ p.count → Sequences (happened_here c bytes) head s p tells s' p' before after
  unfolding happened_here answer_of sequencerView.view_of
  sequences has e room call z count =
      let w : told.written ≡ length out.bytes = ap (λ (r : sequencerReply.Reply). r.written) call.answer in
      let a : told.answer ≡ out.answer = ap (λ (r : sequencerReply.Reply). r.answer) call.answer in
      let k = wrote out.bytes before after told.written w call.lent in
      let happens : (members : List Member) → with_sequencer (record { sequencer = sequencerView.view_of s; members = members; packets = packets_in p }) out
      ≡ happened_here c bytes (record { sequencer = sequencerView.view_of s; members = members; packets = packets_in p }) =
      λ members. ap (λ (x : ℕ). with_sequencer (record { sequencer = sequencerView.view_of s; members = members; packets = packets_in p }) (outcome_here c bytes x (sequencerView.view_of s))) room
      in
      record {
        group = λ _ members.
            (λ x. record { sequencer = call.state x; members = members; packets = (z.packets ∙ ap (λ (l : List ℕ). packets_in p ++ written l) k) x })
            ∙ ap (λ (h : Happened). h.group) (happens members);
        stays = λ no. absurd (no has);
        answer = λ _ members. (λ x. answer_of (Reply.Sequencer (a x)) (k x)) ∙ ap (λ (h : Happened). h.answer) (happens members);
        lent = behind out.bytes before after told.written w call.lent;
        size = fits out.bytes before after told.written w call.lent z.full;
        same = ap (λ (q : Sequencer). q.group) call.state ∙ sequencerKeeps.outcome_has (sequencerView.view_of s) c bytes (length before) ∙ sym (ap (λ h. h.group) e);
        most = rw count z.most;
        packets = z.others;
      }

-- a call of the sequencer that only reads the state
pub sequencer_told_lem : (c : SequencerCall) (bytes : List ℕ) (s : sequencerView.Stored) (reply : sequencerReply.Reply) (before after : List ℕ)
    → (outcome_here c bytes (length before) (sequencerView.view_of s)).sequencer ≡ sequencerView.view_of s
    → sequencerPromise.Told (outcome_here c bytes (length before) (sequencerView.view_of s)) reply before after
    → CallsSequencer c bytes s reply s before after
sequencer_told_lem c bytes s reply before after e k = record { answer = k.answer; state = sym e; lent = k.lent; wording = k.wording }

pub sequences_not : (happened : Group → Happened) (head : Head) (s : sequencerView.Stored) (p : Packets) (lent : List ℕ)
    → (Room head → (members : List Member)
    → missing (record { sequencer = sequencerView.view_of s; members = members; packets = packets_in p }) ≡ happened (record { sequencer = sequencerView.view_of s; members = members; packets = packets_in p }))
    → Sequences happened head s p (nothing head) s p lent lent
unfolding answer_of
sequences_not happened head s p lent e =
    record {
      group = λ room members. ap (λ (h : Happened). h.group) (e room members);
      answer = λ room members. ap (λ (h : Happened). h.answer) (e room members);
      stays = λ _. (refl, refl, refl);
      lent = refl;
      size = omega arith;
      same = refl;
      most = omega arith;
      packets = λ k n. refl;
    }

-- the stretch of a stored packet's array that is read is the packet
pub packet_read : (size length' : ℕ) (bytes : List ℕ) → length bytes ≡ longest_packet → size ≡ fitting_of length' → take size bytes ≡ take length' bytes
unfolding fitting_of
packet_read size length' bytes e s =
    rw s
    (le_or longest_packet length'
    (λ h. let z : fitting_of length' ≡ longest_packet = sym (when_false _ _ _ _ (le-ltb length' longest_packet h) refl) in
    rw z (take_all longest_packet bytes (omega arith) ∙ sym (take_all length' bytes (omega arith))))
    (λ h. let z : fitting_of length' ≡ length' = sym (when_true _ _ _ _ (lt-ltb length' longest_packet h) refl) in rw z))

pub packet_fits : (size length' : ℕ) → size ≡ fitting_of length' → size ≤ longest_packet
unfolding fitting_of
packet_fits size length' s =
    rw s (when_elim (λ (x : ℕ). x ≤ longest_packet) (length' <? longest_packet) (λ t. let z = ltb-true length' longest_packet t in omega arith) (λ _. omega arith))
