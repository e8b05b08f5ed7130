-- Without a reset each event of the world answers, writes and leaves what it does in the group of `model`: no terminal replies, so no packet is
-- refused but where the member and the sequencer refuse it. Assumes nothing.
use Rattle.group.specs.Question.{all_yes}
use Rattle.std.specs.Prelude.{Ok}
use mathlib.Core.Path.{◌≡◌, refl, sym, ap, ◌∙◌, subst}
use mathlib.Core.Bool.{Bool, true, false, false≢true}
use mathlib.Core.Option.{Option, none, some}
use mathlib.Core.List.{List, [], ◌∷◌, ◌++◌}
use Prim.Native.Nat.{ℕ, zero, suc, ◌+◌, ◌≤◌, ◌<◌}
use native.Mathlib.Omega.{arith}
use borrow.Author.Tests.{lt-ltb, ltb-true, eq-eqb}
use lib.ListN.{length, get_or, set, get_elem?, replicate, length-set, length-replicate, get_or-replicate, get_or-eq_default}
use lib.Seq.{get_or-set_same, get_or-set_other}
use Rattle.group.proofs.Choice.{when_true, both_first}
use Rattle.group.proofs.Lists.{when_elim, judged_elim, le_or, set_each, all_get}
use Rattle.group.specs.Choice.{when◌then◌else◌, ◌<?◌, ◌≤?◌, ◌=?◌}
use Rattle.group.specs.Limits.{members_most, places_most, longest_packet, largest_number}
use Rattle.group.specs.Opening.{description_of}
use Rattle.group.specs.Question.{judged}
use Rattle.group.specs.declared.Group as description
use Rattle.group.specs.declared.Refusal.{Refusal}
use Rattle.group.specs.Question.{Verdict}
use Rattle.message.proofs.Kept.{empty_zero}
use Rattle.message.specs.Message.{Message, empty_message, blank, is_empty}
use Rattle.history.specs.State.{place_of}
use Rattle.member.proofs.Closing.{receive_is}
use Rattle.member.proofs.Soundness as memberSoundness
use Rattle.member.specs.Calls as member
use Rattle.member.specs.State.{Member}
use Rattle.member.specs.declared.Answer as memberAnswer
use Rattle.model.proofs.Invariant.{WorldInv, facts_in}
use Rattle.model.proofs.Step.{next_keeps, run_keeps, fresh_inv}
use Rattle.model.specs.Claim.{Opens}
use Rattle.model.specs.Log.{gather, order, submitted}
use Rattle.model.specs.World as model
use Rattle.model.specs.World.{Answer, absent, by_sequencer, by_member}
use Rattle.packet.proofs.Facts.{Facts, Says, Known}
use Rattle.packet.proofs.Laws.{read_written, content_fields, fields_group}
use Rattle.packet.specs.Packet.{read_of, payload_at, fields_of, from_elected, written}
use Rattle.packet.specs.declared.Packet.{Packet}
use Rattle.packet.specs.Answers.{Reading}
use Rattle.sequencer.specs.Calls as sequencer
use Rattle.sequencer.specs.State.{Sequencer}
use Rattle.window.specs.Places as window
use Rattle.recovery.proofs.Keeping.{of_member_lem, ResetSound}
use Rattle.recovery.proofs.Kept.{KeptSound, took_kept, counted_length, read_kept, read_past, read_counts}
use Rattle.recovery.proofs.Laws.{Frame, content_frame}
use Rattle.recovery.proofs.Ordering.{awake_step}
use Rattle.recovery.specs.Calls as terminal
use Rattle.recovery.specs.Calls.{fresh_terminal}
use Rattle.recovery.specs.Sound.{member_sound}
use Rattle.recovery.specs.State.{Kept, Terminal, no_reset, fresh_kept}
use Rattle.reset.specs.Same.{event_in, events_in, entry_in, entries_in, SameWithoutReset}
use Rattle.reset.specs.World.{Entry, Group, World, Happened, happen, missing, with_member, with_sequencer, no_terminal, terminal_at, at_terminal, take_at, at_sequencer, hand_to_member, hand_to_sequencer, step, run, fresh_terminals, fresh}

-- terminal i of a world without a reset: the group's member, no part in a reset, and, if it is 0, the group's sequencer
pub record Quiet (i : ℕ) (t : Terminal) (m : Member) (s : Sequencer) : Type 0 where
  pub member_is : t.member ≡ m
  pub reset_is : t.reset ≡ no_reset
  pub frozen_is : t.frozen ≡ false
  pub sequencing_is : t.sequencing ≡ (i =? 0)
  pub sequencer_is : i ≡ 0 → t.sequencer ≡ s
  pub kept : KeptSound m.group.n m.taken.0 t.kept
  pub past : length t.kept.past ≡ places_most
  pub counts : length t.kept.counts ≡ members_most

-- the world and the group
pub record Like (w : Group) (g : model.Group) : Type 0 where
  pub size : length w.terminals ≡ length g.members
  pub quiet : (i : ℕ) → i < length g.members → Quiet i (terminal_at w i) (get_or g.members i model.no_member) g.sequencer
  pub packets : w.packets ≡ g.packets

-- what an event leaves, and its answer
pub record Both (d : Happened) (d' : model.Happened) : Type 0 where
  pub like : Like d.group d'.group
  pub answer : d.answer ≡ d'.answer

-- what a call of a terminal comes to, and the member's
pub record Same (i : ℕ) (s : Sequencer) (o : terminal.Outcome) (o' : member.Outcome) : Type 0 where
  pub quiet : Quiet i o.terminal o'.member s
  pub answer : o.answer ≡ o'.answer
  pub bytes : o.bytes ≡ o'.bytes

pub no_reset_lem : (m : Member) → ResetSound m no_reset
no_reset_lem m =
    record {
      idle = λ _. (refl, refl);
      open_reply = λ f. absurd (false≢true f);
      itself = λ f. absurd (false≢true f);
      own_number = λ f. absurd (false≢true f);
      members = λ f. absurd (false≢true f);
      closed = λ _. (refl, refl);
      silent = λ i f. le_or members_most i (λ l. get_or-eq_default (replicate members_most 0) 0 {n = i} l) (λ l. get_or-replicate members_most i 0 0 l);
    }

-- a call of terminal i, where its member is sound
module _ (i : ℕ) (t : Terminal) (m : Member) (s : Sequencer) (q : Quiet i t m s) (sound : memberSoundness.Sound m) where
  sounds : member_sound t ≡ true
  sounds =
      of_member_lem t (rw q.member_is sound) (rw q.member_is q.kept) (subst (λ r. ResetSound t.member r) (sym q.reset_is) (no_reset_lem t.member))

  called : terminal.call_verdict t longest_packet ≡ all_yes
  unfolding terminal.call_verdict when◌then◌else◌
  called = rw sounds

  -- a member's outcome that leaves group and taken as they are
  carries : (o : member.Outcome) (kept : Kept) → KeptSound o.member.group.n o.member.taken.0 kept → length kept.past ≡ places_most → length kept.counts ≡ members_most
      → Same i s (terminal.carried t kept o) o
  carries o kept k p c =
      record {
        quiet =
            record {
              member_is = refl;
              reset_is = q.reset_is;
              frozen_is = q.frozen_is;
              sequencing_is = q.sequencing_is;
              sequencer_is = q.sequencer_is;
              kept = k;
              past = p;
              counts = c;
            };
        answer = refl;
        bytes = refl;
      }

  framed : (o : member.Outcome) → Frame m o.member → Same i s (terminal.carried t t.kept o) o
  framed o f = carries o t.kept (rw (f.group, f.taken) q.kept) q.past q.counts

  -- a call that is the member's
  calls : (call : Member → member.Outcome) → Frame m (call m).member
      → Same i s (judged (terminal.call_verdict t longest_packet) (terminal.refused t) (terminal.carried t t.kept (call t.member))) (call m)
  unfolding judged
  calls call f = rw (called, q.member_is) (framed (call m) f)

  refused_same : (refusal : Refusal) → Same i s (terminal.refused t refusal) (member.refused m refusal)
  unfolding terminal.refused member.answered
  refused_same refusal =
      record {
        quiet = record { member_is = q.member_is; reset_is = q.reset_is; frozen_is = q.frozen_is; sequencing_is = q.sequencing_is; sequencer_is = q.sequencer_is; kept = q.kept; past = q.past; counts = q.counts };
        answer = refl;
        bytes = refl;
      }

took_past : (kept : Kept) (number : ℕ) (message : Message) → length kept.past ≡ places_most → length (terminal.kept_took kept number message).past ≡ places_most
unfolding terminal.kept_took
took_past kept number message l = length-set kept.past (place_of number) message ∙ l

took_counts : (kept : Kept) (number : ℕ) (message : Message) → length kept.counts ≡ members_most → length (terminal.kept_took kept number message).counts ≡ members_most
unfolding terminal.kept_took
took_counts kept number message l = counted_length kept.counts message ∙ l

member_accepted : (m : Member) → memberSoundness.Sound m → member.call_verdict m longest_packet ≡ all_yes
unfolding member.call_verdict when◌then◌else◌
member_accepted m sound = rw (memberSoundness.of_sound m sound)

-- what the calls leave of a member
submit_frame : (m : Member) (payload : List ℕ) (room : ℕ) → Frame m (member.submit_of m payload room).member
unfolding member.submit_of member.answered member.with_waiting
submit_frame m payload room =
    let P : member.Outcome → Type 0 = λ o. Frame m o.member in
    judged_elim P (member.call_verdict m room) (λ _ _. record { group = refl; number = refl; taken = refl })
    (λ _. judged_elim P (member.submit_verdict m (length payload)) (λ _ _. record { group = refl; number = refl; taken = refl })
    (λ _. when_elim P (m.waiting =? 0) (λ _. record { group = refl; number = refl; taken = refl }) (λ _. record { group = refl; number = refl; taken = refl })))

repeat_frame : (m : Member) (room : ℕ) → Frame m (member.repeat_of m room).member
unfolding member.repeat_of member.answered
repeat_frame m room =
    let P : member.Outcome → Type 0 = λ o. Frame m o.member in
    judged_elim P (member.call_verdict m room) (λ _ _. record { group = refl; number = refl; taken = refl })
    (λ _. when_elim P (1 ≤? m.waiting) (λ _. record { group = refl; number = refl; taken = refl }) (λ _. record { group = refl; number = refl; taken = refl }))

status_frame : (m : Member) (room : ℕ) → Frame m (member.status_of m room).member
unfolding member.status_of member.answered
status_frame m room =
    let P : member.Outcome → Type 0 = λ o. Frame m o.member in
    judged_elim P (member.call_verdict m room) (λ _ _. record { group = refl; number = refl; taken = refl }) (λ _. record { group = refl; number = refl; taken = refl })

module _ (i : ℕ) (t : Terminal) (m : Member) (s : Sequencer) (q : Quiet i t m s) (sound : memberSoundness.Sound m) where
  submit_same : (payload : List ℕ) → Same i s (terminal.submit_of t payload longest_packet) (member.submit_of m payload longest_packet)
  unfolding terminal.submit_of
  submit_same payload = calls i t m s q sound (λ x. member.submit_of x payload longest_packet) (submit_frame m payload longest_packet)

  repeat_same : Same i s (terminal.repeat_of t longest_packet) (member.repeat_of m longest_packet)
  unfolding terminal.repeat_of
  repeat_same = calls i t m s q sound (λ x. member.repeat_of x longest_packet) (repeat_frame m longest_packet)

  status_same : Same i s (terminal.status_of t longest_packet) (member.status_of m longest_packet)
  unfolding terminal.status_of
  status_same = calls i t m s q sound (λ x. member.status_of x longest_packet) (status_frame m longest_packet)

  abbrev next : ℕ
  next = m.taken.0 + 1

  abbrev message : Message
  message = window.message_at m.held next

  took_by : (b : Bool) → member.is_ready m next ≡ b
      → Same i s (terminal.carried t (when b then terminal.kept_took t.kept next message else t.kept) (when b then member.took_of m message else member.answered m memberAnswer.Answer.None))
      (when b then member.took_of m message else member.answered m memberAnswer.Answer.None)
  unfolding when◌then◌else◌ member.is_ready member.took_of member.answered member.with_taken
  took_by true e =
      let held = ltb-true 0 message.count (both_first (0 <? message.count) _ e) in
      let h = sound.places.holds next (omega arith) (omega arith) held in
      let most = sound.n_most in
      let l = q.counts in
      carries i t m s q sound (member.took_of m message) (terminal.kept_took t.kept next message)
      (took_kept m.group.n m.taken.0 t.kept message q.past (omega arith) h.originator_lt held h.short h.zero_behind_lem q.kept)
      (took_past t.kept next message q.past) (took_counts t.kept next message q.counts)
  took_by false e = carries i t m s q sound (member.answered m memberAnswer.Answer.None) t.kept q.kept q.past q.counts

  take_same : Same i s (terminal.take_of t longest_packet) (member.take_of m longest_packet)
  unfolding terminal.take_of member.take_of judged
  take_same = rw (called i t m s q sound, q.member_is, member_accepted m sound) (took_by (member.is_ready m next) refl)

  -- a packet of the group, which is of no reset
  module _ (group : ℕ) (content : Packet) (payload bytes : List ℕ) (number : m.group.number ≡ group)
      (reads : (read_of bytes ≡ Ok (fields_of group content)) × (payload_at bytes ≡ payload)) (plain : terminal.of_reset content ≡ false) where
    heard_same : (b : Bool) → from_elected m.group content ≡ b
        → Same i s (when b then terminal.heard_of t content payload else terminal.refused t Refusal.ForbiddenFields) (when b then member.content_step m content payload else member.refused m Refusal.ForbiddenFields)
    unfolding when◌then◌else◌ terminal.heard_of
    heard_same true e =
        let f = content_frame m content payload in
        let o : member.Outcome = member.content_step m content payload in
        rw q.member_is
        (carries i t m s q sound o (terminal.kept_read t.kept o.answer (terminal.floor_in content))
        (read_kept t.kept o.answer (terminal.floor_in content) o.member.group.n o.member.taken.0 (rw (f.group, f.taken) q.kept))
        (rw (read_past t.kept o.answer (terminal.floor_in content)) q.past) (rw (read_counts t.kept o.answer (terminal.floor_in content)) q.counts))
    heard_same false e = refused_same i t m s q sound Refusal.ForbiddenFields

    -- the terminal reads it as the member does
    read_same : terminal.receive_of t bytes longest_packet ≡ (when from_elected m.group content then terminal.heard_of t content payload else terminal.refused t Refusal.ForbiddenFields)
    unfolding terminal.receive_of judged terminal.read_step when◌then◌else◌
    read_same =
        let e : ((fields_of group content).group =? m.group.number) ≡ true = eq-eqb (fields_of group content).group m.group.number (fields_group group content ∙ sym number) in
        rw (called i t m s q sound, reads.0, reads.1, content_fields group content, plain, q.reset_is, q.member_is, e)

    pub receive_same : member.receive_of m bytes longest_packet ≡ (when from_elected m.group content then member.content_step m content payload else member.refused m Refusal.ForbiddenFields)
        → Same i s (terminal.receive_of t bytes longest_packet) (member.receive_of m bytes longest_packet)
    receive_same is =
        subst (λ (o : member.Outcome). Same i s (terminal.receive_of t bytes longest_packet) o) (sym is)
        (subst (λ (o : terminal.Outcome). Same i s o (when from_elected m.group content then member.content_step m content payload else member.refused m Refusal.ForbiddenFields)) (sym read_same)
        (heard_same (from_elected m.group content) refl))

-- a packet that a group without a reset knows is of none
pub known_plain : (f : Facts) (content : Packet) (payload : List ℕ) → Says f content payload → terminal.of_reset content ≡ false
unfolding terminal.of_reset
known_plain f (Packet.Request sender taken count) payload so = refl
known_plain f (Packet.Broadcast originator number count floor) payload so = refl
known_plain f (Packet.Gap sender taken first last) payload so = refl
known_plain f (Packet.Status sender taken) payload so = refl
known_plain f (Packet.Poll elected top floor) payload so = refl
known_plain f (Packet.Offer originator number count floor) payload so = refl
known_plain f (Packet.Confirm sender number) payload so = refl
known_plain f (Packet.Accept elected number) payload so = refl
known_plain f (Packet.Invitation sender attempt) payload so = absurd so
known_plain f (Packet.Reply sender attempt number) payload so = absurd so
known_plain f (Packet.Result sender attempt elected number) payload so = absurd so

-- terminal 0 with another sequencer
seated : (j : ℕ) (t : Terminal) (m : Member) (s s' : Sequencer) → Quiet j t m s → Quiet j (terminal.with_sequencer t s') m s'
seated j t m s s' q =
    record {
      member_is = q.member_is;
      reset_is = q.reset_is;
      frozen_is = q.frozen_is;
      sequencing_is = q.sequencing_is;
      sequencer_is = λ z. refl;
      kept = q.kept;
      past = q.past;
      counts = q.counts;
    }

-- a choice by the same test
when_both : (b b' : Bool) → b ≡ b' → (x y : Happened) (x' y' : model.Happened) → (b' ≡ true → Both x x') → Both y y' → Both (when b then x else y) (when b' then x' else y')
unfolding when◌then◌else◌
when_both true true e x y x' y' f g = f refl
when_both false false e x y x' y' f g = g
when_both true false e x y x' y' f g = absurd (false≢true (sym e))
when_both false true e x y x' y' f g = absurd (false≢true e)

-- the world after a call of terminal i, and the group after one of its member
module _ (w : Group) (g : model.Group) (v : Like w g) where
  set_like : (i : ℕ) (o : terminal.Outcome) (o' : member.Outcome) (packets : List (List ℕ)) → i < length g.members → Same i g.sequencer o o' → Both (with_member w i o packets) (model.with_member g i o' packets)
  set_like i o o' packets b z =
      record {
        like =
            record {
              size = length-set w.terminals i o.terminal ∙ v.size ∙ sym (length-set g.members i o'.member);
              quiet = λ j c.
                  let l = length-set g.members i o'.member in
                  let s = v.size in
                  set_each (λ (k : ℕ) (t : Terminal). Quiet k t (get_or (set g.members i o'.member) k model.no_member) g.sequencer) w.terminals i o.terminal no_terminal j
                  (λ e. rw (e, get_or-set_same g.members i o'.member model.no_member b) z.quiet)
                  (λ e. rw (get_or-set_other g.members i j o'.member model.no_member e) (v.quiet j (omega arith))) (omega arith);
              packets = ap (λ (l : List (List ℕ)). l ++ packets) v.packets;
            };
        answer = rw (z.answer, z.bytes);
      }

  missing_both : Both (missing w) (model.missing g)
  missing_both = record { like = v; answer = refl }

  -- a call that writes packets
  at_both : (i : ℕ) (call : Terminal → terminal.Outcome) (call' : Member → member.Outcome)
      → (i < length g.members → Same i g.sequencer (call (terminal_at w i)) (call' (get_or g.members i model.no_member))) → Both (at_terminal w i call) (model.at_member g i call')
  at_both i call call' h =
      when_both (i <? length w.terminals) (i <? length g.members) (ap (λ (l : ℕ). i <? l) v.size) _ _ _ _
      (λ b.
      let o : terminal.Outcome = call (terminal_at w i) in
      let o' : member.Outcome = call' (get_or g.members i model.no_member) in
      let less = ltb-true i (length g.members) b in
      let z = h less in
      subst (λ (l : List ℕ). Both (with_member w i o (written l)) (model.with_member g i o' (written o'.bytes))) (sym z.bytes) (set_like i o o' (written o'.bytes) less z))
      missing_both

  take_both : (i : ℕ) → (i < length g.members → Same i g.sequencer (terminal.take_of (terminal_at w i) longest_packet) (member.take_of (get_or g.members i model.no_member) longest_packet))
      → Both (take_at w i) (model.take_at g i)
  take_both i h =
      when_both (i <? length w.terminals) (i <? length g.members) (ap (λ (l : ℕ). i <? l) v.size) _ _ _ _
      (λ b. let less = ltb-true i (length g.members) b in set_like i _ _ [] less (h less)) missing_both

  -- what a call of the sequencer leaves
  ordered_both : (o : sequencer.Outcome) → 0 < length g.members → Both (with_sequencer w 0 (terminal.ordered (terminal_at w 0) o)) (model.with_sequencer g o)
  ordered_both o low =
      let l = v.size in
      record {
        like =
            record {
              size = length-set w.terminals 0 _ ∙ v.size;
              quiet = λ j c.
                  set_each (λ (k : ℕ) (t : Terminal). Quiet k t (get_or g.members k model.no_member) o.sequencer) w.terminals 0 (terminal.with_sequencer (terminal_at w 0) o.sequencer) no_terminal j
                  (λ e. rw e (seated 0 (terminal_at w 0) (get_or g.members 0 model.no_member) g.sequencer o.sequencer (v.quiet 0 low)))
                  (λ e.
                  let q = v.quiet j c in
                  record { member_is = q.member_is; reset_is = q.reset_is; frozen_is = q.frozen_is; sequencing_is = q.sequencing_is; sequencer_is = λ z. absurd (e z); kept = q.kept; past = q.past; counts = q.counts })
                  (omega arith);
              packets = ap (λ (x : List (List ℕ)). x ++ written o.bytes) v.packets;
            };
        answer = refl;
      }

  -- a call of the sequencer, which is terminal 0's
  sequencer_both : (call : Terminal → terminal.SequencerOutcome) (o : sequencer.Outcome) → 0 < length g.members → call (terminal_at w 0) ≡ terminal.ordered (terminal_at w 0) o
      → Both (at_sequencer w 0 call) (model.with_sequencer g o)
  unfolding when◌then◌else◌
  sequencer_both call o low e =
      let q = v.quiet 0 low in
      let l = v.size in
      let inside : (0 <? length w.terminals) ≡ true = lt-ltb 0 (length w.terminals) (omega arith) in
      rw (inside, q.sequencing_is, e) (ordered_both o low)

pub order_calls : (t : Terminal) (s : Sequencer) (p : List ℕ) → t.frozen ≡ false → t.sequencer ≡ s → terminal.order_of t p longest_packet ≡ terminal.ordered t (sequencer.receive_of s p longest_packet)
unfolding terminal.order_of sequencer.receive_of
order_calls t s p f e =
    ap (λ (o : sequencer.Outcome). terminal.ordered t o)
    (ap (λ (o : sequencer.Outcome). judged (sequencer.call_verdict t.sequencer longest_packet) (sequencer.refused t.sequencer) o) (awake_step t f (read_of p) (payload_at p))
    ∙ ap (λ (x : Sequencer). judged (sequencer.call_verdict x longest_packet) (sequencer.refused x) (sequencer.read_step x (read_of p) (payload_at p))) e)

-- an event, where the group's invariant holds
module _ (group : description.Group) (wm : model.World) (inv : WorldInv group wm) (low : 1 ≤ group.n) (w : Group) (v : Like w wm.group) where
  abbrev g : model.Group
  g = wm.group

  abbrev facts : Facts
  facts = facts_in group g (order wm.log) (λ i. submitted i wm.log)

  member_sound_lem : (i : ℕ) → i < length g.members → memberSoundness.Sound (get_or g.members i model.no_member)
  member_sound_lem i b = let z = inv.members in memberSoundness.sound_of_lem _ (inv.terminal i (omega arith)).content.sound

  first : 0 < length g.members
  first = let z = inv.members in omega arith

  hand_both : (i : ℕ) (p : List ℕ) → Known group.number facts p → Both (at_terminal w i (λ t. terminal.receive_of t p longest_packet)) (model.at_member g i (λ m. member.receive_of m p longest_packet))
  hand_both i p k =
      at_both w g v i (λ t. terminal.receive_of t p longest_packet) (λ m. member.receive_of m p longest_packet)
      (λ b.
      let m : Member = get_or g.members i model.no_member in
      let z = inv.members in
      let h = inv.terminal i (omega arith) in
      let r = read_written (fields_of group.number k.content) k.payload k.allowed in
      let reads : (read_of p ≡ Ok (fields_of group.number k.content)) × (payload_at p ≡ k.payload) = rw k.bytes_are r in
      let is = receive_is m group k.content k.payload h.content.sound h.seat.group_is k.allowed in
      receive_same i (terminal_at w i) m g.sequencer (v.quiet i b) (member_sound_lem i b) group.number k.content k.payload p (ap (λ (x : description.Group). x.number) h.seat.group_is) reads
      (known_plain facts k.content k.payload k.says) (ap (λ (x : List ℕ). member.receive_of m x longest_packet) k.bytes_are ∙ is))

  ordered_packet : (p : List ℕ) → Both (at_sequencer w 0 (λ t. terminal.order_of t p longest_packet)) (model.with_sequencer g (sequencer.receive_of g.sequencer p longest_packet))
  ordered_packet p =
      let q = v.quiet 0 first in
      sequencer_both w g v (λ t. terminal.order_of t p longest_packet) (sequencer.receive_of g.sequencer p longest_packet) first (order_calls (terminal_at w 0) g.sequencer p q.frozen_is (q.sequencer_is refl))

  handed : (k i : ℕ) (x : Option (List ℕ)) → get_elem? g.packets k ≡ x → Both (hand_to_member w i x) (model.hand_to_member g i x)
  handed k i none e = missing_both w g v
  handed k i (some p) e = hand_both i p (all_get _ g.packets k inv.packets e)

  ordered_handed : (x : Option (List ℕ)) → Both (hand_to_sequencer w 0 x) (model.hand_to_sequencer g x)
  ordered_handed none = missing_both w g v
  ordered_handed (some p) = ordered_packet p

  same_step : (e : model.Event) → Both (happen w (event_in e)) (model.happen g e)
  unfolding happen model.happen terminal.poll_of terminal.copy_of
  same_step (model.submit i p) = at_both w g v i (λ t. terminal.submit_of t p longest_packet) (λ m. member.submit_of m p longest_packet) (λ b. submit_same i (terminal_at w i) _ g.sequencer (v.quiet i b) (member_sound_lem i b) p)
  same_step (model.repeat i) = at_both w g v i (λ t. terminal.repeat_of t longest_packet) (λ m. member.repeat_of m longest_packet) (λ b. repeat_same i (terminal_at w i) _ g.sequencer (v.quiet i b) (member_sound_lem i b))
  same_step (model.take i) = take_both w g v i (λ b. take_same i (terminal_at w i) _ g.sequencer (v.quiet i b) (member_sound_lem i b))
  same_step (model.status i) = at_both w g v i (λ t. terminal.status_of t longest_packet) (λ m. member.status_of m longest_packet) (λ b. status_same i (terminal_at w i) _ g.sequencer (v.quiet i b) (member_sound_lem i b))
  same_step model.poll =
      let q = v.quiet 0 first in
      sequencer_both w g v (λ t. terminal.poll_of t longest_packet) (sequencer.poll_of g.sequencer longest_packet) first
      (ap (λ (s : Sequencer). terminal.ordered (terminal_at w 0) (sequencer.poll_of s longest_packet)) (q.sequencer_is refl))
  same_step (model.copy number) =
      let q = v.quiet 0 first in
      sequencer_both w g v (λ t. terminal.copy_of t (record { 0 = number }) longest_packet) (sequencer.copy_of g.sequencer (record { 0 = number }) longest_packet) first
      (ap (λ (s : Sequencer). terminal.ordered (terminal_at w 0) (sequencer.copy_of s (record { 0 = number }) longest_packet)) (q.sequencer_is refl))
  same_step (model.hand_member k i) =
      subst (λ (x : Option (List ℕ)). Both (hand_to_member w i x) (model.hand_to_member g i (get_elem? g.packets k))) (sym (ap (λ (l : List (List ℕ)). get_elem? l k) v.packets))
      (handed k i (get_elem? g.packets k) refl)
  same_step (model.hand_sequencer k) =
      subst (λ (x : Option (List ℕ)). Both (hand_to_sequencer w 0 x) (model.hand_to_sequencer g (get_elem? g.packets k))) (sym (ap (λ (l : List (List ℕ)). get_elem? l k) v.packets))
      (ordered_handed (get_elem? g.packets k))

-- lists of events
entries_snoc : (l : List model.Entry) (x : model.Entry) → entries_in (l ++ (x ∷ [])) ≡ entries_in l ++ (entry_in x ∷ [])
unfolding entries_in
entries_snoc [] x = refl
entries_snoc (y ∷ l) x = ap (λ (r : List Entry). entry_in y ∷ r) (entries_snoc l x)

record Goes (w : World) (m : model.World) : Type 0 where
  like : Like w.group m.group
  log : w.log ≡ entries_in m.log

module _ (group : description.Group) (low : 1 ≤ group.n) (most : group.n ≤ members_most) (fits : group.number ≤ largest_number) where
  next_goes : (w : World) (m : model.World) (e : model.Event) → WorldInv group m → Goes w m → Goes (step w (event_in e)) (model.step m e)
  next_goes w m e inv v =
      let b = same_step group m inv low w.group v.like e in
      record {
        like = b.like;
        log =
            ap (λ (l : List Entry). l ++ (record { event = event_in e; answer = (happen w.group (event_in e)).answer } ∷ [])) v.log
            ∙ ap (λ (a : Answer). entries_in m.log ++ (record { event = event_in e; answer = a } ∷ [])) b.answer
            ∙ sym (entries_snoc m.log (record { event = e; answer = (model.happen m.group e).answer }));
      }

  run_goes : (w : World) (m : model.World) (es : List model.Event) → WorldInv group m → Goes w m → Goes (run w (events_in es)) (model.run m es)
  unfolding run model.run events_in
  run_goes w m [] inv v = v
  run_goes w m (e ∷ es) inv v = run_goes (step w (event_in e)) (model.step m e) es (next_keeps group most fits m e inv) (next_goes w m e inv v)

-- a fresh world
module _ (n number resilience : ℕ) where
  pub terminals_length : (i k : ℕ) → length (fresh_terminals n number resilience i k) ≡ k
  unfolding fresh_terminals
  terminals_length i zero = refl
  terminals_length i (suc k) = ap suc (terminals_length (i + 1) k)

  pub members_length : (i k : ℕ) → length (model.fresh_members n number resilience i k) ≡ k
  unfolding model.fresh_members
  members_length i zero = refl
  members_length i (suc k) = ap suc (members_length (i + 1) k)

  pub terminals_at : (i k j : ℕ) → j < k → get_or (fresh_terminals n number resilience i k) j no_terminal ≡ fresh_terminal n number resilience (i + j)
  unfolding fresh_terminals
  terminals_at i zero j h = absurd (omega arith)
  terminals_at i (suc k) zero h = let z : i ≡ i + 0 = omega arith in ap (λ (x : ℕ). fresh_terminal n number resilience x) z
  terminals_at i (suc k) (suc j) h =
      let z : i + 1 + j ≡ i + suc j = omega arith in
      terminals_at (i + 1) k j (omega arith) ∙ ap (λ (x : ℕ). fresh_terminal n number resilience x) z

  members_at : (i k j : ℕ) → j < k → get_or (model.fresh_members n number resilience i k) j model.no_member ≡ (fresh_terminal n number resilience (i + j)).member
  unfolding model.fresh_members
  members_at i zero j h = absurd (omega arith)
  members_at i (suc k) zero h = let z : i ≡ i + 0 = omega arith in ap (λ (x : ℕ). (fresh_terminal n number resilience x).member) z
  members_at i (suc k) (suc j) h =
      let z : i + 1 + j ≡ i + suc j = omega arith in
      members_at (i + 1) k j (omega arith) ∙ ap (λ (x : ℕ). (fresh_terminal n number resilience x).member) z

-- nothing is kept where nothing was taken
fresh_kept_lem : (n taken : ℕ) → taken ≡ 0 → KeptSound n taken fresh_kept
fresh_kept_lem n taken e =
    record {
      unused = λ i h. le_or members_most i (λ l. get_or-eq_default (replicate members_most 0) 0 {n = i} l) (λ l. get_or-replicate members_most i 0 0 l);
      past = λ s a b. absurd (omega arith);
      empty = λ s a b. ap is_empty (get_or-replicate places_most (place_of s) empty_message blank (omega arith)) ∙ empty_zero;
    }

module _ (n number resilience : ℕ) (o : Opens n number resilience) where
  pub fresh_quiet : (i : ℕ) → i < n → Quiet i (fresh_terminal n number resilience i) (get_or (model.fresh_members n number resilience 0 n) i model.no_member) (sequencer.fresh_of n number resilience).sequencer
  unfolding model.fresh gather
  fresh_quiet i b =
      let z : 0 + i ≡ i = omega arith in
      let m : get_or (model.fresh_members n number resilience 0 n) i model.no_member ≡ (fresh_terminal n number resilience i).member = members_at n number resilience 0 n i b ∙ ap (λ (x : ℕ). (fresh_terminal n number resilience x).member) z in
      let t = ((fresh_inv n number resilience o).terminal i b).content.taken_le in
      record {
        member_is = sym m;
        reset_is = refl;
        frozen_is = refl;
        sequencing_is = refl;
        sequencer_is = λ e. first_sequencer i e;
        kept = fresh_kept_lem _ _ (no_more _ t);
        past = length-replicate places_most empty_message;
        counts = length-replicate {A = ℕ} members_most 0;
      }
    where
      no_more : (k : ℕ) → k ≤ 0 → k ≡ 0
      no_more k h = omega arith

      first_sequencer : (i : ℕ) → i ≡ 0 → (fresh_terminal n number resilience i).sequencer ≡ (sequencer.fresh_of n number resilience).sequencer
      first_sequencer i e = sym (when_true (i =? 0) _ _ _ (eq-eqb i 0 e) refl)

  fresh_goes : Goes (fresh n number resilience) (model.fresh n number resilience)
  unfolding fresh model.fresh entries_in
  fresh_goes =
      record {
        like =
            record {
              size = terminals_length n number resilience 0 n ∙ sym (members_length n number resilience 0 n);
              quiet = λ i b.
                  let l = members_length n number resilience 0 n in
                  let z : 0 + i ≡ i = omega arith in
                  let e : get_or (fresh_terminals n number resilience 0 n) i no_terminal ≡ fresh_terminal n number resilience i =
                  terminals_at n number resilience 0 n i (omega arith) ∙ ap (λ (x : ℕ). fresh_terminal n number resilience x) z in
                  subst (λ (t : Terminal). Quiet i t (get_or (model.fresh_members n number resilience 0 n) i model.no_member) (sequencer.fresh_of n number resilience).sequencer) (sym e) (fresh_quiet i (omega arith));
              packets = refl;
            };
        log = refl;
      }

pub same_without_reset : SameWithoutReset
same_without_reset n number resilience o events =
    let group : description.Group = description_of n number resilience in
    let start = fresh_inv n number resilience o in
    let m : model.World = model.run (model.fresh n number resilience) events in
    let v = run_goes group o.least o.most o.fits (fresh n number resilience) (model.fresh n number resilience) events start (fresh_goes n number resilience o) in
    let size : length m.group.members ≡ n = (run_keeps group o.most o.fits (model.fresh n number resilience) events start).members in
    let least = o.least in
    record {
      members = λ i b. (v.like.quiet i (omega arith)).member_is;
      sequencer = (v.like.quiet 0 (omega arith)).sequencer_is refl;
      packets = v.like.packets;
      log = v.log;
    }
