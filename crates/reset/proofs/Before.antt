-- Each event before a making leaves a world that is a group of `model`: the event is one of that group, or it changes no member and no
-- sequencer. Assumes nothing.
use Rattle.group.specs.Question.{all_yes}
use Rattle.std.specs.Prelude.{Ok}
use mathlib.Core.Path.{◌≡◌, refl, sym, ap, ◌∙◌, subst, fun_ext}
use mathlib.Core.Logic.{◌≢◌, ◌⊎◌, inl, inr}
use mathlib.Core.Bool.{Bool, true, false, false≢true}
use mathlib.Core.Option.{Option, none, some}
use mathlib.Core.List.{List, [], ◌∷◌, ◌++◌, append-nil}
use Prim.Native.Nat.{ℕ, ◌+◌, ◌^◌, ◌≤◌, ◌<◌}
use native.Mathlib.Omega.{arith}
use borrow.Author.Tests.{lt-ltb, ltb-true, eqb-true, eq-eqb}
use lib.Count.{ones}
use lib.ListN.{length, get_or, set, replicate, get_elem?, length-set, length-replicate}
use lib.Seq.{get_or-set_same, get_or-set_other}
use Rattle.group.proofs.Choice.{when_true, both_hold, both_first, both_then}
use Rattle.group.proofs.Lists.{when_elim, judged_elim, All, all_get, get_last}
use Rattle.group.proofs.Members.{in_only, in_or, in_zero}
use Rattle.group.specs.Choice.{when◌then◌else◌, ◌and◌, ◌<?◌, ◌≤?◌, ◌=?◌}
use Rattle.group.specs.Limits.{members_most, places_most, longest_packet, largest_number}
use lib.Bits.{bit_or}
use Rattle.group.specs.Members.{is_in, only_of}
use Rattle.group.specs.Opening.{description_of}
use Rattle.group.specs.Question.{judged}
use Rattle.group.specs.declared.Group as description
use Rattle.group.specs.declared.MemberNumber.{MemberNumber}
use Rattle.group.specs.declared.Refusal.{Refusal}
use Rattle.group.specs.Question.{Verdict}
use Rattle.history.specs.State.{place_of}
use Rattle.message.specs.Order.{Ordered}
use Rattle.member.proofs.Closing.{receive_named}
use Rattle.member.specs.Calls as member
use Rattle.member.specs.State.{Member}
use Rattle.member.specs.declared.Answer as memberAnswer
use Rattle.model.proofs.Invariant.{Inv, facts_in}
use Rattle.model.proofs.Step.{step_keeps}
use Rattle.model.specs.Claim.{Opens}
use Rattle.model.specs.Log as modelLog
use Rattle.model.specs.Log.{numbered_in}
use Rattle.model.specs.World as model
use Rattle.model.specs.World.{Answer, absent, by_sequencer, by_member}
use Rattle.packet.proofs.Facts.{Known}
use Rattle.packet.proofs.Laws.{read_written, content_fields, fields_group}
use Rattle.packet.proofs.Permitted.{invitation_fields, reply_fields}
use Rattle.packet.proofs.RoundTrip.{header_back}
use Rattle.packet.proofs.Verdicts.{accepted}
use Rattle.packet.specs.Packet.{header_of, read_of, payload_at, fields_of, packet_of, from_elected, written}
use Rattle.packet.specs.declared.Packet.{Packet}
use Rattle.packet.specs.Answers.{Reading}
use Rattle.sequencer.specs.Calls as sequencer
use Rattle.sequencer.specs.Laws as sequencerLaws
use Rattle.sequencer.specs.Order.{numbered_by}
use Rattle.sequencer.specs.Sound as sequencerCalls
use Rattle.sequencer.specs.State.{Sequencer}
use Rattle.window.specs.Places as window
use Rattle.recovery.proofs.Beginning.{reach_fits}
use Rattle.recovery.proofs.Holding.{poll_leaves, copy_leaves}
use Rattle.recovery.proofs.Keeping.{Sound, sound_of_lem, of_sound, invited_sound, replied_sound, closed_sound, reply_sound_lem}
use Rattle.recovery.proofs.Kept.{counted_length, read_past, read_counts}
use Rattle.recovery.proofs.Laws as terminalProofs
use Rattle.recovery.proofs.Ordering.{reset_other}
use Rattle.recovery.specs.Calls as terminal
use Rattle.recovery.specs.Laws as terminalLaws
use Rattle.recovery.specs.Sound.{member_sound, sequencer_sound, terminal_sound}
use Rattle.recovery.specs.State.{Kept, Reset, Terminal, serves, reply_number}
use Rattle.reset.specs.Course.{took_at, submitted_at, is_sent}
use Rattle.reset.specs.World.{Event, submit, repeat, take, status, poll, copy, hand_member, hand_sequencer, invite, make, Group, Happened, happen, missing, with_member, with_sequencer, no_terminal, terminal_at, at_terminal, at_sequencer, hand_to_member, hand_to_sequencer}
use Rattle.reset.proofs.Carried.{sound_member, called, submit_is, repeat_is, status_is, take_is}
use Rattle.reset.proofs.First.{Replied, Steady, steady_replied, same_steady, Stands, SaysReset, Resets, Covered, Rel, Acts, rel_member}
use Rattle.reset.proofs.Numbering.{poll_adds, copy_adds}
use Rattle.reset.proofs.Same.{known_plain, order_calls}
use Rattle.reset.proofs.Writing.{written_all}

-- what an event adds to the order: what a sequencer numbered
unfoldable pub ordered_by : Event → Answer → List Ordered
ordered_by (submit i payload) answer = []
ordered_by (repeat i) answer = []
ordered_by (take i) answer = []
ordered_by (status i) answer = []
ordered_by (poll i) answer = []
ordered_by (copy i number) answer = []
ordered_by (hand_member k i) answer = []
ordered_by (hand_sequencer k i) answer = numbered_in answer
ordered_by (invite i number) answer = []
ordered_by (make i demand) answer = []

-- a packet that was written last is one of the group's
written_covered : (at : ℕ → Terminal) (n number : ℕ) (packets : List (List ℕ)) (bytes : List ℕ) → All (Covered at n number (packets ++ written bytes)) (written bytes)
unfolding written
written_covered at n number packets [] = tt
written_covered at n number packets (x ∷ bytes) = (inl (length packets, get_last packets (x ∷ bytes)), tt)

-- a terminal that did not reply, with another sound sequencer
changed_sound : (t : Terminal) (s : Sequencer) → Sound t → sequencerCalls.sound_of s ≡ true → s.group.n ≡ t.member.group.n → t.reset.replied ≡ false → t.sequencing ≡ true
    → terminal_sound (terminal.with_sequencer t s) ≡ true
unfolding sequencer_sound when◌then◌else◌
changed_sound t s sound ok same closed sequencing =
    of_sound (terminal.with_sequencer t s)
    (record {
      member = sound.member;
      kept = sound.kept;
      reset = sound.reset;
      sequencer = rw sequencing (both_hold (sequencerCalls.sound_of s) _ ok (eq-eqb _ _ same));
      number_is = λ r. absurd (false≢true (sym closed ∙ r));
      freezes = λ r. absurd (false≢true (sym closed ∙ r));
    })

-- what a terminal's sequencer makes of fields, where what it would say is a no
ordered_refuses : (t : Terminal) (number : ℕ) (content : Packet) (payload : List ℕ) (P : sequencer.Outcome → Type 0) → ((r : Refusal) → P (sequencer.refused t.sequencer r))
    → (((fields_of number content).group =? t.sequencer.group.number and (when t.frozen then terminal.of_reset content else true)) ≡ true → sequencer.content_step t.sequencer content payload ≡ sequencer.refused t.sequencer Refusal.OtherEnd)
    → P (terminal.ordered_step t (Ok (fields_of number content)) payload)
unfolding terminal.ordered_step
ordered_refuses t number content payload P refuse says =
    subst
    (λ (c : Packet).
    P (when from_elected t.sequencer.group c
    then (when (fields_of number content).group =? t.sequencer.group.number and (when t.frozen then terminal.of_reset c else true) then sequencer.content_step t.sequencer c payload else sequencer.refused t.sequencer Refusal.OtherGroup)
    else sequencer.refused t.sequencer Refusal.ForbiddenFields))
    (sym (content_fields number content))
    (when_elim P (from_elected t.sequencer.group content)
    (λ _. when_elim P ((fields_of number content).group =? t.sequencer.group.number and (when t.frozen then terminal.of_reset content else true))
    (λ h. subst P (sym (says h)) (refuse Refusal.OtherEnd)) (λ _. refuse Refusal.OtherGroup))
    (λ _. refuse Refusal.ForbiddenFields))

frozen_no : (a f r : Bool) → f ≡ true → r ≡ false → (a and (when f then r else true)) ≡ true → ⊥
unfolding when◌then◌else◌
frozen_no true true false x y e = false≢true e
frozen_no false true false x y e = false≢true e
frozen_no a false r x y e = false≢true x
frozen_no a true true x y e = false≢true (sym y)

-- what is not there adds nothing
pub when_either : {A : Type 0} (b : Bool) (x : A) → (when b then x else x) ≡ x
unfolding when◌then◌else◌
when_either true x = refl
when_either false x = refl

ordered_absent : (e : Event) → ordered_by e absent ≡ []
unfolding ordered_by numbered_in
ordered_absent (submit i p) = refl
ordered_absent (repeat i) = refl
ordered_absent (take i) = refl
ordered_absent (status i) = refl
ordered_absent (poll i) = refl
ordered_absent (copy i k) = refl
ordered_absent (hand_member k i) = refl
ordered_absent (hand_sequencer k i) = refl
ordered_absent (invite i k) = refl
ordered_absent (make i demand) = refl

took_absent : (e : Event) (j : ℕ) → took_at j e absent ≡ []
unfolding took_at modelLog.took_in
took_absent (submit i p) j = refl
took_absent (repeat i) j = refl
took_absent (take i) j = when_either (i =? j) []
took_absent (status i) j = refl
took_absent (poll i) j = refl
took_absent (copy i k) j = refl
took_absent (hand_member k i) j = refl
took_absent (hand_sequencer k i) j = refl
took_absent (invite i k) j = refl
took_absent (make i demand) j = refl

submitted_absent : (e : Event) (j : ℕ) → submitted_at j e absent ≡ []
unfolding submitted_at modelLog.accepted_in
submitted_absent (submit i p) j = when_either (i =? j) []
submitted_absent (repeat i) j = refl
submitted_absent (take i) j = refl
submitted_absent (status i) j = refl
submitted_absent (poll i) j = refl
submitted_absent (copy i k) j = refl
submitted_absent (hand_member k i) j = refl
submitted_absent (hand_sequencer k i) j = refl
submitted_absent (invite i k) j = refl
submitted_absent (make i demand) j = refl

pub inv_ext : (group : description.Group) (g : model.Group) (ord ord' : List Ordered) (tk tk' : ℕ → List Ordered) (sb sb' : ℕ → List (List ℕ))
    → ord' ≡ ord → ((j : ℕ) → tk' j ≡ tk j) → ((j : ℕ) → sb' j ≡ sb j) → Inv group g ord tk sb → Inv group g ord' tk' sb'
inv_ext group g ord ord' tk tk' sb sb' eo et es v = rw (eo, fun_ext et, fun_ext es) v

-- what such a packet is
of_reset_lem : (at : ℕ → Terminal) (n : ℕ) (content : Packet) → SaysReset at n content → terminal.of_reset content ≡ true
unfolding terminal.of_reset
of_reset_lem at n (Packet.Request sender taken count) says = absurd says
of_reset_lem at n (Packet.Broadcast originator number count floor) says = absurd says
of_reset_lem at n (Packet.Gap sender taken first last) says = absurd says
of_reset_lem at n (Packet.Status sender taken) says = absurd says
of_reset_lem at n (Packet.Poll elected top floor) says = absurd says
of_reset_lem at n (Packet.Offer originator number count floor) says = absurd says
of_reset_lem at n (Packet.Confirm sender number) says = absurd says
of_reset_lem at n (Packet.Accept elected number) says = absurd says
of_reset_lem at n (Packet.Invitation sender attempt) says = refl
of_reset_lem at n (Packet.Reply sender attempt number) says = refl
of_reset_lem at n (Packet.Result sender attempt elected number) says = refl

-- which anybody may send
pub reset_named : (group : description.Group) (content : Packet) → terminal.of_reset content ≡ true → from_elected group content ≡ true
unfolding terminal.of_reset from_elected
reset_named group (Packet.Request sender taken count) e = refl
reset_named group (Packet.Broadcast originator number count floor) e = refl
reset_named group (Packet.Gap sender taken first last) e = refl
reset_named group (Packet.Status sender taken) e = refl
reset_named group (Packet.Poll elected top floor) e = absurd (false≢true e)
reset_named group (Packet.Offer originator number count floor) e = refl
reset_named group (Packet.Confirm sender number) e = refl
reset_named group (Packet.Accept elected number) e = absurd (false≢true e)
reset_named group (Packet.Invitation sender attempt) e = refl
reset_named group (Packet.Reply sender attempt number) e = refl
reset_named group (Packet.Result sender attempt elected number) e = refl

module _ (n number resilience : ℕ) (o : Opens n number resilience) (w : Group) (g : model.Group) (ord : List Ordered) (tk : ℕ → List Ordered) (sb : ℕ → List (List ℕ)) where
  abbrev group : description.Group
  group = description_of n number resilience

  module _ (inv : Inv group g ord tk sb) (v : Rel n number w g) where
    -- what an event leaves
    pub record Next (e : Event) (d : Happened) : Type 0 where
      pub after : model.Group
      pub holds : Inv group after (ord ++ ordered_by e d.answer) (λ j. tk j ++ took_at j e d.answer) (λ j. sb j ++ submitted_at j e d.answer)
      pub like : Rel n number d.group after

    -- one that adds nothing
    quiet : (e : Event) (d : Happened) → Rel n number d.group g → ordered_by e d.answer ≡ [] → ((j : ℕ) → took_at j e d.answer ≡ []) → ((j : ℕ) → submitted_at j e d.answer ≡ []) → Next e d
    quiet e d rel eo et es =
        record {
          after = g;
          holds =
              inv_ext group g ord _ tk _ sb _ (ap (λ (l : List Ordered). ord ++ l) eo ∙ append-nil ord)
              (λ j. ap (λ (l : List Ordered). tk j ++ l) (et j) ∙ append-nil (tk j)) (λ j. ap (λ (l : List (List ℕ)). sb j ++ l) (es j) ∙ append-nil (sb j)) inv;
          like = rel;
        }

    -- one of the group's
    moves : (e : Event) (d : Happened) (e' : model.Event) (d' : model.Happened) → model.happen g e' ≡ d' → Rel n number d.group d'.group
        → ordered_by e d.answer ≡ numbered_in d'.answer → ((j : ℕ) → took_at j e d.answer ≡ modelLog.took_at j e' d'.answer)
        → ((j : ℕ) → submitted_at j e d.answer ≡ modelLog.submitted_at j e' d'.answer) → Next e d
    moves e d e' d' is rel eo et es =
        record {
          after = d'.group;
          holds =
              inv_ext group d'.group _ _ _ _ _ _ (ap (λ (l : List Ordered). ord ++ l) eo) (λ j. ap (λ (l : List Ordered). tk j ++ l) (et j)) (λ j. ap (λ (l : List (List ℕ)). sb j ++ l) (es j))
              (subst (λ (x : model.Happened). Inv group x.group (ord ++ numbered_in x.answer) (λ j. tk j ++ modelLog.took_at j e' x.answer) (λ j. sb j ++ modelLog.submitted_at j e' x.answer)) is
              (step_keeps group g ord tk sb o.most o.fits inv e'));
          like = rel;
        }

    module _ (i : ℕ) (b : i < n) where
      abbrev t : Terminal
      t = terminal_at w i

      abbrev m : Member
      m = get_or g.members i model.no_member

      stands : Stands i t m g.sequencer
      stands = v.each i b

      sound : Sound t
      sound = sound_of_lem t stands.sound

      typed : terminalLaws.Typed t
      typed =
          record {
            member = rw stands.member_is (inv.terminal i b).content.typed;
            sequencer = stands.typed;
            past = stands.past;
            counts = stands.counts;
            replies = stands.replies;
          }

      -- a terminal whose part in a reset stays
      kept_acts : (t' : Terminal) → terminal_sound t' ≡ true → length t'.kept.past ≡ places_most → length t'.kept.counts ≡ members_most → t'.reset ≡ t.reset
          → t'.sequencing ≡ t.sequencing → sequencerLaws.Typed t'.sequencer → Acts n w i t'
      kept_acts t' s p c r q y =
          let steady = same_steady t t' stands.sound s r in
          record {
            sound = s;
            past = p;
            counts = c;
            replies = ap (λ (x : Reset). length x.replies) r ∙ stands.replies;
            invited = subst (λ (x : Reset). x.invited ≤ largest_number) (sym r) stands.invited;
            typed = y;
            sequencing = q;
            steady = steady;
            records = λ j e. records' t' r steady j e;
          }
        where
          records' : (t' : Terminal) → t'.reset ≡ t.reset → Steady t t' → (j : ℕ) → is_in t'.reset.repliers j ≡ true
              → (j < n) × (j ≢ i → Replied (terminal_at w j) (get_or t'.reset.replies j 0)) × (j ≡ i → Replied t' (get_or t'.reset.replies j 0))
          records' t' r steady j e =
              let old = v.recorded i j b (ap (λ (x : Reset). is_in x.repliers j) (sym r) ∙ e) in
              let same : get_or t.reset.replies j 0 ≡ get_or t'.reset.replies j 0 = ap (λ (x : Reset). get_or x.replies j 0) (sym r) in
              let now : Replied (terminal_at w j) (get_or t'.reset.replies j 0) = (old.1.0, old.1.1 ∙ same) in
              (old.0, λ _. now, λ q. steady_replied steady _ (subst (λ (k : ℕ). Replied (terminal_at w k) (get_or t'.reset.replies j 0)) q now))

      -- a call of the group's member
      member_next : (e : Event) (e' : model.Event) (x : terminal.Outcome) (x' : member.Outcome) (packets : List (List ℕ)) → Acts n w i x.terminal → x.terminal.sequencer ≡ t.sequencer
          → x.terminal.member ≡ x'.member → x.answer ≡ x'.answer → x.bytes ≡ x'.bytes → model.happen g e' ≡ model.with_member g i x' packets
          → All (Covered (λ j. get_or (set w.terminals i x.terminal) j no_terminal) n number (g.packets ++ packets)) packets
          → ordered_by e (by_member x.answer x.bytes) ≡ [] → ((j : ℕ) (a : Answer) → took_at j e a ≡ modelLog.took_at j e' a) → ((j : ℕ) (a : Answer) → submitted_at j e a ≡ modelLog.submitted_at j e' a)
          → Next e (with_member w i x packets)
      unfolding numbered_in
      member_next e e' x x' packets a seq mem ans byt is new eo et es =
          let l = inv.members in
          let same : by_member x.answer x.bytes ≡ by_member x'.answer x'.bytes = rw (ans, byt) in
          moves e (with_member w i x packets) e' (model.with_member g i x' packets) is
          (rel_member n number w g v i b x.terminal a (model.with_member g i x' packets).group packets packets (length-set g.members i x'.member ∙ v.members) refl
          (λ j q. get_or-set_other g.members i j x'.member model.no_member q) (mem ∙ sym (get_or-set_same g.members i x'.member model.no_member (let z = v.members in omega arith)))
          (λ j c q. inl refl) (λ z. seq ∙ stands.sequencer_is z) new)
          eo (λ j. et j _ ∙ ap (λ (y : Answer). modelLog.took_at j e' y) same) (λ j. es j _ ∙ ap (λ (y : Answer). modelLog.submitted_at j e' y) same)

      -- one that leaves the member, and writes packets of a reset or none
      stutter : (e : Event) (x : terminal.Outcome) (packets : List (List ℕ)) → Acts n w i x.terminal → x.terminal.sequencer ≡ t.sequencer → x.terminal.member ≡ t.member
          → All (Covered (λ j. get_or (set w.terminals i x.terminal) j no_terminal) n number g.packets) packets
          → ordered_by e (by_member x.answer x.bytes) ≡ [] → ((j : ℕ) → took_at j e (by_member x.answer x.bytes) ≡ []) → ((j : ℕ) → submitted_at j e (by_member x.answer x.bytes) ≡ [])
          → Next e (with_member w i x packets)
      stutter e x packets a seq mem new eo et es =
          quiet e (with_member w i x packets)
          (rel_member n number w g v i b x.terminal a g [] packets v.members (sym (append-nil g.packets)) (λ j q. refl) (mem ∙ stands.member_is) (λ j c q. inl refl)
          (λ z. seq ∙ stands.sequencer_is z) new)
          eo et es

      -- a no
      refused_acts : Acts n w i t
      refused_acts = kept_acts t stands.sound stands.past stands.counts refl refl stands.typed

      -- the calls that are the member's
      abbrev carried_by : member.Outcome → terminal.Outcome
      carried_by x = terminal.carried t t.kept x

      member_ok : member_sound t ≡ true
      member_ok = sound_member t stands.sound

      member_called : member.call_verdict m longest_packet ≡ all_yes
      unfolding member.call_verdict when◌then◌else◌
      member_called = rw (inv.terminal i b).content.sound

      inside : (i <? length g.members) ≡ true
      inside = lt-ltb i (length g.members) (let z = v.members in omega arith)

      -- a call that leaves the part in a reset and what is kept
      calls_next : (e : Event) (e' : model.Event) (x : terminal.Outcome) (call : Member → member.Outcome) → x ≡ carried_by (call t.member) → terminal_sound x.terminal ≡ true
          → model.happen g e' ≡ model.at_member g i call → ordered_by e (by_member x.answer x.bytes) ≡ []
          → ((j : ℕ) (a : Answer) → took_at j e a ≡ modelLog.took_at j e' a) → ((j : ℕ) (a : Answer) → submitted_at j e a ≡ modelLog.submitted_at j e' a)
          → Next e (with_member w i x (written x.bytes))
      calls_next e e' x call is s happens eo et es =
          let x' : member.Outcome = call m in
          let y : x ≡ carried_by x' = is ∙ ap (λ (z : Member). carried_by (call z)) stands.member_is in
          subst (λ (z : terminal.Outcome). ordered_by e (by_member z.answer z.bytes) ≡ [] → terminal_sound z.terminal ≡ true → Next e (with_member w i z (written z.bytes))) (sym y)
          (λ eo s.
          member_next e e' (carried_by x') x' (written x'.bytes) (kept_acts (terminal.with_member t x'.member t.kept) s stands.past stands.counts refl refl stands.typed) refl refl refl refl
          (happens ∙ sym (when_true (i <? length g.members) _ _ _ inside refl))
          (written_covered _ n number g.packets x'.bytes) eo et es) eo s

      submit_next : (payload : List ℕ) → Next (submit i payload) (with_member w i (terminal.submit_of t payload longest_packet) (written (terminal.submit_of t payload longest_packet).bytes))
      unfolding model.happen ordered_by took_at submitted_at modelLog.took_at modelLog.submitted_at
      submit_next payload =
          calls_next (submit i payload) (model.submit i payload) (terminal.submit_of t payload longest_packet) (λ z. member.submit_of z payload longest_packet) (submit_is t member_ok payload)
          (terminalProofs.submit_keeps t payload longest_packet typed stands.sound) refl refl (λ j a. refl) (λ j a. refl)

      repeat_next : Next (repeat i) (with_member w i (terminal.repeat_of t longest_packet) (written (terminal.repeat_of t longest_packet).bytes))
      unfolding model.happen ordered_by took_at submitted_at modelLog.took_at modelLog.submitted_at
      repeat_next =
          calls_next (repeat i) (model.repeat i) (terminal.repeat_of t longest_packet) (λ z. member.repeat_of z longest_packet) (repeat_is t member_ok)
          (terminalProofs.repeat_keeps t longest_packet typed stands.sound) refl refl (λ j a. refl) (λ j a. refl)

      status_next : Next (status i) (with_member w i (terminal.status_of t longest_packet) (written (terminal.status_of t longest_packet).bytes))
      unfolding model.happen ordered_by took_at submitted_at modelLog.took_at modelLog.submitted_at
      status_next =
          calls_next (status i) (model.status i) (terminal.status_of t longest_packet) (λ z. member.status_of z longest_packet) (status_is t member_ok)
          (terminalProofs.status_keeps t longest_packet typed stands.sound) refl refl (λ j a. refl) (λ j a. refl)

      -- a take, which keeps what it hands out
      abbrev keeps : Bool → Kept
      keeps ready = when ready then terminal.kept_took t.kept (t.member.taken.0 + 1) (window.message_at t.member.held (t.member.taken.0 + 1)) else t.kept

      took_past : (ready : Bool) → length (keeps ready).past ≡ places_most
      unfolding when◌then◌else◌ terminal.kept_took
      took_past true = length-set t.kept.past (place_of (t.member.taken.0 + 1)) _ ∙ stands.past
      took_past false = stands.past

      took_counts : (ready : Bool) → length (keeps ready).counts ≡ members_most
      unfolding when◌then◌else◌ terminal.kept_took
      took_counts true = counted_length t.kept.counts _ ∙ stands.counts
      took_counts false = stands.counts

      take_next : Next (take i) (with_member w i (terminal.take_of t longest_packet) [])
      unfolding model.happen ordered_by took_at submitted_at modelLog.took_at modelLog.submitted_at
      take_next =
          let x : terminal.Outcome = terminal.take_of t longest_packet in
          let s = terminalProofs.take_keeps t longest_packet typed stands.sound in
          let ready = member.is_ready t.member (t.member.taken.0 + 1) in
          subst (λ (z : terminal.Outcome). terminal_sound z.terminal ≡ true → Next (take i) (with_member w i z [])) (sym (take_is t member_ok))
          (λ s.
          let x' : member.Outcome = member.take_of t.member longest_packet in
          let y : x' ≡ member.take_of m longest_packet = ap (λ (z : Member). member.take_of z longest_packet) stands.member_is in
          member_next (take i) (model.take i) (terminal.carried t (keeps ready) x') (member.take_of m longest_packet) []
          (kept_acts (terminal.with_member t x'.member (keeps ready)) s (took_past ready) (took_counts ready) refl refl stands.typed) refl
          (ap (λ (z : member.Outcome). z.member) y) (ap (λ (z : member.Outcome). z.answer) y) (ap (λ (z : member.Outcome). z.bytes) y)
          (sym (when_true (i <? length g.members) _ _ _ inside refl)) tt refl (λ j a. refl) (λ j a. refl)) s

      -- what waits on the member's end: the group's number is ours
      ours : t.member.group.number ≡ number
      ours = ap (λ (x : Member). x.group.number) stands.member_is ∙ ap (λ (x : description.Group). x.number) (inv.terminal i b).seat.group_is

      self : t.member.number.0 ≡ i
      self = ap (λ (x : Member). x.number.0) stands.member_is ∙ (inv.terminal i b).seat.number_is

      size : t.member.group.n ≡ n
      size = ap (λ (x : Member). x.group.n) stands.member_is ∙ ap (λ (x : description.Group). x.n) (inv.terminal i b).seat.group_is

      -- a packet handed to the member, of fields and a payload
      module _ (content : Packet) (payload p : List ℕ) (reads : (read_of p ≡ Ok (fields_of number content)) × (payload_at p ≡ payload)) where
        group_ours : ((fields_of number content).group =? t.member.group.number) ≡ true
        group_ours = eq-eqb _ _ (fields_group number content ∙ sym ours)

        abbrev open_to : Bool
        open_to = when t.reset.replied then false else true

        plain_is : terminal.of_reset content ≡ false
            → terminal.receive_of t p longest_packet
            ≡ when from_elected t.member.group content then (when true and open_to then terminal.heard_of t content payload else terminal.refused t Refusal.OtherGroup) else terminal.refused t Refusal.ForbiddenFields
        unfolding terminal.receive_of judged terminal.read_step when◌then◌else◌
        plain_is plain = rw (called t member_ok, reads.0, reads.1, content_fields number content, plain, group_ours)

        reset_is : terminal.of_reset content ≡ true → from_elected t.member.group content ≡ true → terminal.receive_of t p longest_packet ≡ terminal.reset_step t content payload
        unfolding terminal.receive_of judged terminal.read_step when◌then◌else◌
        reset_is of_reset named = rw (called t member_ok, reads.0, reads.1, content_fields number content, named, of_reset, stands.sound, group_ours)

      -- a packet of the group
      module _ (k j : ℕ) (p : List ℕ) (at : get_elem? g.packets j ≡ some p) (kn : Known number (facts_in group g ord sb) p) where
        reads : (read_of p ≡ Ok (fields_of number kn.content)) × (payload_at p ≡ kn.payload)
        reads = rw kn.bytes_are (read_written (fields_of number kn.content) kn.payload kn.allowed)

        plain : terminal.of_reset kn.content ≡ false
        plain = known_plain (facts_in group g ord sb) kn.content kn.payload kn.says

        abbrev received : terminal.Outcome
        received = terminal.receive_of t p longest_packet

        refused_next : (x : terminal.Outcome) (refusal : Refusal) → x ≡ terminal.refused t refusal → Next (hand_member k i) (with_member w i x (written x.bytes))
        unfolding terminal.refused ordered_by took_at submitted_at written
        refused_next x refusal is =
            subst (λ (z : terminal.Outcome). Next (hand_member k i) (with_member w i z (written z.bytes))) (sym is)
            (stutter (hand_member k i) (terminal.refused t refusal) [] refused_acts refl refl tt refl (λ j. refl) (λ j. refl))

        fits : (header_of p).a ≤ largest_number
        fits = rw (kn.bytes_are, header_back (fields_of number kn.content) kn.payload kn.allowed.0) kn.allowed.0.a

        heard_next : received ≡ terminal.heard_of t kn.content kn.payload → from_elected t.member.group kn.content ≡ true → Next (hand_member k i) (with_member w i received (written received.bytes))
        unfolding terminal.heard_of model.happen ordered_by took_at submitted_at modelLog.took_at modelLog.submitted_at
        heard_next is named =
            let content = kn.content in
            let payload = kn.payload in
            let x' : member.Outcome = member.content_step t.member content payload in
            let kept : Kept = terminal.kept_read t.kept x'.answer (terminal.floor_in content) in
            let s = terminalProofs.receive_keeps t p longest_packet fits typed stands.sound in
            let h = inv.terminal i b in
            let y : x' ≡ member.receive_of m p longest_packet =
            ap (λ (z : Member). member.content_step z content payload) stands.member_is
            ∙ sym (ap (λ (z : List ℕ). member.receive_of m z longest_packet) kn.bytes_are ∙ receive_named m group content payload h.content.sound h.seat.group_is (ap (λ (z : Member). from_elected z.group content) (sym stands.member_is) ∙ named) kn.allowed) in
            let happens : model.happen g (model.hand_member j i) ≡ model.with_member g i (member.receive_of m p longest_packet) (written (member.receive_of m p longest_packet).bytes) =
            ap (λ (z : Option (List ℕ)). model.hand_to_member g i z) at ∙ sym (when_true (i <? length g.members) _ _ _ inside refl) in
            subst (λ (z : terminal.Outcome). terminal_sound z.terminal ≡ true → Next (hand_member k i) (with_member w i z (written z.bytes))) (sym is)
            (λ s.
            subst (λ (l : List ℕ). Next (hand_member k i) (with_member w i (terminal.carried t kept x') (written l))) (sym (ap (λ (z : member.Outcome). z.bytes) y))
            (member_next (hand_member k i) (model.hand_member j i) (terminal.carried t kept x') (member.receive_of m p longest_packet) (written (member.receive_of m p longest_packet).bytes)
            (kept_acts (terminal.with_member t x'.member kept) s (ap length (read_past t.kept x'.answer (terminal.floor_in content)) ∙ stands.past) (ap length (read_counts t.kept x'.answer (terminal.floor_in content)) ∙ stands.counts) refl refl stands.typed) refl
            (ap (λ (z : member.Outcome). z.member) y) (ap (λ (z : member.Outcome). z.answer) y) (ap (λ (z : member.Outcome). z.bytes) y) happens
            (written_covered _ n number g.packets (member.receive_of m p longest_packet).bytes) refl (λ q a. refl) (λ q a. refl))) s

        hand_plain : Next (hand_member k i) (with_member w i received (written received.bytes))
        unfolding when◌then◌else◌
        hand_plain = go (from_elected t.member.group kn.content) refl t.reset.replied refl
          where
            go : (a : Bool) → from_elected t.member.group kn.content ≡ a → (r : Bool) → t.reset.replied ≡ r → Next (hand_member k i) (with_member w i received (written received.bytes))
            go false e r f = refused_next received Refusal.ForbiddenFields (plain_is kn.content kn.payload p reads plain ∙ rw e)
            go true e true f = refused_next received Refusal.OtherGroup (plain_is kn.content kn.payload p reads plain ∙ rw (e, f))
            go true e false f = heard_next (plain_is kn.content kn.payload p reads plain ∙ rw (e, f)) e

      -- what is replied fits
      pub reply_fits : reply_number t ≤ largest_number
      unfolding reply_number
      reply_fits = when_elim (λ (x : ℕ). x ≤ largest_number) (serves t) (λ _. stands.typed.top) (λ _. reach_fits t.member typed.member.taken)

      -- a terminal that replied, or counted a reply
      reset_acts : (r : Reset) (f : Bool) → terminal_sound (terminal.with_reset t r f) ≡ true → length r.replies ≡ members_most → r.invited ≤ largest_number → (t.reset.replied ≡ true → r.replied ≡ true)
          → ((j : ℕ) → is_in r.repliers j ≡ true → (j < n) × (j ≢ i → Replied (terminal_at w j) (get_or r.replies j 0)) × (j ≡ i → Replied (terminal.with_reset t r f) (get_or r.replies j 0)))
          → Acts n w i (terminal.with_reset t r f)
      unfolding reply_number
      reset_acts r f s l fits replied records =
          record {
            sound = s;
            past = stands.past;
            counts = stands.counts;
            replies = l;
            invited = fits;
            typed = stands.typed;
            sequencing = refl;
            steady = record { replied = replied; number = λ _. refl };
            records = records;
          }

      abbrev replied_to : ℕ → Terminal
      replied_to attempt = terminal.with_reset t (terminal.replied t attempt) (terminal.freezes t)

      -- a reply leaves whose replies are had
      old_records : (t' : Terminal) → (t.reset.replied ≡ true → Replied t' (reply_number t)) → (j : ℕ) → is_in t.reset.repliers j ≡ true
          → (j < n) × (j ≢ i → Replied (terminal_at w j) (get_or t.reset.replies j 0)) × (j ≡ i → Replied t' (get_or t.reset.replies j 0))
      old_records t' now j e =
          let old = v.recorded i j b e in (
            old.0,
            λ _. old.1,
            λ q.
                let mine : Replied t (get_or t.reset.replies j 0) = subst (λ (k : ℕ). Replied (terminal_at w k) (get_or t.reset.replies j 0)) q old.1 in
                let x = now mine.0 in
                (x.0, x.1 ∙ mine.1),
          )

      replied_acts : (attempt : ℕ) → Acts n w i (replied_to attempt)
      unfolding reply_number
      replied_acts attempt =
          reset_acts (terminal.replied t attempt) (terminal.freezes t) (of_sound _ (replied_sound t sound attempt)) stands.replies stands.invited (λ _. refl)
          (old_records (replied_to attempt) (λ _. (refl, refl)))

      closed_acts : (attempt : ℕ) → Acts n w i (terminal.with_reset t (terminal.uninvited (terminal.replied t attempt)) (terminal.freezes t))
      closed_acts attempt =
          reset_acts (terminal.uninvited (terminal.replied t attempt)) (terminal.freezes t) (of_sound _ (closed_sound t sound attempt)) (length-replicate {A = ℕ} members_most 0) (omega arith) (λ _. refl)
          (λ j e. absurd (in_zero j e))

      invited_acts : (attempt : ℕ) → attempt ≤ largest_number → Acts n w i (terminal.with_reset t (terminal.invitation t attempt) (terminal.freezes t))
      unfolding reply_number
      invited_acts attempt fits =
          reset_acts (terminal.invitation t attempt) (terminal.freezes t) (of_sound _ (invited_sound t sound attempt))
          (length-set (replicate members_most 0) t.member.number.0 (reply_number t) ∙ length-replicate {A = ℕ} members_most 0) fits (λ _. refl)
          (λ j e.
          let q : j ≡ t.member.number.0 = in_only t.member.number.0 j e in
          let less : j < n = (let z = self in omega arith) in
          (less, λ other. absurd (other (q ∙ self)), λ _. (refl, invited_number j q)))
        where
          invited_number : (j : ℕ) → j ≡ t.member.number.0 → reply_number t ≡ get_or (set (replicate members_most 0) t.member.number.0 (reply_number t)) j 0
          invited_number j q =
              let z = self in
              let most = o.most in
              subst (λ (k : ℕ). reply_number t ≡ get_or (set (replicate members_most 0) t.member.number.0 (reply_number t)) k 0) (sym q)
              (sym (get_or-set_same (replicate members_most 0) t.member.number.0 (reply_number t) 0 (simp length-replicate (omega arith))))

      abbrev counted_in : MemberNumber → ℕ → Reset
      counted_in sender number' =
          record {
            replied = t.reset.replied;
            attempt = t.reset.attempt;
            number = t.reset.number;
            inviting = t.reset.inviting;
            invited = t.reset.invited;
            repliers = bit_or t.reset.repliers (only_of sender);
            replies = set t.reset.replies sender.0 number';
          }

      new_records : (sender : MemberNumber) (number' : ℕ) → sender.0 < n → Replied (terminal_at w sender.0) number' → is_in t.reset.repliers sender.0 ≡ false
          → (j : ℕ) → (is_in t.reset.repliers j ≡ true) ⊎ (is_in (2 ^ sender.0) j ≡ true)
          → (j < n) × (j ≢ i → Replied (terminal_at w j) (get_or (set t.reset.replies sender.0 number') j 0)) × (j ≡ i → Replied t (get_or (set t.reset.replies sender.0 number') j 0))
      new_records sender number' less says new j (inl e) =
          let old = old_records t (λ r. (r, refl)) j e in
          let apart : j ≢ sender.0 = λ q. false≢true (sym new ∙ subst (λ (k : ℕ). is_in t.reset.repliers k ≡ true) q e) in
          let same : get_or t.reset.replies j 0 ≡ get_or (set t.reset.replies sender.0 number') j 0 = sym (get_or-set_other t.reset.replies sender.0 j number' 0 apart) in
          (old.0, λ q. ((old.1 q).0, (old.1 q).1 ∙ same), λ q. ((old.2 q).0, (old.2 q).1 ∙ same))
      new_records sender number' less says new j (inr e) =
          let q : j ≡ sender.0 = in_only sender.0 j e in
          let most = o.most in
          let long = stands.replies in
          let is : number' ≡ get_or (set t.reset.replies sender.0 number') j 0 =
          subst (λ (k : ℕ). number' ≡ get_or (set t.reset.replies sender.0 number') k 0) (sym q) (sym (get_or-set_same t.reset.replies sender.0 number' 0 (omega arith))) in
          let there : Replied (terminal_at w j) number' = subst (λ (k : ℕ). Replied (terminal_at w k) number') (sym q) says in
          (omega arith, λ _. (there.0, there.1 ∙ is), λ z. let here : Replied t number' = subst (λ (k : ℕ). Replied (terminal_at w k) number') z there in (here.0, here.1 ∙ is))

      counted_acts : (sender : MemberNumber) (number' : ℕ) → sender.0 < n → Replied (terminal_at w sender.0) number' → t.reset.inviting ≡ true
          → Acts n w i (terminal.with_reset t (terminal.with_reply t.reset sender number') t.frozen)
      unfolding terminal.with_reply reply_number
      counted_acts sender number' less says inviting =
          let s = of_sound _ (reply_sound_lem t sound sender number' (let z = size in omega arith) inviting stands.replies) in
          when_elim (λ (r : Reset). terminal_sound (terminal.with_reset t r t.frozen) ≡ true → Acts n w i (terminal.with_reset t r t.frozen)) (is_in t.reset.repliers sender.0)
          (λ _ s. refused_acts)
          (λ new s.
          reset_acts (counted_in sender number') t.frozen s (length-set t.reset.replies sender.0 number' ∙ stands.replies) stands.invited (λ r. r)
          (λ j e. new_records sender number' less says new j (in_or t.reset.repliers (2 ^ sender.0) j e))) s

      -- a packet of a reset that it writes
      abbrev after_at : Terminal → ℕ → Terminal
      after_at t' j = get_or (set w.terminals i t') j no_terminal

      here_at : (t' : Terminal) → after_at t' i ≡ t'
      here_at t' = let l = v.size in get_or-set_same w.terminals i t' no_terminal (omega arith)

      own_byte : t.member.number.0 < 256
      own_byte = let z = self in let y = o.most in omega arith

      reply_covered : (t' : Terminal) (attempt : ℕ) → attempt ≤ largest_number → Replied t' (reply_number t)
          → Covered (after_at t') n number g.packets (packet_of (fields_of t.member.group.number (Packet.Reply t.member.number attempt (record { 0 = reply_number t }))) [])
      unfolding fields_of
      reply_covered t' attempt fits r =
          let z = self in
          inr
          (record {
            content = Packet.Reply t.member.number attempt (record { 0 = reply_number t });
            bytes_are = ap (λ (x : ℕ). packet_of (fields_of x (Packet.Reply t.member.number attempt (record { 0 = reply_number t }))) []) ours;
            allowed = (
              record { kind = omega arith; member = own_byte; group = o.fits; a = fits; b = reply_fits; c = omega arith },
              accepted _ [] longest_packet (record { enough = omega arith; fields = reply_fields number t.member.number attempt (record { 0 = reply_number t }); short = omega arith }),
            );
            says = (omega arith, subst (λ (k : ℕ). Replied (after_at t' k) (reply_number t)) (sym self) (subst (λ (x : Terminal). Replied x (reply_number t)) (sym (here_at t')) r));
          })

      invitation_covered : (t' : Terminal) (attempt : ℕ) → attempt ≤ largest_number
          → Covered (after_at t') n number g.packets (packet_of (fields_of t.member.group.number (Packet.Invitation t.member.number attempt)) [])
      unfolding fields_of
      invitation_covered t' attempt fits =
          inr
          (record {
            content = Packet.Invitation t.member.number attempt;
            bytes_are = ap (λ (x : ℕ). packet_of (fields_of x (Packet.Invitation t.member.number attempt)) []) ours;
            allowed = (
              record { kind = omega arith; member = own_byte; group = o.fits; a = fits; b = omega arith; c = omega arith },
              accepted _ [] longest_packet (record { enough = omega arith; fields = invitation_fields number t.member.number attempt; short = omega arith }),
            );
            says = tt;
          })

      -- a packet of a reset that is handed to it
      module _ (k : ℕ) where
        abbrev Hands : terminal.Outcome → Type 0
        Hands x = Next (hand_member k i) (with_member w i x (written x.bytes))

        refused_hands : (refusal : Refusal) → Hands (terminal.refused t refusal)
        unfolding terminal.refused ordered_by took_at submitted_at written
        refused_hands refusal = stutter (hand_member k i) (terminal.refused t refusal) [] refused_acts refl refl tt refl (λ j. refl) (λ j. refl)

        -- a reply is written
        reply_hands : (r : Reset) (attempt : ℕ) → attempt ≤ largest_number → Acts n w i (terminal.with_reset t r (terminal.freezes t)) → r.replied ≡ true
            → Hands (terminal.noted (terminal.with_reset t r (terminal.freezes t)) (packet_of (fields_of t.member.group.number (Packet.Reply t.member.number attempt (record { 0 = reply_number t }))) []))
        unfolding ordered_by took_at submitted_at reply_number
        reply_hands r attempt fits a replied =
            let bytes = packet_of (fields_of t.member.group.number (Packet.Reply t.member.number attempt (record { 0 = reply_number t }))) [] in
            let t' = terminal.with_reset t r (terminal.freezes t) in
            stutter (hand_member k i) (terminal.noted t' bytes) (written bytes) a refl refl (written_all _ bytes (reply_covered t' attempt fits (replied, refl))) refl (λ j. refl) (λ j. refl)

        invited_hands : (sender : MemberNumber) (attempt : ℕ) → attempt ≤ largest_number → Hands (terminal.invited_of t sender attempt)
        unfolding terminal.invited_of
        invited_hands sender attempt fits =
            when_elim
            (λ (r : Reset). Hands (terminal.noted (terminal.with_reset t r (terminal.freezes t)) (packet_of (fields_of t.member.group.number (Packet.Reply t.member.number attempt (record { 0 = reply_number t }))) [])))
            (sender.0 =? t.member.number.0) (λ _. reply_hands (terminal.replied t attempt) attempt fits (replied_acts attempt) refl)
            (λ _. reply_hands (terminal.uninvited (terminal.replied t attempt)) attempt fits (closed_acts attempt) refl)

        counted_hands : (sender : MemberNumber) (number' : ℕ) → sender.0 < n → Replied (terminal_at w sender.0) number' → t.reset.inviting ≡ true
            → Hands (terminal.noted (terminal.with_reset t (terminal.with_reply t.reset sender number') t.frozen) [])
        unfolding ordered_by took_at submitted_at written
        counted_hands sender number' less says inviting =
            stutter (hand_member k i) (terminal.noted (terminal.with_reset t (terminal.with_reply t.reset sender number') t.frozen) []) [] (counted_acts sender number' less says inviting) refl refl tt
            refl (λ j. refl) (λ j. refl)

        reset_hands : (content : Packet) → SaysReset (terminal_at w) n content → (fields_of number content).a ≤ largest_number → Hands (terminal.reset_step t content [])
        unfolding terminal.reset_step fields_of
        reset_hands (Packet.Request sender taken count) says fits = absurd says
        reset_hands (Packet.Broadcast originator number' count floor) says fits = absurd says
        reset_hands (Packet.Gap sender taken first last) says fits = absurd says
        reset_hands (Packet.Status sender taken) says fits = absurd says
        reset_hands (Packet.Poll elected top floor) says fits = absurd says
        reset_hands (Packet.Offer originator number' count floor) says fits = absurd says
        reset_hands (Packet.Confirm sender number') says fits = absurd says
        reset_hands (Packet.Accept elected number') says fits = absurd says
        reset_hands (Packet.Invitation sender attempt) says fits =
            when_elim Hands (sender.0 <? t.member.group.n) (λ _. invited_hands sender attempt fits) (λ _. refused_hands Refusal.UnknownMember)
        reset_hands (Packet.Reply sender attempt number') says fits =
            when_elim Hands (sender.0 <? t.member.group.n)
            (λ _. when_elim Hands (t.reset.inviting and t.reset.invited =? attempt) (λ e. counted_hands sender number'.0 says.0 says.1 (both_first t.reset.inviting _ e)) (λ _. refused_hands Refusal.NotOfAttempt))
            (λ _. refused_hands Refusal.UnknownMember)
        reset_hands (Packet.Result sender attempt elected number') says fits = absurd says

        hand_reset : (p : List ℕ) → Resets (terminal_at w) n number p → Hands (terminal.receive_of t p longest_packet)
        hand_reset p x =
            let reads : (read_of p ≡ Ok (fields_of number x.content)) × (payload_at p ≡ []) = rw x.bytes_are (read_written (fields_of number x.content) [] x.allowed) in
            let is = reset_is x.content [] p reads (of_reset_lem (terminal_at w) n x.content x.says) (reset_named t.member.group x.content (of_reset_lem (terminal_at w) n x.content x.says)) in
            subst Hands (sym is) (reset_hands x.content x.says x.allowed.0.a)

      -- inviting, and a making that is refused
      invite_next : (attempt : ℕ) → attempt ≤ largest_number → Next (invite i attempt) (with_member w i (terminal.invite_of t attempt longest_packet) (written (terminal.invite_of t attempt longest_packet).bytes))
      unfolding terminal.invite_of terminal.refused ordered_by took_at submitted_at written
      invite_next attempt fits =
          judged_elim (λ (x : terminal.Outcome). Next (invite i attempt) (with_member w i x (written x.bytes))) (terminal.whole_verdict t longest_packet)
          (λ r _. stutter (invite i attempt) (terminal.refused t r) [] refused_acts refl refl tt refl (λ j. refl) (λ j. refl))
          (λ _.
          let bytes = packet_of (fields_of t.member.group.number (Packet.Invitation t.member.number attempt)) [] in
          let t' = terminal.with_reset t (terminal.invitation t attempt) (terminal.freezes t) in
          stutter (invite i attempt) (record { terminal = t'; answer = memberAnswer.Answer.Sent; bytes = bytes }) (written bytes) (invited_acts attempt fits) refl refl
          (written_all _ bytes (invitation_covered t' attempt fits)) refl (λ j. refl) (λ j. refl))

      make_next : (demand : ℕ) → (is_sent (by_member (terminal.make_of t demand longest_packet).answer (terminal.make_of t demand longest_packet).bytes) ≡ true → ⊥)
          → Next (make i demand) (with_member w i (terminal.make_of t demand longest_packet) (written (terminal.make_of t demand longest_packet).bytes))
      unfolding terminal.make_of terminal.refused ordered_by took_at submitted_at is_sent written
      make_next demand =
          let P : terminal.Outcome → Type 0 = λ x. (is_sent (by_member x.answer x.bytes) ≡ true → ⊥) → Next (make i demand) (with_member w i x (written x.bytes)) in
          let refuse : (r : Refusal) → P (terminal.refused t r) = λ r _. stutter (make i demand) (terminal.refused t r) [] refused_acts refl refl tt refl (λ j. refl) (λ j. refl) in
          judged_elim P (terminal.whole_verdict t longest_packet) (λ r _. refuse r)
          (λ _. when_elim P t.reset.inviting (λ _. when_elim P (demand ≤? ones t.reset.repliers) (λ _ f. absurd (f refl)) (λ _. refuse Refusal.FewSurvivors)) (λ _. refuse Refusal.NotOfAttempt))

    -- the sequencer, which is terminal 0's
    module _ (b : 0 < n) where
      abbrev t0 : Terminal
      t0 = terminal_at w 0

      abbrev s0 : Sequencer
      s0 = t0.sequencer

      stands0 : Stands 0 t0 (get_or g.members 0 model.no_member) g.sequencer
      stands0 = v.each 0 b

      sound0 : Sound t0
      sound0 = sound_of_lem t0 stands0.sound

      changed_acts : (x : sequencer.Outcome) → (x.sequencer ≡ s0) ⊎ (t0.reset.replied ≡ false) → sequencerCalls.sound_of x.sequencer ≡ true → sequencerLaws.Typed x.sequencer
          → x.sequencer.group.n ≡ n → Acts n w 0 (terminal.with_sequencer t0 x.sequencer)
      changed_acts x (inl is) s y m = subst (λ (z : Sequencer). Acts n w 0 (terminal.with_sequencer t0 z)) (sym is) (refused_acts 0 b)
      changed_acts x (inr closed) s y m =
          kept_acts 0 b (terminal.with_sequencer t0 x.sequencer) (changed_sound t0 x.sequencer sound0 s (m ∙ sym (size 0 b)) closed stands0.sequencing_is) stands0.past stands0.counts refl refl y

      -- it is the group's
      pub serves0 : serves t0 ≡ true
      serves0 =
          both_hold t0.sequencing _ stands0.sequencing_is
          (eq-eqb _ _ (ap (λ (s : Sequencer). s.group.number) (stands0.sequencer_is refl) ∙ ap (λ (x : description.Group). x.number) inv.sequencer.group_is ∙ sym (ours 0 b)))

      -- a no, and a call that only reads
      same_next : (e : Event) (x : sequencer.Outcome) → x.sequencer ≡ s0 → x.bytes ≡ [] → ordered_by e (by_sequencer x.answer x.bytes) ≡ []
          → ((j : ℕ) → took_at j e (by_sequencer x.answer x.bytes) ≡ []) → ((j : ℕ) → submitted_at j e (by_sequencer x.answer x.bytes) ≡ [])
          → Next e (with_sequencer w 0 (terminal.ordered t0 x))
      unfolding written
      same_next e x is silent eo et es =
          let t' = terminal.with_sequencer t0 x.sequencer in
          let back : t0 ≡ t' = ap (λ (s : Sequencer). terminal.with_sequencer t0 s) (sym is) in
          let packets : written x.bytes ≡ [] = ap written silent in
          quiet e (with_sequencer w 0 (terminal.ordered t0 x))
          (subst (λ (l : List (List ℕ)). Rel n number (record { terminals = set w.terminals 0 t'; packets = w.packets ++ l }) g) (sym packets)
          (rel_member n number w g v 0 b t' (subst (Acts n w 0) back (refused_acts 0 b)) g [] [] v.members (sym (append-nil g.packets)) (λ j q. refl)
          stands0.member_is (λ j c q. inl refl) (λ z. is ∙ stands0.sequencer_is refl) tt))
          eo et es

      -- one of the group's sequencer
      sequencer_next : (e : Event) (e' : model.Event) (x : sequencer.Outcome) → model.happen g e' ≡ model.with_sequencer g x → (x.sequencer ≡ s0) ⊎ (t0.reset.replied ≡ false)
          → ordered_by e (by_sequencer x.answer x.bytes) ≡ numbered_in (by_sequencer x.answer x.bytes) → ((j : ℕ) (a : Answer) → took_at j e a ≡ modelLog.took_at j e' a)
          → ((j : ℕ) (a : Answer) → submitted_at j e a ≡ modelLog.submitted_at j e' a) → Next e (with_sequencer w 0 (terminal.ordered t0 x))
      sequencer_next e e' x is same eo et es =
          let t' = terminal.with_sequencer t0 x.sequencer in
          let after = (subst (λ (y : model.Happened). Inv group y.group (ord ++ numbered_in y.answer) (λ j. tk j ++ modelLog.took_at j e' y.answer) (λ j. sb j ++ modelLog.submitted_at j e' y.answer)) is
          (step_keeps group g ord tk sb o.most o.fits inv e')).sequencer in
          moves e (with_sequencer w 0 (terminal.ordered t0 x)) e' (model.with_sequencer g x) is
          (rel_member n number w g v 0 b t' (changed_acts x same after.sound after.typed (ap (λ (y : description.Group). y.n) after.group_is)) (model.with_sequencer g x).group (written x.bytes) (written x.bytes) v.members refl
          (λ j q. refl) stands0.member_is (λ j c q. inr q) (λ z. refl) (written_covered _ n number g.packets x.bytes))
          eo (λ j. et j _) (λ j. es j _)

      poll_next : Next (poll 0) (with_sequencer w 0 (terminal.poll_of t0 longest_packet))
      unfolding terminal.poll_of model.happen numbered_in ordered_by took_at submitted_at modelLog.took_at modelLog.submitted_at
      poll_next =
          subst (λ (s : Sequencer). Next (poll 0) (with_sequencer w 0 (terminal.ordered t0 (sequencer.poll_of s longest_packet)))) (sym (stands0.sequencer_is refl))
          (sequencer_next (poll 0) model.poll (sequencer.poll_of g.sequencer longest_packet) refl (inl (poll_leaves g.sequencer longest_packet ∙ sym (stands0.sequencer_is refl)))
          (sym (poll_adds g.sequencer longest_packet)) (λ j a. refl) (λ j a. refl))

      copy_next : (k : ℕ) → Next (copy 0 k) (with_sequencer w 0 (terminal.copy_of t0 (record { 0 = k }) longest_packet))
      unfolding terminal.copy_of model.happen numbered_in ordered_by took_at submitted_at modelLog.took_at modelLog.submitted_at
      copy_next k =
          subst (λ (s : Sequencer). Next (copy 0 k) (with_sequencer w 0 (terminal.ordered t0 (sequencer.copy_of s (record { 0 = k }) longest_packet)))) (sym (stands0.sequencer_is refl))
          (sequencer_next (copy 0 k) (model.copy k) (sequencer.copy_of g.sequencer (record { 0 = k }) longest_packet) refl (inl (copy_leaves g.sequencer (record { 0 = k }) longest_packet ∙ sym (stands0.sequencer_is refl)))
          (sym (copy_adds g.sequencer (record { 0 = k }) longest_packet)) (λ j a. refl) (λ j a. refl))

      module _ (k : ℕ) where
        abbrev Orders : sequencer.Outcome → Type 0
        Orders x = Next (hand_sequencer k 0) (with_sequencer w 0 (terminal.ordered t0 x))

        refused_orders : (refusal : Refusal) → Orders (sequencer.refused s0 refusal)
        unfolding sequencer.answered ordered_by took_at submitted_at numbered_in numbered_by
        refused_orders refusal = same_next (hand_sequencer k 0) (sequencer.refused s0 refusal) refl refl refl (λ j. refl) (λ j. refl)

        -- a packet of a reset, and any of a frozen sequencer, is refused
        reads_refused : (content : Packet) (payload p : List ℕ) → (read_of p ≡ Ok (fields_of number content)) × (payload_at p ≡ payload)
            → (terminal.of_reset content ≡ true) ⊎ ((terminal.of_reset content ≡ false) × (t0.frozen ≡ true))
            → Orders (judged (sequencer.call_verdict s0 longest_packet) (sequencer.refused s0) (terminal.ordered_step t0 (read_of p) (payload_at p)))
        reads_refused content payload p reads which =
            judged_elim Orders (sequencer.call_verdict s0 longest_packet) (λ r _. refused_orders r)
            (λ _. subst (λ (r : Reading). Orders (terminal.ordered_step t0 r (payload_at p))) (sym reads.0) (step_refused which))
          where
            step_refused : (terminal.of_reset content ≡ true) ⊎ ((terminal.of_reset content ≡ false) × (t0.frozen ≡ true)) → Orders (terminal.ordered_step t0 (Ok (fields_of number content)) (payload_at p))
            step_refused (inl e) = ordered_refuses t0 number content (payload_at p) Orders refused_orders (λ h. reset_other s0 content (payload_at p) e)
            step_refused (inr e) = ordered_refuses t0 number content (payload_at p) Orders refused_orders (λ h. absurd (frozen_no ((fields_of number content).group =? s0.group.number) t0.frozen (terminal.of_reset content) e.1 e.0 h))

        hand_resets : (p : List ℕ) → Resets (terminal_at w) n number p → Next (hand_sequencer k 0) (with_sequencer w 0 (terminal.order_of t0 p longest_packet))
        unfolding terminal.order_of
        hand_resets p x =
            let reads : (read_of p ≡ Ok (fields_of number x.content)) × (payload_at p ≡ []) = rw x.bytes_are (read_written (fields_of number x.content) [] x.allowed) in
            reads_refused x.content [] p reads (inl (of_reset_lem (terminal_at w) n x.content x.says))

        frozen_hands : (p : List ℕ) → Known number (facts_in group g ord sb) p → t0.frozen ≡ true → Next (hand_sequencer k 0) (with_sequencer w 0 (terminal.order_of t0 p longest_packet))
        unfolding terminal.order_of
        frozen_hands p kn f =
            let reads : (read_of p ≡ Ok (fields_of number kn.content)) × (payload_at p ≡ kn.payload) = rw kn.bytes_are (read_written (fields_of number kn.content) kn.payload kn.allowed) in
            reads_refused kn.content kn.payload p reads (inr (known_plain (facts_in group g ord sb) kn.content kn.payload kn.says, f))

        -- one that is not frozen did not reply
        not_replied : t0.frozen ≡ false → t0.reset.replied ≡ false
        not_replied f = go t0.reset.replied refl
          where
            go : (r : Bool) → t0.reset.replied ≡ r → r ≡ false
            go false e = refl
            go true e = absurd (false≢true (sym f ∙ sound0.freezes e serves0))

        awake_hands : (j : ℕ) (p : List ℕ) → get_elem? g.packets j ≡ some p → t0.frozen ≡ false → Next (hand_sequencer k 0) (with_sequencer w 0 (terminal.order_of t0 p longest_packet))
        unfolding model.happen ordered_by took_at submitted_at modelLog.took_at modelLog.submitted_at
        awake_hands j p at f =
            let is = order_calls t0 g.sequencer p f (stands0.sequencer_is refl) in
            subst (λ (x : terminal.SequencerOutcome). Next (hand_sequencer k 0) (with_sequencer w 0 x)) (sym is)
            (sequencer_next (hand_sequencer k 0) (model.hand_sequencer j) (sequencer.receive_of g.sequencer p longest_packet) (ap (λ (z : Option (List ℕ)). model.hand_to_sequencer g z) at) (inr (not_replied f)) refl (λ q a. refl) (λ q a. refl))

        hand_known : (j : ℕ) (p : List ℕ) → get_elem? g.packets j ≡ some p → Known number (facts_in group g ord sb) p → Next (hand_sequencer k 0) (with_sequencer w 0 (terminal.order_of t0 p longest_packet))
        hand_known j p at kn = go t0.frozen refl
          where
            go : (f : Bool) → t0.frozen ≡ f → Next (hand_sequencer k 0) (with_sequencer w 0 (terminal.order_of t0 p longest_packet))
            go true f = frozen_hands p kn f
            go false f = awake_hands j p at f

    -- an event that names nothing that is there
    absent_next : (e : Event) → Next e (missing w)
    absent_next e = quiet e (missing w) v (ordered_absent e) (λ j. took_absent e j) (λ j. submitted_absent e j)

    at_terminal_lem : (e : Event) (i : ℕ) (call : Terminal → terminal.Outcome) → ((b : i < n) → Next e (with_member w i (call (terminal_at w i)) (written (call (terminal_at w i)).bytes))) → Next e (at_terminal w i call)
    at_terminal_lem e i call h =
        when_elim (Next e) (i <? length w.terminals) (λ b. h (let z = ltb-true i (length w.terminals) b in let l = v.size in omega arith)) (λ _. absent_next e)

    at_sequencer_lem : (e : ℕ → Event) (i : ℕ) (call : Terminal → terminal.SequencerOutcome) → ((b : 0 < n) → Next (e 0) (with_sequencer w 0 (call (terminal_at w 0)))) → Next (e i) (at_sequencer w i call)
    at_sequencer_lem e i call h =
        when_elim (Next (e i)) (i <? length w.terminals and (terminal_at w i).sequencing)
        (λ x.
        let l = v.size in
        let b = ltb-true i (length w.terminals) (both_first (i <? length w.terminals) _ x) in
        let less : i < n = omega arith in
        let q : i ≡ 0 = eqb-true i 0 (sym (v.each i less).sequencing_is ∙ both_then (i <? length w.terminals) _ x) in
        subst (λ (k : ℕ). Next (e k) (with_sequencer w k (call (terminal_at w k)))) (sym q) (h (omega arith)))
        (λ _. absent_next (e i))

    -- what is asked of an event: an inviting has a group number, and a making makes no group
    abbrev pub Asked : Event → Type 0
    Asked (submit i payload) = Unit {0}
    Asked (repeat i) = Unit {0}
    Asked (take i) = Unit {0}
    Asked (status i) = Unit {0}
    Asked (poll i) = Unit {0}
    Asked (copy i k) = Unit {0}
    Asked (hand_member k i) = Unit {0}
    Asked (hand_sequencer k i) = Unit {0}
    Asked (invite i k) = k ≤ largest_number
    Asked (make i demand) = is_sent (happen w (make i demand)).answer ≡ true → ⊥

    hand_next : (k i : ℕ) (p : List ℕ) → Covered (terminal_at w) n number g.packets p → Next (hand_member k i) (at_terminal w i (λ t. terminal.receive_of t p longest_packet))
    hand_next k i p (inl x) = at_terminal_lem (hand_member k i) i (λ t. terminal.receive_of t p longest_packet) (λ b. hand_plain i b k x.0 p x.1 (all_get _ g.packets x.0 inv.packets x.1))
    hand_next k i p (inr x) = at_terminal_lem (hand_member k i) i (λ t. terminal.receive_of t p longest_packet) (λ b. hand_reset i b k p x)

    hand_sequencer_next : (k i : ℕ) (p : List ℕ) → Covered (terminal_at w) n number g.packets p → Next (hand_sequencer k i) (at_sequencer w i (λ t. terminal.order_of t p longest_packet))
    hand_sequencer_next k i p (inl x) = at_sequencer_lem (hand_sequencer k) i (λ t. terminal.order_of t p longest_packet) (λ b. hand_known b k x.0 p x.1 (all_get _ g.packets x.0 inv.packets x.1))
    hand_sequencer_next k i p (inr x) = at_sequencer_lem (hand_sequencer k) i (λ t. terminal.order_of t p longest_packet) (λ b. hand_resets b k p x)

    make_at : (i demand : ℕ) → (is_sent (at_terminal w i (λ t. terminal.make_of t demand longest_packet)).answer ≡ true → ⊥) → Next (make i demand) (at_terminal w i (λ t. terminal.make_of t demand longest_packet))
    make_at i demand =
        when_elim (λ (d : Happened). (is_sent d.answer ≡ true → ⊥) → Next (make i demand) d) (i <? length w.terminals)
        (λ b f. make_next i (let z = ltb-true i (length w.terminals) b in let l = v.size in omega arith) demand f) (λ _ _. absent_next (make i demand))

    pub step_next : (e : Event) → Asked e → Next e (happen w e)
    unfolding happen
    step_next (submit i payload) a = at_terminal_lem (submit i payload) i (λ t. terminal.submit_of t payload longest_packet) (λ b. submit_next i b payload)
    step_next (repeat i) a = at_terminal_lem (repeat i) i (λ t. terminal.repeat_of t longest_packet) (λ b. repeat_next i b)
    step_next (take i) a =
        when_elim (Next (take i)) (i <? length w.terminals) (λ b. take_next i (let z = ltb-true i (length w.terminals) b in let l = v.size in omega arith)) (λ _. absent_next (take i))
    step_next (status i) a = at_terminal_lem (status i) i (λ t. terminal.status_of t longest_packet) (λ b. status_next i b)
    step_next (poll i) a = at_sequencer_lem poll i (λ t. terminal.poll_of t longest_packet) (λ b. poll_next b)
    step_next (copy i k) a = at_sequencer_lem (λ j. copy j k) i (λ t. terminal.copy_of t (record { 0 = k }) longest_packet) (λ b. copy_next b k)
    step_next (hand_member k i) a = handed (get_elem? w.packets k) refl
      where
        handed : (x : Option (List ℕ)) → get_elem? w.packets k ≡ x → Next (hand_member k i) (hand_to_member w i x)
        handed none e = absent_next (hand_member k i)
        handed (some p) e = hand_next k i p (all_get _ w.packets k v.covered e)
    step_next (hand_sequencer k i) a = handed (get_elem? w.packets k) refl
      where
        handed : (x : Option (List ℕ)) → get_elem? w.packets k ≡ x → Next (hand_sequencer k i) (hand_to_sequencer w i x)
        handed none e = absent_next (hand_sequencer k i)
        handed (some p) e = hand_sequencer_next k i p (all_get _ w.packets k v.covered e)
    step_next (invite i k) a = at_terminal_lem (invite i k) i (λ t. terminal.invite_of t k longest_packet) (λ b. invite_next i b k a)
    step_next (make i demand) a = make_at i demand a
