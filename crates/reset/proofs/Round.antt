-- The closing round of one survivor, where demand 3 is claimed: its row is taken; for each number above it a copy of the elected one's sequencer, its handing
-- over and a take; then a status, handed to that sequencer. Assumes nothing.
use mathlib.Core.Path.{◌≡◌, refl, sym, ap, ◌∙◌, subst}
use mathlib.Core.Logic.{◌≢◌}
use mathlib.Core.Bool.{true, false, false≢true}
use mathlib.Core.Option.{some}
use mathlib.Core.List.{List, [], ◌∷◌, ◌++◌, append-nil}
use Prim.Native.Nat.{ℕ, ◌+◌, ◌≤◌, ◌<◌}
use native.Mathlib.Nat.{le_trans}
use native.Mathlib.Omega.{arith}
use borrow.Author.Tests.{lt-ltb, eq-eqb}
use lib.ListN.{length, get_or, set, get_elem?}
use lib.Seq.{get_or-set_same, get_or-set_other}
use Rattle.group.proofs.Choice.{when_true, both_hold}
use Rattle.group.proofs.Lists.{when_elim, eq_or}
use Rattle.group.proofs.Members.{survivor_lt}
use Rattle.group.specs.Choice.{when◌then◌else◌, ◌and◌, ◌<?◌}
use Rattle.group.specs.Limits.{longest_packet}
use Rattle.group.specs.Members.{is_in}
use Rattle.group.specs.Question.{judged}
use Rattle.group.specs.declared.Group as description
use Rattle.group.specs.declared.MemberNumber.{MemberNumber}
use Rattle.group.specs.declared.SequenceNumber.{SequenceNumber}
use Rattle.history.proofs.Soundness.{taken_in}
use Rattle.message.specs.Order.{Ordered}
use Rattle.member.proofs.Closing.{HandOk, hand_ok, take_ok, status_is, receive_named}
use Rattle.member.proofs.Invariant as memberInvariant
use Rattle.member.specs.Calls as member
use Rattle.member.specs.Sound as memberSpecs
use Rattle.member.specs.State.{Member, acknowledged_of}
use Rattle.model.proofs.Round.{written_one, packet_long}
use Rattle.model.specs.Log.{numbered_in}
use Rattle.model.specs.World.{by_sequencer}
use Rattle.packet.proofs.Laws.{read_written, content_fields, fields_group}
use Rattle.packet.specs.Laws.{Allowed}
use Rattle.packet.specs.Packet.{content_of, fields_of, packet_of, from_elected, written}
use Rattle.packet.specs.declared.Packet.{Packet}
use Rattle.sequencer.proofs.Invariant.{SequencerInv}
use Rattle.sequencer.proofs.Ordering.{status_own, status_other, floor_below}
use Rattle.sequencer.specs.Calls as sequencer
use Rattle.sequencer.specs.Note.{with_table, note_of}
use Rattle.sequencer.specs.Order.{numbered_by}
use Rattle.sequencer.specs.State.{Sequencer}
use Rattle.sequencer.specs.declared.Answer as sequencerAnswer
use Rattle.window.specs.Places.{message_at}
use Rattle.recovery.specs.Calls as terminal
use Rattle.recovery.specs.Sound.{member_sound}
use Rattle.recovery.specs.State.{Terminal}
use Rattle.reset.specs.Claim.{MakesNone}
use Rattle.reset.specs.Course as course
use Rattle.reset.specs.Course.{Course, opened, course_of, course_in, taken, OfAttempt, Handed}
use Rattle.reset.specs.World.{Event, take, status, copy, hand_member, hand_sequencer, Entry, Group, Happened, happen, missing, no_terminal, terminal_at, World, step}
use Rattle.reset.proofs.Invariant.{group_in, Low, Survivor, Inv}
use Rattle.reset.proofs.Led.{Led, asked, step_led}
use Rattle.reset.proofs.Numbering.{own_seen}
use Rattle.reset.proofs.Carried.{sound_member, called, take_is, status_is as terminal-status}
use Rattle.reset.proofs.Same.{order_calls}
use Rattle.reset.proofs.Staying.{step_stays}
use Rattle.reset.proofs.Stepping.{take_calm}
use Rattle.reset.proofs.Unmade.{submitted_in, course_snoc}
use Rattle.reset.proofs.View.{member_here}

-- a sound terminal's calls are its member's
module _ (t : Terminal) (sound : member_sound t ≡ true) where
  take_member : (terminal.take_of t longest_packet).terminal.member ≡ (member.take_of t.member longest_packet).member
  take_member = ap (λ (x : terminal.Outcome). x.terminal.member) (take_is t sound)

  status_terminal : memberSpecs.sound_of t.member ≡ true → ((terminal.status_of t longest_packet).terminal ≡ t) × ((terminal.status_of t longest_packet).bytes ≡ member.status_packet t.member)
  status_terminal own = rw (terminal-status t sound, status_is t.member own) (refl, refl)

  -- a broadcast of its group, where it did not reply
  module _ (originator : MemberNumber) (number : SequenceNumber) (count : ℕ) (floor : SequenceNumber) (payload : List ℕ) where
    abbrev content : Packet
    content = Packet.Broadcast originator number count floor

    abbrev packet : List ℕ
    packet = packet_of (fields_of t.member.group.number content) payload

    hand_member_lem : memberSpecs.sound_of t.member ≡ true → t.reset.replied ≡ false → Allowed (fields_of t.member.group.number content) payload
        → ((terminal.receive_of t packet longest_packet).terminal.member ≡ (member.receive_of t.member packet longest_packet).member) × ((terminal.receive_of t packet longest_packet).bytes ≡ (member.receive_of t.member packet longest_packet).bytes)
        × ((terminal.receive_of t packet longest_packet).terminal.sequencer ≡ t.sequencer)
    unfolding terminal.receive_of judged terminal.read_step when◌then◌else◌ from_elected terminal.of_reset terminal.heard_of
    hand_member_lem own unsaid allowed =
        let reads = read_written (fields_of t.member.group.number content) payload allowed in
        let is = receive_named t.member t.member.group content payload own refl refl allowed in
        rw (called t sound, reads.0, reads.1, content_fields t.member.group.number content, eq-eqb (fields_of t.member.group.number content).group t.member.group.number (fields_group t.member.group.number content), unsaid, is) (refl, refl, refl)

module _ (n number resilience line : ℕ) (c : Course) (settled : c.attempt ≡ c.number) where
  abbrev group : description.Group
  group = group_in n resilience c

  abbrev sq : Group → Sequencer
  sq g = (terminal_at g c.elected).sequencer

  abbrev mem : Group → ℕ → Member
  mem g j = (terminal_at g j).member

  -- a world where demand 3 is claimed
  pub record Here (w : World) : Type 0 where
    pub led : Led n number resilience line w
    pub course_is : course_in n number w ≡ c
    pub all : (j : ℕ) → is_in c.survivors j ≡ true → (mem w.group j).group.number ≡ c.number

  pub step_here : (w : World) (e : Event) → Here w → course.Allowed w c e → MakesNone w e → course_of c e (happen w.group e).answer ≡ c → Here (step w e)
  step_here w e v allowed none_made same =
      let limit : course.Allowed w (course_in n number w) e = subst (λ (x : Course). course.Allowed w x e) (sym v.course_is) allowed in
      let x : Entry = record { event = e; answer = (happen w.group e).answer } in
      record {
        led = step_led n number resilience line w v.led e limit none_made;
        course_is = course_snoc (opened n number) w.log x ∙ ap (λ (y : Course). course_of y e (happen w.group e).answer) v.course_is ∙ same;
        all = λ j inside.
            let k = ap (λ (y : Course). y.number) v.course_is in
            step_stays n resilience line (course_in n number w) w.group (λ q. taken q w.log) (λ q. submitted_in q w.log) v.led.size v.led.holds e
            (asked n number resilience line w v.led e limit none_made) j (v.all j inside ∙ sym k) ∙ k;
      }

  -- what is so in such a world
  module _ (w : World) (v : Here w) where
    abbrev at : ℕ → Terminal
    at = terminal_at w.group

    abbrev tk : ℕ → List Ordered
    tk j = taken j w.log

    abbrev sb : ℕ → List (List ℕ)
    sb j = submitted_in j w.log

    pub inv : Inv n resilience line c at w.group.packets tk sb
    inv = subst (λ (x : Course). Inv n resilience line x at w.group.packets tk sb) v.course_is v.led.holds

    pub elected_in : is_in c.survivors c.elected ≡ true
    elected_in = inv.seen.standing.elected_in

    pub inside_lt : (i : ℕ) → is_in c.survivors i ≡ true → i < n
    inside_lt i e = survivor_lt group inv.seen.standing i e

    pub sequencer_inv : SequencerInv group (sq w.group) c.order
    sequencer_inv = (own_seen n resilience line c at w.group.packets tk sb inv (inside_lt c.elected elected_in) (v.all c.elected elected_in)).sequencer

    module _ (i : ℕ) (inside : is_in c.survivors i ≡ true) where
      pub terminal_inv : memberInvariant.Terminal group i (taken_in (sq w.group).acknowledgements i) (sq w.group).accepted.0 (mem w.group i) c.order (tk i) (sb i)
      terminal_inv =
          subst (λ (m : Member). memberInvariant.Terminal group i (taken_in (sq w.group).acknowledgements i) (sq w.group).accepted.0 m c.order (tk i) (sb i)) (member_here group inv.cut (at i) (v.all i inside))
          ((own_seen n resilience line c at w.group.packets tk sb inv (inside_lt c.elected elected_in) (v.all c.elected elected_in)).terminal i inside)

      survivor : Survivor n resilience c inv.under inv.cut (Low n resilience c inv.cut at) i (at i)
      survivor = (inv.sits i (inside_lt i inside)).survivor inside

      within : i < length w.group.terminals
      within = let z = inside_lt i inside in let l = v.led.size in omega arith

      member_ok : member_sound (at i) ≡ true
      member_ok = sound_member (at i) survivor.sound

      pub floor_low : (sq w.group).floor.0 ≤ (acknowledged_of (mem w.group i)).0
      floor_low = le_trans (floor_below group c.order (sq w.group) sequencer_inv i inside) terminal_inv.seat.acknowledged_le

    elected_sequencing : (at c.elected).sequencing ≡ true
    elected_sequencing = (survivor c.elected elected_in).present refl (v.all c.elected elected_in)

    elected_awake : (at c.elected).frozen ≡ false
    elected_awake = (survivor c.elected elected_in).wakes refl (v.all c.elected elected_in) settled

  -- what an event leaves of the group, seen from terminal i
  pub record Moves (i t' : ℕ) (g g' : Group) : Type 0 where
    pub sequencer_is : sq g' ≡ sq g
    pub taken_is : (mem g' i).taken.0 ≡ t'
    pub others_are : (j : ℕ) → j ≢ i → mem g' j ≡ mem g j

  put_moves : (g : Group) (i t' : ℕ) (t'' : Terminal) (packets : List (List ℕ)) → i < length g.terminals → t''.sequencer ≡ (terminal_at g i).sequencer → t''.member.taken.0 ≡ t'
      → Moves i t' g (record { terminals = set g.terminals i t''; packets = packets })
  put_moves g i t' t'' packets b s e =
      let here : get_or (set g.terminals i t'') i no_terminal ≡ t'' = get_or-set_same g.terminals i t'' no_terminal b in
      record {
        sequencer_is =
            eq_or c.elected i
            (λ q. subst (λ (k : ℕ). (get_or (set g.terminals i t'') k no_terminal).sequencer ≡ (terminal_at g k).sequencer) (sym q) (ap (λ (x : Terminal). x.sequencer) here ∙ s))
            (λ q. ap (λ (x : Terminal). x.sequencer) (get_or-set_other g.terminals i c.elected t'' no_terminal q));
        taken_is = ap (λ (x : Terminal). x.member.taken.0) here ∙ e;
        others_are = λ j q. ap (λ (x : Terminal). x.member) (get_or-set_other g.terminals i j t'' no_terminal q);
      }

  there : (P : Happened → Type 0) (g : Group) (i : ℕ) {x : Happened} → i < length g.terminals → P x → P (when i <? length g.terminals then x else missing g)
  there P g i b p = when_elim P (i <? length g.terminals) (λ _. p) (λ f. absurd (false≢true (sym f ∙ lt-ltb i (length g.terminals) b)))

  -- a take
  pub record Takes (i : ℕ) (g : Group) (d : Happened) : Type 0 where
    pub moves : Moves i ((mem g i).taken.0 + 1) g d.group
    pub acknowledged_is : (acknowledged_of (mem d.group i)).0 ≡ (acknowledged_of (mem g i)).0
    pub packets_are : d.group.packets ≡ g.packets

  pub take_effect : (w : World) (v : Here w) (i : ℕ) (inside : is_in c.survivors i ≡ true) → 1 ≤ (message_at (mem w.group i).held ((mem w.group i).taken.0 + 1)).count → (mem w.group i).taken.0 + 1 ≤ (mem w.group i).accepted.0
      → Takes i w.group (happen w.group (take i))
  unfolding happen
  take_effect w v i inside held ready =
      let g = w.group in
      let t = terminal_at g i in
      let x = terminal.take_of t longest_packet in
      let b = within w v i inside in
      let is = take_member t (member_ok w v i inside) in
      let ok = take_ok group i _ _ _ _ _ t.member (terminal_inv w v i inside) held ready in
      there (Takes i g) g i b
      (record {
        moves = put_moves g i (t.member.taken.0 + 1) x.terminal (g.packets ++ []) b (take_calm t longest_packet).sequencer (ap (λ (m : Member). m.taken.0) is ∙ ok.taken_is);
        acknowledged_is = ap (λ (y : Terminal). (acknowledged_of y.member).0) (get_or-set_same g.terminals i x.terminal no_terminal b) ∙ ap (λ (m : Member). (acknowledged_of m).0) is ∙ ok.acknowledged_is;
        packets_are = append-nil g.packets;
      })

  pub take_here : (w : World) (i : ℕ) → Here w → Here (step w (take i))
  unfolding course_of course.Allowed
  take_here w i v = step_here w (take i) v tt tt refl

  -- a copy, written as `bytes`
  pub record Copies (bytes : List ℕ) (g : Group) (d : Happened) : Type 0 where
    pub same_at : (j : ℕ) → terminal_at d.group j ≡ terminal_at g j
    pub packets_are : d.group.packets ≡ g.packets ++ (bytes ∷ [])

  pub copy_effect : (w : World) (v : Here w) (k : ℕ) (content : Packet) (x : ℕ) (payload : List ℕ)
      → sequencer.copy_of (sq w.group) (record { 0 = k }) longest_packet ≡ record { sequencer = sq w.group; answer = sequencerAnswer.Answer.Sent; bytes = packet_of (fields_of x content) payload }
      → Copies (packet_of (fields_of x content) payload) w.group (happen w.group (copy c.elected k))
  unfolding happen terminal.copy_of
  copy_effect w v k content x payload is =
      let g = w.group in
      let e = c.elected in
      let t = terminal_at g e in
      let b = within w v e (elected_in w v) in
      let bytes = packet_of (fields_of x content) payload in
      let P : Happened → Type 0 = Copies bytes g in
      let inside : (e <? length g.terminals and t.sequencing) ≡ true = both_hold (e <? length g.terminals) _ (lt-ltb e (length g.terminals) b) (elected_sequencing w v) in
      when_elim P (e <? length g.terminals and t.sequencing)
      (λ _.
      rw is
      (record {
        same_at = λ j.
            eq_or j e (λ q. subst (λ (y : ℕ). get_or (set g.terminals e t) y no_terminal ≡ terminal_at g y) (sym q) (get_or-set_same g.terminals e t no_terminal b)) (λ q. get_or-set_other g.terminals e j t no_terminal q);
        packets_are = ap (λ (l : List (List ℕ)). g.packets ++ l) (written_one bytes (packet_long content x payload));
      }))
      (λ f. absurd (false≢true (sym f ∙ inside)))

  pub copy_here : (w : World) (k : ℕ) → Here w → Here (step w (copy c.elected k))
  unfolding course_of course.Allowed
  copy_here w k v = step_here w (copy c.elected k) v tt tt refl

  -- the copy is handed over
  pub record Hands (i : ℕ) (g : Group) (d : Happened) : Type 0 where
    pub moves : Moves i (mem g i).taken.0 g d.group
    pub held : 1 ≤ (message_at (mem d.group i).held ((mem d.group i).taken.0 + 1)).count
    pub ready : (mem d.group i).taken.0 + 1 ≤ (mem d.group i).accepted.0
    pub packets_are : d.group.packets ≡ g.packets

  module _ (w : World) (v : Here w) (i : ℕ) (inside : is_in c.survivors i ≡ true) (originator : MemberNumber) (sent : SequenceNumber) (count : ℕ) (floor : SequenceNumber) (payload : List ℕ)
      (allowed : Allowed (fields_of c.number (Packet.Broadcast originator sent count floor)) payload) (b : ℕ)
      (there-is : get_elem? w.group.packets b ≡ some (packet_of (fields_of c.number (Packet.Broadcast originator sent count floor)) payload)) where
    abbrev bytes : List ℕ
    bytes = packet_of (fields_of c.number (Packet.Broadcast originator sent count floor)) payload

    pub hand_effect : originator.0 < n → sent.0 ≡ (mem w.group i).taken.0 + 1 → Hands i w.group (happen w.group (hand_member b i))
    unfolding happen written
    hand_effect less next =
        let g = w.group in
        let t = terminal_at g i in
        let m = t.member in
        let l = within w v i inside in
        let h = terminal_inv w v i inside in
        let ok : HandOk m (member.receive_of m bytes longest_packet) = hand_ok group i _ _ _ _ _ m h originator sent count floor payload allowed less next in
        let is = subst (λ (k : ℕ). Allowed (fields_of k (Packet.Broadcast originator sent count floor)) payload
        → ((terminal.receive_of t (packet_of (fields_of k (Packet.Broadcast originator sent count floor)) payload) longest_packet).terminal.member ≡ (member.receive_of m (packet_of (fields_of k (Packet.Broadcast originator sent count floor)) payload) longest_packet).member)
        × ((terminal.receive_of t (packet_of (fields_of k (Packet.Broadcast originator sent count floor)) payload) longest_packet).bytes ≡ (member.receive_of m (packet_of (fields_of k (Packet.Broadcast originator sent count floor)) payload) longest_packet).bytes)
        × ((terminal.receive_of t (packet_of (fields_of k (Packet.Broadcast originator sent count floor)) payload) longest_packet).terminal.sequencer ≡ t.sequencer)) (v.all i inside)
        (hand_member_lem t (member_ok w v i inside) originator sent count floor payload h.content.sound ((survivor w v i inside).calm (v.all i inside) settled)) allowed in
        let x = terminal.receive_of t bytes longest_packet in
        let put : get_or (set g.terminals i x.terminal) i no_terminal ≡ x.terminal = get_or-set_same g.terminals i x.terminal no_terminal l in
        let member_is : (get_or (set g.terminals i x.terminal) i no_terminal).member ≡ (member.receive_of m bytes longest_packet).member = ap (λ (y : Terminal). y.member) put ∙ is.0 in
        rw there-is
        (there (Hands i g) g i l
        (record {
          moves = put_moves g i m.taken.0 x.terminal (g.packets ++ written x.bytes) l is.2 (ap (λ (y : Member). y.taken.0) is.0 ∙ ok.taken_is);
          held =
              subst (λ (y : Member). 1 ≤ (message_at y.held (y.taken.0 + 1)).count) (sym member_is)
              (subst (λ (k : ℕ). 1 ≤ (message_at (member.receive_of m bytes longest_packet).member.held (k + 1)).count) (sym ok.taken_is) ok.held);
          ready =
              subst (λ (y : Member). y.taken.0 + 1 ≤ y.accepted.0) (sym member_is)
              (subst (λ (k : ℕ). k + 1 ≤ (member.receive_of m bytes longest_packet).member.accepted.0) (sym ok.taken_is) ok.ready);
          packets_are = ap (λ (k : List ℕ). g.packets ++ written k) (is.1 ∙ ok.bytes_are) ∙ append-nil g.packets;
        }))

    limit : Handed c i (get_elem? w.group.packets b)
    unfolding Handed OfAttempt terminal.of_reset
    limit =
        let reads = read_written (fields_of c.number (Packet.Broadcast originator sent count floor)) payload allowed in
        let plain : terminal.of_reset (content_of (fields_of c.number (Packet.Broadcast originator sent count floor))) ≡ false = ap terminal.of_reset (content_fields c.number (Packet.Broadcast originator sent count floor)) in
        subst (Handed c i) (sym there-is) (subst (OfAttempt c i) (sym reads.0) (λ e. absurd (false≢true (sym plain ∙ e))))

    pub hand_here : Here (step w (hand_member b i))
    unfolding course_of course.Allowed
    hand_here = step_here w (hand_member b i) v limit tt refl

  -- a status
  pub record Says (i : ℕ) (g : Group) (d : Happened) : Type 0 where
    pub same_at : (j : ℕ) → terminal_at d.group j ≡ terminal_at g j
    pub packets_are : d.group.packets ≡ g.packets ++ (member.status_packet (mem g i) ∷ [])

  status_written : (m : Member) → written (member.status_packet m) ≡ member.status_packet m ∷ []
  unfolding member.status_packet
  status_written m = written_one _ (packet_long _ m.group.number [])

  pub status_effect : (w : World) (v : Here w) (i : ℕ) (inside : is_in c.survivors i ≡ true) → Says i w.group (happen w.group (status i))
  unfolding happen
  status_effect w v i inside =
      let g = w.group in
      let t = terminal_at g i in
      let l = within w v i inside in
      let is = status_terminal t (member_ok w v i inside) (terminal_inv w v i inside).content.sound in
      let x = terminal.status_of t longest_packet in
      there (Says i g) g i l
      (record {
        same_at = λ j.
            eq_or j i (λ q. subst (λ (y : ℕ). get_or (set g.terminals i x.terminal) y no_terminal ≡ terminal_at g y) (sym q) (get_or-set_same g.terminals i x.terminal no_terminal l ∙ is.0))
            (λ q. get_or-set_other g.terminals i j x.terminal no_terminal q);
        packets_are = ap (λ (y : List ℕ). g.packets ++ written y) is.1 ∙ ap (λ (y : List (List ℕ)). g.packets ++ y) (status_written t.member);
      })

  pub status_here : (w : World) (i : ℕ) → Here w → Here (step w (status i))
  unfolding course_of course.Allowed
  status_here w i v = step_here w (status i) v tt tt refl

  -- the status is handed to the sequencer
  pub record Notes (i a : ℕ) (g : Group) (d : Happened) : Type 0 where
    pub members_are : (j : ℕ) → mem d.group j ≡ mem g j
    pub packets_are : d.group.packets ≡ g.packets
    pub accepted_is : (sq d.group).accepted.0 ≡ (sq g).accepted.0
    pub entry_is : a ≤ taken_in (sq d.group).acknowledgements i
    pub entry_other : (j : ℕ) → j ≢ i → taken_in (sq d.group).acknowledgements j ≡ taken_in (sq g).acknowledgements j
    pub quiet : course_of c (hand_sequencer 0 c.elected) d.answer ≡ c

  module _ (w : World) (v : Here w) (i : MemberNumber) (a : SequenceNumber) (b : ℕ) (bytes : List ℕ) (there-is : get_elem? w.group.packets b ≡ some bytes)
      (noted : sequencer.receive_of (sq w.group) bytes longest_packet ≡ sequencer.answered (note_of (sq w.group) i a) sequencerAnswer.Answer.Noted) (less : i.0 < n) where
    pub note_effect : Notes i.0 a.0 w.group (happen w.group (hand_sequencer b c.elected))
    unfolding happen written sequencer.answered note_of with_table course_of numbered_in numbered_by
    note_effect =
        let g = w.group in
        let e = c.elected in
        let t = terminal_at g e in
        let l = within w v e (elected_in w v) in
        let s = t.sequencer in
        let inside : (e <? length g.terminals and t.sequencing) ≡ true = both_hold (e <? length g.terminals) _ (lt-ltb e (length g.terminals) l) (elected_sequencing w v) in
        let is : terminal.order_of t bytes longest_packet ≡ terminal.ordered t (sequencer.answered (note_of s i a) sequencerAnswer.Answer.Noted) = order_calls t s bytes (elected_awake w v) refl ∙ ap (terminal.ordered t) noted in
        let t' : Terminal = terminal.with_sequencer t (note_of s i a) in
        let put : get_or (set g.terminals e t') e no_terminal ≡ t' = get_or-set_same g.terminals e t' no_terminal l in
        rw there-is
        (when_elim (Notes i.0 a.0 g) (e <? length g.terminals and t.sequencing)
        (λ _.
        rw is
        (record {
          members_are = λ j.
              eq_or j e (λ q. subst (λ (y : ℕ). (get_or (set g.terminals e t') y no_terminal).member ≡ mem g y) (sym q) (ap (λ (y : Terminal). y.member) put)) (λ q. ap (λ (y : Terminal). y.member) (get_or-set_other g.terminals e j t' no_terminal q));
          packets_are = append-nil g.packets;
          accepted_is = ap (λ (y : Terminal). y.sequencer.accepted.0) put;
          entry_is = subst (λ (y : Terminal). a.0 ≤ taken_in y.sequencer.acknowledgements i.0) (sym put) (status_own group c.order s (sequencer_inv w v) i a less);
          entry_other = λ j q. ap (λ (y : Terminal). taken_in y.sequencer.acknowledgements j) put ∙ status_other group c.order s (sequencer_inv w v) i a less j q;
          quiet = quiet_course;
        }))
        (λ f. absurd (false≢true (sym f ∙ inside))))
      where
        quiet_course : course_of c (hand_sequencer 0 c.elected) (by_sequencer sequencerAnswer.Answer.Noted []) ≡ c
        quiet_course =
            let x : c.order ++ (when is_in c.survivors c.elected then [] else []) ≡ c.order =
            ap (λ (l : List Ordered). c.order ++ l) (sym (when_true (is_in c.survivors c.elected) [] [] [] (elected_in w v) refl)) ∙ append-nil c.order in
            λ j. record { order = x j; survivors = c.survivors; elected = c.elected; number = c.number; attempt = c.attempt; initiator = c.initiator; used = c.used }

    pub note_here : Here (step w (hand_sequencer b c.elected))
    unfolding course_of course.Allowed
    note_here = step_here w (hand_sequencer b c.elected) v tt tt note_effect.quiet
