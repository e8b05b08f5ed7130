-- The closing round of one terminal: its row is taken; for each number above it a copy, its handing over and a take; then a status,
-- handed to the sequencer. Assumes nothing.
use mathlib.Core.Path.{◌≡◌, refl, sym, ap, ◌∙◌, subst}
use mathlib.Core.Logic.{◌≢◌}
use mathlib.Core.Bool.{true}
use mathlib.Core.Option.{some}
use mathlib.Core.List.{List, [], ◌∷◌, ◌++◌, append-nil}
use Prim.Native.Nat.{ℕ, zero, suc, ◌+◌, ◌-◌, ◌≤◌, ◌<◌}
use native.Mathlib.Omega.{arith}
use borrow.Author.Tests.{ltb-false}
use lib.ListN.{length, get_or, set, get_elem?, length-append}
use lib.Seq.{get_or-set_same, get_or-set_other}
use Rattle.group.proofs.Lists.{when_elim, get_last, at_some}
use Rattle.group.specs.Choice.{when◌then◌else◌, ◌<?◌}
use Rattle.group.specs.Limits.{members_most, largest_number, longest_packet}
use Rattle.group.specs.declared.MemberNumber.{MemberNumber}
use Rattle.group.specs.declared.SequenceNumber.{SequenceNumber}
use Rattle.group.specs.declared.Group as description
use Rattle.member.proofs.Acknowledged.{acknowledged_least, acknowledged_accepted, acknowledged_holds, acknowledged_most}
use Rattle.member.proofs.Soundness.{sound_of_lem as member_sound_lem}
use Rattle.member.proofs.Closing.{HandOk, hand_ok, TakeOk, take_ok, status_is, status_ok}
use Rattle.member.specs.Calls as member
use Rattle.member.specs.Sound as member_sound
use Rattle.member.specs.State.{Member, acknowledged_of}
use Rattle.window.specs.Places.{message_at}
use Rattle.member.specs.declared.Answer as memberAnswer
use Rattle.message.specs.Order.{Ordered}
use Rattle.model.proofs.Invariant.{WorldInv, taken_of, acknowledged_in}
use Rattle.model.proofs.Step.{gather_snoc, next_keeps, run_keeps}
use Rattle.model.proofs.Whole.{floor_le}
use Rattle.model.specs.Closing.{take_row, close_member}
use Rattle.model.specs.Log.{numbered_in, order}
use Rattle.model.specs.World.{Event, status, copy, hand_member, hand_sequencer, Group, Happened, missing, with_member, no_member, happen, World, step, run}
use Rattle.model.specs.World as world
use Rattle.packet.proofs.RoundTrip.{packet_length}
use Rattle.packet.specs.Laws.{Allowed}
use Rattle.packet.specs.Packet.{packet_of, fields_of, written}
use Rattle.packet.specs.declared.Packet.{Packet}
use Rattle.packet.specs.declared.Packet.TheVariants.{Broadcast}
use Rattle.history.proofs.Soundness.{taken_in}
use Rattle.sequencer.proofs.Histories.{broadcast_may}
use Rattle.sequencer.proofs.Packets.{announced_accepted}
use Rattle.sequencer.proofs.Soundness.{sound_of_lem}
use Rattle.sequencer.proofs.Invariant.{SequencerInv}
use Rattle.sequencer.proofs.Ordering.{copy_ok, status_own, status_other}
use Rattle.sequencer.proofs.Ordering as sequencerOrdering
use Rattle.sequencer.specs.Calls as sequencer
use Rattle.sequencer.specs.Note.{with_table, note_of}
use Rattle.sequencer.specs.Order.{numbered_by}
use Rattle.sequencer.specs.Sound.{sound_of}
use Rattle.sequencer.specs.declared.Answer.TheVariants.{Noted, Sent}
use Rattle.sequencer.specs.State.{Sequencer}

-- what an event leaves of the group, seen from terminal i
record Effect (g : Group) (i t' : ℕ) (d : Happened) : Type 0 where
  sequencer_is : d.group.sequencer ≡ g.sequencer
  taken_is : taken_of d.group.members i ≡ t'
  others_are : (j : ℕ) → j ≢ i → get_or d.group.members j no_member ≡ get_or g.members j no_member
  quiet : numbered_in d.answer ≡ []

put_effect : (g : Group) (i t' : ℕ) (o : member.Outcome) (packets : List (List ℕ)) → i < length g.members → o.member.taken.0 ≡ t' → Effect g i t' (with_member g i o packets)
unfolding numbered_in
put_effect g i t' o packets h e =
    record {
      sequencer_is = refl;
      taken_is = ap (λ (m : Member). m.taken.0) (get_or-set_same g.members i o.member no_member h) ∙ e;
      others_are = λ j q. get_or-set_other g.members i j o.member no_member q;
      quiet = refl;
    }

-- a choice by whether member i is there
there : (P : Happened → Type 0) (g : Group) (i : ℕ) {x : Happened} → i < length g.members → P x → P (when i <? length g.members then x else missing g)
there P g i h p = when_elim P (i <? length g.members) (λ t. p) (λ f. let z = ltb-false i _ f in absurd (omega arith))

-- a copy, written as `bytes`
record CopyEffect (g : Group) (bytes : List ℕ) (d : Happened) : Type 0 where
  sequencer_is : d.group.sequencer ≡ g.sequencer
  members_are : d.group.members ≡ g.members
  packets_are : d.group.packets ≡ g.packets ++ (bytes ∷ [])
  quiet : numbered_in d.answer ≡ []

-- what a call writes that lays at least one byte
pub written_one : (bytes : List ℕ) → 1 ≤ length bytes → written bytes ≡ bytes ∷ []
unfolding written
written_one [] h = absurd (omega arith)
written_one (b ∷ l) h = refl

pub packet_long : (h : Packet) (g : ℕ) (payload : List ℕ) → 1 ≤ length (packet_of (fields_of g h) payload)
packet_long h g payload = let z = packet_length (fields_of g h) payload in omega arith

copy_effect : (g : Group) (k : ℕ) (content : Packet) (number : ℕ) (payload : List ℕ)
    → sequencer.copy_of g.sequencer (record { 0 = k }) longest_packet ≡ record { sequencer = g.sequencer; answer = Sent; bytes = packet_of (fields_of number content) payload }
    → CopyEffect g (packet_of (fields_of number content) payload) (happen g (copy k))
unfolding happen numbered_in numbered_by
copy_effect g k content number payload e =
    rw e
    (record {
      sequencer_is = refl;
      members_are = refl;
      packets_are = ap (λ (l : List (List ℕ)). g.packets ++ l) (written_one _ (packet_long content number payload));
      quiet = refl;
    })

-- the copy is handed over
record HandEffect (g : Group) (i : ℕ) (d : Happened) : Type 0 where
  effect : Effect g i (taken_of g.members i) d
  held : 1 ≤ (message_at (get_or d.group.members i no_member).held (taken_of d.group.members i + 1)).count
  ready : taken_of d.group.members i + 1 ≤ (get_or d.group.members i no_member).accepted.0
  packets_are : d.group.packets ≡ g.packets

hand_effect : (g : Group) (i b : ℕ) (bytes : List ℕ) → i < length g.members → get_elem? g.packets b ≡ some bytes
    → HandOk (get_or g.members i no_member) (member.receive_of (get_or g.members i no_member) bytes longest_packet)
    → HandEffect g i (happen g (hand_member b i))
unfolding happen written
hand_effect g i b bytes hi e h =
    rw e
    (there (HandEffect g i) g i hi
    (let m : Member = get_or g.members i no_member in
    let o : member.Outcome = member.receive_of m bytes longest_packet in
    let z : get_or (set g.members i o.member) i no_member ≡ o.member = get_or-set_same g.members i o.member no_member hi in
    record {
      effect = put_effect g i m.taken.0 o (written o.bytes) hi h.taken_is;
      held =
          subst (λ (x : Member). 1 ≤ (message_at x.held (x.taken.0 + 1)).count) (sym z)
          (subst (λ (k : ℕ). 1 ≤ (message_at o.member.held (k + 1)).count) (sym h.taken_is) h.held);
      ready =
          subst (λ (x : Member). x.taken.0 + 1 ≤ x.accepted.0) (sym z)
          (subst (λ (k : ℕ). k + 1 ≤ o.member.accepted.0) (sym h.taken_is) h.ready);
      packets_are = ap (λ (l : List ℕ). g.packets ++ written l) h.bytes_are ∙ append-nil g.packets;
    }))

record TakeEffect (g : Group) (i : ℕ) (d : Happened) : Type 0 where
  effect : Effect g i (taken_of g.members i + 1) d
  acknowledged_is : acknowledged_in d.group.members i ≡ acknowledged_in g.members i
  packets_are : d.group.packets ≡ g.packets

take_effect : (g : Group) (i : ℕ) → i < length g.members → TakeOk (get_or g.members i no_member) (member.take_of (get_or g.members i no_member) longest_packet) → TakeEffect g i (happen g (world.take i))
unfolding happen
take_effect g i hi h =
    there (TakeEffect g i) g i hi
    (let o : member.Outcome = member.take_of (get_or g.members i no_member) longest_packet in
    record {
      effect = put_effect g i _ o [] hi h.taken_is;
      acknowledged_is = ap (λ (m : Member). (acknowledged_of m).0) (get_or-set_same g.members i o.member no_member hi) ∙ h.acknowledged_is;
      packets_are = append-nil g.packets;
    })

record StatusEffect (g : Group) (i : ℕ) (d : Happened) : Type 0 where
  effect : Effect g i (taken_of g.members i) d
  packets_are : d.group.packets ≡ g.packets ++ (member.status_packet (get_or g.members i no_member) ∷ [])

status_written : (m : Member) → written (member.status_packet m) ≡ member.status_packet m ∷ []
unfolding member.status_packet
status_written m = written_one _ (packet_long _ m.group.number [])

status_effect : (g : Group) (i : ℕ) → i < length g.members → member_sound.sound_of (get_or g.members i no_member) ≡ true → StatusEffect g i (happen g (status i))
unfolding happen
status_effect g i hi s =
    there (StatusEffect g i) g i hi
    (let m : Member = get_or g.members i no_member in
    rw (status_is m s)
    (record {
      effect = put_effect g i _ (record { member = m; answer = memberAnswer.Answer.Sent; bytes = member.status_packet m }) (written (member.status_packet m)) hi refl;
      packets_are = ap (λ (l : List (List ℕ)). g.packets ++ l) (status_written m);
    }))

-- the status is handed to the sequencer
record NotedEffect (g : Group) (i a : ℕ) (d : Happened) : Type 0 where
  members_are : d.group.members ≡ g.members
  packets_are : d.group.packets ≡ g.packets
  accepted_is : d.group.sequencer.accepted.0 ≡ g.sequencer.accepted.0
  entry_is : a ≤ taken_in d.group.sequencer.acknowledgements i
  entry_other : (j : ℕ) → j ≢ i → taken_in d.group.sequencer.acknowledgements j ≡ taken_in g.sequencer.acknowledgements j
  quiet : numbered_in d.answer ≡ []

noted_effect : (group : description.Group) (ord : List Ordered) (g : Group) (i : MemberNumber) (t : SequenceNumber) (b : ℕ) (bytes : List ℕ) → get_elem? g.packets b ≡ some bytes
    → sequencer.receive_of g.sequencer bytes longest_packet ≡ sequencer.answered (note_of g.sequencer i t) Noted
    → SequencerInv group g.sequencer ord → i.0 < group.n → NotedEffect g i.0 t.0 (happen g (hand_sequencer b))
unfolding happen written numbered_in numbered_by sequencer.answered note_of with_table
noted_effect group ord g i t b bytes e o v hi =
    rw (e, o)
    (record {
      members_are = refl;
      packets_are = append-nil g.packets;
      accepted_is = refl;
      entry_is = status_own group ord g.sequencer v i t hi;
      entry_other = status_other group ord g.sequencer v i t hi;
      quiet = refl;
    })

-- the same of a world
order_next : (w : World) (e : Event) → numbered_in (happen w.group e).answer ≡ [] → order (step w e).log ≡ order w.log
order_next w e q = gather_snoc _ w.log _ ∙ ap (λ (l : List Ordered). order w.log ++ l) q ∙ append-nil (order w.log)

pub length_snoc : {A : Type 0} (l : List A) (x : A) → length (l ++ (x ∷ [])) ≡ length l + 1
length_snoc l x = simp length-append

-- terminal i took numbers, up to t', and p packets were written
record Trip (i t' p : ℕ) (w w' : World) : Type 0 where
  sequencer_is : w'.group.sequencer ≡ w.group.sequencer
  taken_is : taken_of w'.group.members i ≡ t'
  others_are : (j : ℕ) → j ≢ i → get_or w'.group.members j no_member ≡ get_or w.group.members j no_member
  order_is : order w'.log ≡ order w.log
  length_is : length w'.group.packets ≡ length w.group.packets + p

-- the terminal took all that is accepted, and the sequencer knows it
pub record Closed (i k : ℕ) (w w' : World) : Type 0 where
  pub accepted_is : w'.group.sequencer.accepted.0 ≡ w.group.sequencer.accepted.0
  pub taken_is : taken_of w'.group.members i ≡ w.group.sequencer.accepted.0
  pub entry_is : w.group.sequencer.accepted.0 ≤ taken_in w'.group.sequencer.acknowledgements i
  pub entry_other : (j : ℕ) → j ≢ i → taken_in w'.group.sequencer.acknowledgements j ≡ taken_in w.group.sequencer.acknowledgements j
  pub others_are : (j : ℕ) → j ≢ i → get_or w'.group.members j no_member ≡ get_or w.group.members j no_member
  pub order_is : order w'.log ≡ order w.log
  pub length_is : length w'.group.packets ≡ length w.group.packets + k + 1

module _ (group : description.Group) (hn : group.n ≤ members_most) (hg : group.number ≤ largest_number) (i : ℕ) (hi : i < group.n) where
  inside : (w : World) → WorldInv group w → i < length w.group.members
  inside w v = let z = v.members in omega arith

  -- the row is taken
  takes_row : (k t : ℕ) (w : World) → WorldInv group w → taken_of w.group.members i ≡ t → t + k ≤ acknowledged_in w.group.members i → Trip i (t + k) 0 w (run w (take_row i k))
  unfolding run take_row
  takes_row zero t w v et le = record { sequencer_is = refl; taken_is = et ∙ omega arith; others_are = λ j x. refl; order_is = refl; length_is = omega arith }
  takes_row (suc k) t w v et le =
      let m : Member = get_or w.group.members i no_member in
      let e = take_effect w.group i (inside w v) (take_ok group i _ _ _ _ _ m (v.terminal i hi) (acknowledged_holds m (m.taken.0 + 1) (omega arith) (omega arith)) (let z = acknowledged_accepted m in omega arith)) in
      let w1 : World = step w (world.take i) in
      let et1 : taken_of w1.group.members i ≡ t + 1 = e.effect.taken_is ∙ ap (λ (x : ℕ). x + 1) et in
      let d = takes_row k (t + 1) w1 (next_keeps group hn hg w (world.take i) v) et1 (let z = e.acknowledged_is in omega arith) in
      record {
        sequencer_is = d.sequencer_is ∙ e.effect.sequencer_is;
        taken_is = d.taken_is ∙ omega arith;
        others_are = λ j x. d.others_are j x ∙ e.effect.others_are j x;
        order_is = d.order_is ∙ order_next w (world.take i) e.effect.quiet;
        length_is = d.length_is ∙ ap (λ (l : List (List ℕ)). length l + 0) e.packets_are;
      }

  -- a number is copied, handed over and taken
  trip : (w : World) (t b : ℕ) → WorldInv group w → taken_of w.group.members i ≡ t → w.group.sequencer.floor.0 ≤ t → t < w.group.sequencer.accepted.0 → length w.group.packets ≡ b
      → Trip i (t + 1) 1 w (step (step (step w (copy (t + 1))) (hand_member b i)) (world.take i))
  trip w t b v et fl lt eb =
      let q : Sequencer = w.group.sequencer in
      let s = v.sequencer in
      let top = s.top_is in
      let high = (sound_of_lem q s.sound).accepted_le in
      let y = at_some (order w.log) (t + 1) (omega arith) (omega arith) in
      let x : Ordered = y.0 in
      let above : q.floor.0 < t + 1 = omega arith in
      let originator : MemberNumber = record { 0 = x.originator } in
      let number : SequenceNumber = record { 0 = t + 1 } in
      let content : Packet = Broadcast originator number x.count q.floor in
      let said : sequencer.announced q.accepted originator number x.count q.floor ≡ content = announced_accepted q.accepted originator number x.count q.floor (omega arith) in
      let bytes : List ℕ = packet_of (fields_of group.number content) x.payload in
      let c = copy_effect w.group (t + 1) content group.number x.payload
      (subst (λ (p : Packet). sequencer.copy_of q (record { 0 = t + 1 }) longest_packet ≡ record { sequencer = q; answer = Sent; bytes = packet_of (fields_of group.number p) x.payload }) said
      (copy_ok group (order w.log) q s (t + 1) x y.1 above)) in
      let w1 : World = step w (copy (t + 1)) in
      let v1 : WorldInv group w1 = next_keeps group hn hg w (copy (t + 1)) v in
      let m : Member = get_or w1.group.members i no_member in
      let et1 : taken_of w1.group.members i ≡ t = ap (λ (l : List Member). taken_of l i) c.members_are ∙ et in
      let at_b : get_elem? w1.group.packets b ≡ some bytes = rw (c.packets_are, ← eb) (get_last w.group.packets bytes) in
      let ok : HandOk m (member.receive_of m bytes longest_packet) =
      hand_ok group i _ _ _ _ _ m (v1.terminal i hi) originator number x.count q.floor x.payload
      (subst (λ (p : Packet). Allowed (fields_of group.number p) x.payload) said (broadcast_may group (order w.log) q s (t + 1) x y.1 above)) (s.originator_ok (t + 1) x y.1) (omega arith) in
      let d = hand_effect w1.group i b bytes (inside w1 v1) at_b ok in
      let w2 : World = step w1 (hand_member b i) in
      let v2 : WorldInv group w2 = next_keeps group hn hg w1 (hand_member b i) v1 in
      let e = take_effect w2.group i (inside w2 v2) (take_ok group i _ _ _ _ _ (get_or w2.group.members i no_member) (v2.terminal i hi) d.held d.ready) in
      record {
        sequencer_is = e.effect.sequencer_is ∙ d.effect.sequencer_is ∙ c.sequencer_is;
        taken_is = e.effect.taken_is ∙ ap (λ (k : ℕ). k + 1) (d.effect.taken_is ∙ et1);
        others_are = λ j k. e.effect.others_are j k ∙ d.effect.others_are j k ∙ ap (λ (l : List Member). get_or l j no_member) c.members_are;
        order_is = order_next w2 (world.take i) e.effect.quiet ∙ order_next w1 (hand_member b i) d.effect.quiet ∙ order_next w (copy (t + 1)) c.quiet;
        length_is = ap length (e.packets_are ∙ d.packets_are ∙ c.packets_are) ∙ length_snoc w.group.packets bytes;
      }

  ends : (w : World) (b : ℕ) → WorldInv group w → taken_of w.group.members i ≡ w.group.sequencer.accepted.0 → length w.group.packets ≡ b
      → Closed i 0 w (step (step w (status i)) (hand_sequencer b))
  ends w b v et eb =
      let m : Member = get_or w.group.members i no_member in
      let h = v.terminal i hi in
      let c = status_effect w.group i (inside w v) h.content.sound in
      let w1 : World = step w (status i) in
      let v1 : WorldInv group w1 = next_keeps group hn hg w (status i) v in
      let s1 = v1.sequencer in
      let q1 : Sequencer = w1.group.sequencer in
      let accepted1 : q1.accepted.0 ≡ w.group.sequencer.accepted.0 = ap (λ (q : Sequencer). q.accepted.0) c.effect.sequencer_is in
      let at_b : get_elem? w1.group.packets b ≡ some (member.status_packet m) = rw (c.packets_are, ← eb) (get_last w.group.packets (member.status_packet m)) in
      let number = h.seat.number_is in
      let least = acknowledged_least m (member_sound_lem m h.content.sound) in
      let most = acknowledged_most h in
      let sent = status_ok group i _ _ _ _ _ m h in
      let noted : sequencer.receive_of q1 (member.status_packet m) longest_packet ≡ sequencer.answered (note_of q1 m.number (acknowledged_of m)) Noted =
      rw sent.0 (sequencerOrdering.status_ok group (order w1.log) q1 s1 m.number (acknowledged_of m) sent.1 (rw number (v.everybody i hi)) (omega arith)) in
      let d = noted_effect group (order w1.log) w1.group m.number (acknowledged_of m) b (member.status_packet m) at_b noted s1 (omega arith) in
      record {
        accepted_is = d.accepted_is ∙ accepted1;
        taken_is = ap (λ (l : List Member). taken_of l i) d.members_are ∙ c.effect.taken_is ∙ et;
        entry_is =
            subst (λ (k : ℕ). w.group.sequencer.accepted.0 ≤ taken_in (step w1 (hand_sequencer b)).group.sequencer.acknowledgements k) number (let z = d.entry_is in omega arith);
        entry_other = λ j k. d.entry_other j (λ x. k (x ∙ number)) ∙ ap (λ (q : Sequencer). taken_in q.acknowledgements j) c.effect.sequencer_is;
        others_are = λ j k. ap (λ (l : List Member). get_or l j no_member) d.members_are ∙ c.effect.others_are j k;
        order_is = order_next w1 (hand_sequencer b) d.quiet ∙ order_next w (status i) c.effect.quiet;
        length_is =
            let z : length (w.group.packets ++ (member.status_packet m ∷ [])) ≡ length w.group.packets + 0 + 1 = length_snoc w.group.packets (member.status_packet m) ∙ (omega arith) in
            ap length (d.packets_are ∙ c.packets_are) ∙ z;
      }

  closes_one : (k t b : ℕ) (w : World) → WorldInv group w → taken_of w.group.members i ≡ t → w.group.sequencer.floor.0 ≤ t → t + k ≡ w.group.sequencer.accepted.0 → length w.group.packets ≡ b
      → Closed i k w (run w (close_member i t k b))
  unfolding run close_member
  closes_one zero t b w v et fl ek eb = ends w b v (omega arith) eb
  closes_one (suc k) t b w v et fl ek eb =
      let w3 : World = step (step (step w (copy (t + 1))) (hand_member b i)) (world.take i) in
      let v3 : WorldInv group w3 = run_keeps group hn hg w (copy (t + 1) ∷ hand_member b i ∷ world.take i ∷ []) v in
      let c = trip w t b v et fl (omega arith) eb in
      let accepted3 : w3.group.sequencer.accepted.0 ≡ w.group.sequencer.accepted.0 = ap (λ (q : Sequencer). q.accepted.0) c.sequencer_is in
      let floor3 : w3.group.sequencer.floor.0 ≡ w.group.sequencer.floor.0 = ap (λ (q : Sequencer). q.floor.0) c.sequencer_is in
      let d = closes_one k (t + 1) (b + 1) w3 v3 c.taken_is (omega arith) (omega arith) (c.length_is ∙ ap (λ (x : ℕ). x + 1) eb) in
      record {
        accepted_is = d.accepted_is ∙ accepted3;
        taken_is = d.taken_is ∙ accepted3;
        entry_is = let z = d.entry_is in omega arith;
        entry_other = λ j x. d.entry_other j x ∙ ap (λ (q : Sequencer). taken_in q.acknowledgements j) c.sequencer_is;
        others_are = λ j x. d.others_are j x ∙ c.others_are j x;
        order_is = d.order_is ∙ c.order_is;
        length_is = let z = d.length_is in let y = c.length_is in omega arith;
      }

  -- the whole round of member m
  pub closes : (m : Member) (b : ℕ) (w : World) → WorldInv group w → get_or w.group.members i no_member ≡ m → length w.group.packets ≡ b
      → let a = (acknowledged_of m).0 in
      let k = w.group.sequencer.accepted.0 - a in
      Closed i k w (run (run w (take_row i (a - m.taken.0))) (close_member i a k b))
  closes m b w v em eb =
      let a : ℕ = (acknowledged_of m).0 in
      let t : ℕ = m.taken.0 in
      let last : ℕ = w.group.sequencer.accepted.0 in
      let et : taken_of w.group.members i ≡ t = ap (λ (x : Member). x.taken.0) em in
      let ea : acknowledged_in w.group.members i ≡ a = ap (λ (x : Member). (acknowledged_of x).0) em in
      let h : member_sound.sound_of m ≡ true = subst (λ (x : Member). member_sound.sound_of x ≡ true) em (v.terminal i hi).content.sound in
      let least = acknowledged_least m (member_sound_lem m h) in
      let most = acknowledged_most (v.terminal i hi) in
      let fl = floor_le group w i v hi in
      let c = takes_row (a - t) t w v et (omega arith) in
      let w1 : World = run w (take_row i (a - t)) in
      let v1 : WorldInv group w1 = run_keeps group hn hg w (take_row i (a - t)) v in
      let accepted1 : w1.group.sequencer.accepted.0 ≡ last = ap (λ (q : Sequencer). q.accepted.0) c.sequencer_is in
      let floor1 : w1.group.sequencer.floor.0 ≡ w.group.sequencer.floor.0 = ap (λ (q : Sequencer). q.floor.0) c.sequencer_is in
      let d = closes_one (last - a) a b w1 v1 (c.taken_is ∙ omega arith) (omega arith) (omega arith) (c.length_is ∙ omega arith) in
      record {
        accepted_is = d.accepted_is ∙ accepted1;
        taken_is = d.taken_is ∙ accepted1;
        entry_is = let z = d.entry_is in omega arith;
        entry_other = λ j x. d.entry_other j x ∙ ap (λ (q : Sequencer). taken_in q.acknowledgements j) c.sequencer_is;
        others_are = λ j x. d.others_are j x ∙ c.others_are j x;
        order_is = d.order_is ∙ c.order_is;
        length_is = let z = d.length_is in let y = c.length_is in omega arith;
      }
