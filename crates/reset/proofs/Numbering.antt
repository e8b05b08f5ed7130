-- The elected one's sequencer's calls, in the world: its poll and copy, and a packet of the group that it gets. Assumes nothing.
use mathlib.Core.Path.{◌≡◌, refl, sym, ap, ◌∙◌, subst}
use mathlib.Core.Logic.{◌≢◌}
use mathlib.Core.Bool.{true, false, false≢true}
use mathlib.Core.Option.{some}
use mathlib.Core.List.{List, [], ◌++◌, append-nil}
use Prim.Native.Nat.{ℕ, ◌+◌, ◌≤◌, ◌<◌}
use native.Mathlib.Nat.{le_refl}
use native.Mathlib.Omega.{arith}
use borrow.Author.Tests.{eq-eqb}
use lib.ListN.{length, take, get_elem?, length-append}
use lib.Seq.{take_all}
use Rattle.group.proofs.Choice.{when_true, both_hold}
use Rattle.group.proofs.Lists.{when_elim, judged_elim, eq_or, All, all_map, all_get}
use Rattle.group.specs.Choice.{◌and◌, ◌<?◌, ◌≤?◌}
use Rattle.group.specs.Limits.{longest_packet, largest_number}
use Rattle.group.specs.Members.{is_in}
use Rattle.group.specs.declared.Group as description
use Rattle.group.specs.declared.SequenceNumber.{SequenceNumber}
use Rattle.message.specs.Order.{Ordered}
use Rattle.member.proofs.Acknowledged.{acknowledged_reach, reach_most}
use Rattle.member.specs.State.{Member, reach_of}
use Rattle.packet.proofs.Facts.{Voice, Known}
use Rattle.packet.proofs.RoundTrip.{header_back}
use Rattle.packet.specs.Packet.{header_of, fields_of, written}
use Rattle.packet.specs.declared.Header.{Header}
use Rattle.sequencer.proofs.Invariant.{SequencerInv, facts_of}
use Rattle.sequencer.proofs.Ordering.{floor_below}
use Rattle.sequencer.proofs.Soundness as sequencerSoundness
use Rattle.sequencer.specs.Calls as sequencer
use Rattle.sequencer.specs.Order.{numbered_by}
use Rattle.sequencer.specs.State.{Sequencer}
use Rattle.recovery.proofs.Holding.{poll_leaves, copy_leaves}
use Rattle.recovery.proofs.Keeping.{sound_of_lem}
use Rattle.recovery.proofs.Ordering.{order_keeps}
use Rattle.recovery.specs.Calls as terminal
use Rattle.recovery.specs.Sound.{terminal_sound}
use Rattle.recovery.specs.State.{Terminal, serves, reply_number}
use Rattle.reset.specs.Course.{Course}
use Rattle.reset.proofs.Called.{news_covered}
use Rattle.reset.proofs.Invariant.{group_in, Low, Survivor, Open, Inv, with_order, Goes, same_goes}
use Rattle.reset.proofs.Keep.{keep, low_goes, taken_same}
use Rattle.reset.proofs.Remembering.{longer_remembers}
use Rattle.reset.proofs.Same.{order_calls}
use Rattle.reset.proofs.Seen.{Seen, voices, same_seen, poll_seen, copy_seen, order_seen, order_up}
use Rattle.reset.proofs.View.{member_of, sequencer_of, member_here, sequencer_here}
use Rattle.reset.proofs.Writing.{SequencerWrote, poll_sends_own, copy_sends_own, order_sends}

pub poll_adds : (s : Sequencer) (room : ℕ) → numbered_by (sequencer.poll_of s room).answer (sequencer.poll_of s room).bytes ≡ []
unfolding sequencer.poll_of sequencer.answered numbered_by
poll_adds s room = judged_elim (λ (x : sequencer.Outcome). numbered_by x.answer x.bytes ≡ []) (sequencer.call_verdict s room) (λ _ _. refl) (λ _. refl)

pub copy_adds : (s : Sequencer) (k : SequenceNumber) (room : ℕ) → numbered_by (sequencer.copy_of s k room).answer (sequencer.copy_of s k room).bytes ≡ []
unfolding sequencer.copy_of sequencer.answered numbered_by
copy_adds s k room =
    let P : sequencer.Outcome → Type 0 = λ x. numbered_by x.answer x.bytes ≡ [] in
    judged_elim P (sequencer.call_verdict s room) (λ _ _. refl) (λ _. when_elim P (s.floor.0 <? k.0 and k.0 ≤? s.top.0) (λ _. refl) (λ _. refl))

-- no floor of the elected one's sequencer is above a survivor's reach
pub seen_floor : (group : description.Group) (line : ℕ) (s : Sequencer) (members : ℕ → Member) (order : List Ordered) (tk : ℕ → List Ordered) (sb lost : ℕ → List (List ℕ)) (packets : List (List ℕ))
    → Seen group line s members order tk sb lost packets → (j : ℕ) → is_in group.survivors j ≡ true → s.floor.0 ≤ reach_of (members j)
seen_floor group line s members order tk sb lost packets v j e =
    let a = floor_below group order s v.sequencer j e in
    let b = (v.terminal j e).seat.acknowledged_le in
    let c = acknowledged_reach (members j) in
    omega arith

module _ (n resilience line : ℕ) (c : Course) (at : ℕ → Terminal) (packets : List (List ℕ)) (tk : ℕ → List Ordered) (sb : ℕ → List (List ℕ)) (v : Inv n resilience line c at packets tk sb)
    (b : c.elected < n) (e : (at c.elected).member.group.number ≡ c.number) where
  abbrev group : description.Group
  group = group_in n resilience c

  abbrev cut : ℕ
  cut = v.cut

  abbrev i : ℕ
  i = c.elected

  abbrev t : Terminal
  t = at i

  abbrev s : Sequencer
  s = t.sequencer

  inside : is_in c.survivors i ≡ true
  inside = v.seen.standing.elected_in

  abbrev h : Survivor n resilience c v.under cut (Low n resilience c cut at) i t
  h = (v.sits i b).survivor inside

  pub view_is : sequencer_of group cut t ≡ s
  view_is = sequencer_here group cut t e

  pub own_seen : Seen group line s (λ j. member_of group cut (at j)) c.order tk sb v.lost v.known
  own_seen = subst (λ (x : Sequencer). Seen group line x (λ j. member_of group cut (at j)) c.order tk sb v.lost v.known) view_is v.seen

  pub serves_here : serves t ≡ true
  serves_here = both_hold t.sequencing _ (h.present refl e) (eq-eqb _ _ (ap (λ (x : description.Group). x.number) own_seen.sequencer.group_is ∙ sym e))

  floor_fits : (x : Sequencer) (order : List Ordered) → SequencerInv group x order → x.floor.0 ≤ largest_number
  floor_fits x order q =
      let sound = sequencerSoundness.sound_of_lem x q.sound in
      let a = sound.floor_le in
      let d = sound.accepted_le in
      let y = q.typed.top in
      omega arith

  -- a call that only reads
  reads_next : (o : sequencer.Outcome) → o.sequencer ≡ s → numbered_by o.answer o.bytes ≡ [] → All (SequencerWrote s.group.number o.sequencer.floor.0) (written o.bytes)
      → Seen group line o.sequencer (λ j. member_of group cut (at j)) (c.order ++ numbered_by o.answer o.bytes) tk sb v.lost (v.known ++ written o.bytes)
      → Inv n resilience line c at (packets ++ written o.bytes) tk sb
  reads_next o same adds wrote seen' =
      let news = written o.bytes in
      let order_is : c.order ++ numbered_by o.answer o.bytes ≡ c.order = ap (λ (l : List Ordered). c.order ++ l) adds ∙ append-nil c.order in
      keep n resilience line c at packets tk sb v i b t at refl (λ j q. refl) c.order [] (sym (append-nil c.order)) (same_goes c i t) (λ _. le_refl _) tk sb news news
      (subst (λ (x : Sequencer). Seen group line x (λ j. member_of group cut (at j)) c.order tk sb v.lost (v.known ++ news)) (same ∙ sym view_is)
      (subst (λ (l : List Ordered). Seen group line o.sequencer (λ j. member_of group cut (at j)) l tk sb v.lost (v.known ++ news)) order_is seen'))
      (le_refl _) (v.sits i b) (λ q d. subst (λ (k : ℕ). Open c at (at k).reset) q (v.opened d)) (λ q d. subst (λ (k : ℕ). (at k).reset.inviting ≡ false) q (v.shut d))
      (all_map _ _ (λ p w x q j z.
      let f = subst (λ (y : Sequencer). y.floor.0 ≤ largest_number) (sym same) (floor_fits s c.order own_seen.sequencer) in
      let a = w.floor_at f x q in
      let g = seen_floor group line s (λ j. member_of group cut (at j)) c.order tk sb v.lost v.known own_seen j z in
      let k = ap (λ (y : Sequencer). y.floor.0) same in
      omega arith) news wrote)
      (news_covered c at v.under cut v.known news)

  pub poll_next : Inv n resilience line c at (packets ++ written (sequencer.poll_of s longest_packet).bytes) tk sb
  poll_next =
      reads_next (sequencer.poll_of s longest_packet) (poll_leaves s longest_packet) (poll_adds s longest_packet) (poll_sends_own s longest_packet)
      (poll_seen group line s (λ j. member_of group cut (at j)) c.order tk sb v.lost v.known own_seen)

  pub copy_next : (k : SequenceNumber) → Inv n resilience line c at (packets ++ written (sequencer.copy_of s k longest_packet).bytes) tk sb
  copy_next k =
      reads_next (sequencer.copy_of s k longest_packet) (copy_leaves s k longest_packet) (copy_adds s k longest_packet) (copy_sends_own s k longest_packet)
      (copy_seen group line s (λ j. member_of group cut (at j)) c.order tk sb v.lost v.known own_seen k)

  -- a packet of the group, to a sequencer that is awake
  module _ (p : List ℕ) (index : ℕ) (there : get_elem? v.known index ≡ some p) (awake : t.frozen ≡ false) where
    abbrev o : sequencer.Outcome
    o = sequencer.receive_of s p longest_packet

    abbrev voice : ℕ → Voice
    voice = voices group line (λ j. member_of group cut (at j)) sb v.lost

    known_is : Known group.number (facts_of group c.order s.accepted.0 voice) p
    known_is = all_get _ v.known index own_seen.packets_known there

    abbrev more : List Ordered
    more = numbered_by o.answer o.bytes

    abbrev t' : Terminal
    t' = terminal.with_sequencer t o.sequencer

    pub order_is : terminal.order_of t p longest_packet ≡ terminal.ordered t o
    order_is = order_calls t s p awake refl

    seen' : Seen group line o.sequencer (λ j. member_of group cut (at j)) (c.order ++ more) tk sb v.lost (v.known ++ written o.bytes)
    seen' = order_seen group line s (λ j. member_of group cut (at j)) c.order tk sb v.lost v.known own_seen p known_is

    -- it did not reply
    silent : t.reset.replied ≡ true → ⊥
    silent r = false≢true (sym awake ∙ (sound_of_lem t h.sound).freezes r serves_here)

    abbrev inv' : SequencerInv group o.sequencer (c.order ++ more)
    inv' = seen'.sequencer

    number' : o.sequencer.group.number ≡ c.number
    number' = ap (λ (x : description.Group). x.number) inv'.group_is

    fits : (header_of p).b ≤ largest_number
    fits =
        let is : header_of p ≡ fields_of group.number known_is.content = ap header_of known_is.bytes_are ∙ header_back (fields_of group.number known_is.content) known_is.payload known_is.allowed.0 in
        subst (λ (x : Header). x.b ≤ largest_number) (sym is) known_is.allowed.0.b

    sound' : terminal_sound t' ≡ true
    sound' = subst (λ (x : terminal.SequencerOutcome). terminal_sound x.terminal ≡ true) order_is (order_keeps t p longest_packet fits h.typed (h.present refl e) h.sound)

    member_same : member_of group cut t' ≡ member_of group cut t
    unfolding member_of
    member_same = refl

    module _ (at' : ℕ → Terminal) (here : at' i ≡ t') (rest : (j : ℕ) → j ≢ i → at' j ≡ at j) where
      members_same : (j : ℕ) → member_of group cut (at' j) ≡ member_of group cut (at j)
      members_same j =
          eq_or j i (λ q. subst (λ (k : ℕ). member_of group cut (at' k) ≡ member_of group cut (at k)) (sym q) (ap (member_of group cut) here ∙ member_same)) (λ q. ap (member_of group cut) (rest j q))

      goes : Goes c i t t'
      goes = record { group = λ _. refl; answers = λ _ _ r. absurd (silent r) }

      ups : is_in c.survivors i ≡ true → reach_of (member_of group cut t) ≤ reach_of (member_of group cut t')
      ups _ = subst (λ (x : Member). reach_of (member_of group cut t) ≤ reach_of x) (sym member_same) (le_refl _)

      low_up : (x : ℕ) → Low n resilience c cut at x → Low n resilience c cut at' x
      low_up = low_goes n resilience line c at packets tk sb v i b t' at' here rest (c.order ++ more) more refl goes ups

      floor_low' : Low n resilience c cut at' o.sequencer.floor.0
      floor_low' = low_up _ (seen_floor group line o.sequencer (λ j. member_of group cut (at j)) (c.order ++ more) tk sb v.lost (v.known ++ written o.bytes) seen')

      serves' : serves t' ≡ true
      serves' = both_hold t.sequencing _ (h.present refl e) (eq-eqb _ _ (number' ∙ sym e))

      reply_is : reply_number t' ≡ length (c.order ++ more)
      unfolding reply_number
      reply_is = sym (when_true (serves t') _ _ _ serves' refl) ∙ inv'.top_is

      reach_le' : reach_of t.member ≤ reply_number t'
      reach_le' =
          let x = reach_le_order in
          let y = reply_is in
          let z : length (c.order ++ more) ≡ length c.order + length more = length-append c.order more in
          omega arith
        where
          reach_le_order : reach_of t.member ≤ length c.order
          reach_le_order = subst (λ (m : Member). reach_of m ≤ length c.order) (member_here group cut t e) (reach_most (v.seen.terminal i inside).content)

      survivor' : Survivor n resilience (with_order c (c.order ++ more)) v.under cut (Low n resilience c cut at') i t'
      survivor' =
          record {
            sound = sound';
            typed = record { member = h.typed.member; sequencer = inv'.typed; past = h.typed.past; counts = h.typed.counts; replies = h.typed.replies };
            invited = h.invited;
            size = h.size;
            resilient = h.resilient;
            itself = h.itself;
            remembers = longer_remembers t.member.taken.0 t.kept c.order h.remembers more (subst (λ (k : ℕ). k ≤ length c.order) (taken_same group cut t) (v.seen.terminal i inside).content.taken_le);
            serving = λ _.
                let x : take o.sequencer.top.0 (c.order ++ more) ≡ c.order ++ more = take_all o.sequencer.top.0 (c.order ++ more) (let z = inv'.top_is in omega arith) in
                subst (λ (g : description.Group). SequencerInv g o.sequencer (take o.sequencer.top.0 (c.order ++ more))) (sym inv'.group_is) (subst (SequencerInv group o.sequencer) (sym x) inv');
            reach_le = reach_le';
            floor_low = λ _. floor_low';
            read_low = low_up _ h.read_low;
            calm = h.calm;
            under_is = λ q. absurd (q e);
            foreign = λ q. absurd (q e);
            waits = λ q. absurd (q e);
            reply_le = λ q. absurd (q e);
            awake = λ _ _. (refl, number');
            present = h.present;
            wakes = h.wakes;
            cut_is = λ _ q. absurd (q e);
          }

      pub order_next : Inv n resilience line (with_order c (c.order ++ more)) at' (packets ++ written o.bytes) tk sb
      order_next =
          let news = written o.bytes in
          let view' : sequencer_of group cut (at' i) ≡ o.sequencer = ap (sequencer_of group cut) here ∙ sequencer_here group cut t' e in
          keep n resilience line c at packets tk sb v i b t' at' here rest (c.order ++ more) more refl goes ups tk sb news news
          (subst (λ (x : Sequencer). Seen group line x (λ j. member_of group cut (at' j)) (c.order ++ more) tk sb v.lost (v.known ++ news)) (sym view')
          (same_seen group line o.sequencer (λ j. member_of group cut (at j)) (λ j. member_of group cut (at' j)) (c.order ++ more) tk tk sb sb v.lost (v.known ++ news) (λ j _. members_same j) (λ j _. refl) (λ j _. refl) seen'))
          (subst (λ (x : Sequencer). (sequencer_of group cut t).accepted.0 ≤ x.accepted.0) (sym view')
          (subst (λ (x : Sequencer). x.accepted.0 ≤ o.sequencer.accepted.0) (sym view_is) (order_up group line s (λ j. member_of group cut (at j)) c.order tk sb v.lost v.known own_seen p known_is)))
          (record {
            lost = λ q. absurd (false≢true (sym q ∙ inside));
            old = λ _ q. absurd (q number');
            only = λ _ _. (refl, e);
            survivor = λ _. survivor';
          })
          (λ q d. subst (λ (k : ℕ). Open c at (at k).reset) q (v.opened d)) (λ q d. subst (λ (k : ℕ). (at k).reset.inviting ≡ false) q (v.shut d))
          (all_map _ _ (λ p w x q j z. let a = w.floor_at (floor_fits o.sequencer (c.order ++ more) inv') x q in let g = floor_low' j z in omega arith) news wrote)
          (news_covered (with_order c (c.order ++ more)) at' v.under cut v.known news)
        where
          wrote : All (SequencerWrote s.group.number o.sequencer.floor.0) (written o.bytes)
          wrote = subst (λ (x : terminal.SequencerOutcome). All (SequencerWrote s.group.number x.terminal.sequencer.floor.0) (written x.bytes)) order_is (order_sends t p longest_packet)
