-- The closing round over all survivors. Assumes nothing.
use mathlib.Core.Path.{◌≡◌, refl, sym, ap, ◌∙◌, subst}
use mathlib.Core.Logic.{◌≢◌}
use mathlib.Core.Bool.{Bool, true, false, false≢true}
use mathlib.Core.Option.{some}
use mathlib.Core.List.{List, [], ◌∷◌, ◌++◌}
use Prim.Native.Nat.{ℕ, zero, suc, ◌+◌, ◌-◌, ◌≤◌, ◌<◌}
use native.Mathlib.Omega.{arith}
use lib.ListN.{length, get_or, get_elem?}
use Rattle.group.proofs.Choice.{when_true, when_false}
use Rattle.group.proofs.Lists.{eq_or, get_last, at_some}
use Rattle.group.specs.Choice.{when◌then◌else◌}
use Rattle.group.specs.Limits.{longest_packet}
use Rattle.group.specs.Members.{is_in}
use Rattle.group.specs.declared.Group as description
use Rattle.group.specs.declared.MemberNumber.{MemberNumber}
use Rattle.group.specs.declared.SequenceNumber.{SequenceNumber}
use Rattle.history.proofs.Soundness.{taken_in}
use Rattle.message.specs.Order.{Ordered}
use Rattle.member.proofs.Acknowledged.{acknowledged_least, acknowledged_accepted, acknowledged_holds, acknowledged_most}
use Rattle.member.proofs.Closing.{status_ok}
use Rattle.member.proofs.Soundness.{sound_of_lem as member_sound_lem}
use Rattle.member.specs.Calls as member
use Rattle.member.specs.State.{Member, acknowledged_of}
use Rattle.model.proofs.Round.{length_snoc}
use Rattle.packet.specs.Laws.{Allowed}
use Rattle.packet.specs.Packet.{fields_of, packet_of}
use Rattle.packet.specs.declared.Packet.{Packet}
use Rattle.sequencer.proofs.Histories.{broadcast_may}
use Rattle.sequencer.proofs.Ordering.{copy_ok}
use Rattle.sequencer.proofs.Ordering as sequencerOrdering
use Rattle.sequencer.proofs.Packets.{announced_accepted}
use Rattle.sequencer.proofs.Soundness.{sound_of_lem}
use Rattle.sequencer.specs.Calls as sequencer
use Rattle.sequencer.specs.Note.{note_of}
use Rattle.sequencer.specs.State.{Sequencer}
use Rattle.sequencer.specs.declared.Answer as sequencerAnswer
use Rattle.recovery.specs.State.{Terminal}
use Rattle.reset.specs.Closing.{take_row, close_member, close_from}
use Rattle.reset.specs.Course.{Course}
use Rattle.reset.specs.World.{Event, take, status, copy, hand_member, hand_sequencer, no_terminal, terminal_at, World, step, run}
use Rattle.reset.proofs.Invariant.{group_in}
use Rattle.reset.proofs.Round.{Here, inside_lt, sequencer_inv, terminal_inv, floor_low, take_effect, take_here, copy_effect, copy_here, hand_effect, hand_here, status_effect, status_here, note_effect, note_here}

run_append : (w : World) (a b : List Event) → run w (a ++ b) ≡ run (run w a) b
unfolding run
run_append w [] b = refl
run_append w (e ∷ a) b = run_append (step w e) a b

module _ (n number resilience line : ℕ) (c : Course) (settled : c.attempt ≡ c.number) where
  abbrev group : description.Group
  group = group_in n resilience c

  abbrev sq : World → Sequencer
  sq w = (terminal_at w.group c.elected).sequencer

  abbrev mem : World → ℕ → Member
  mem w j = (terminal_at w.group j).member

  abbrev H : World → Type 0
  H w = Here n number resilience line c settled w

  -- terminal i took numbers, up to t', and p packets were written
  record Trip (i t' p : ℕ) (w w' : World) : Type 0 where
    here : H w'
    sequencer_is : sq w' ≡ sq w
    taken_is : (mem w' i).taken.0 ≡ t'
    others_are : (j : ℕ) → j ≢ i → mem w' j ≡ mem w j
    length_is : length w'.group.packets ≡ length w.group.packets + p

  -- the terminal took all that is accepted, and the sequencer knows it
  record Closed (i k : ℕ) (w w' : World) : Type 0 where
    here : H w'
    accepted_is : (sq w').accepted.0 ≡ (sq w).accepted.0
    taken_is : (mem w' i).taken.0 ≡ (sq w).accepted.0
    entry_is : (sq w).accepted.0 ≤ taken_in (sq w').acknowledgements i
    entry_other : (j : ℕ) → j ≢ i → taken_in (sq w').acknowledgements j ≡ taken_in (sq w).acknowledgements j
    others_are : (j : ℕ) → j ≢ i → mem w' j ≡ mem w j
    length_is : length w'.group.packets ≡ length w.group.packets + k + 1

  module _ (i : ℕ) (inside : is_in c.survivors i ≡ true) where
    -- the row is taken
    takes_row : (k t : ℕ) (w : World) → H w → (mem w i).taken.0 ≡ t → t + k ≤ (acknowledged_of (mem w i)).0 → Trip i (t + k) 0 w (run w (take_row i k))
    unfolding run take_row
    takes_row zero t w v et le = record { here = v; sequencer_is = refl; taken_is = et ∙ omega arith; others_are = λ j x. refl; length_is = omega arith }
    takes_row (suc k) t w v et le =
        let m : Member = mem w i in
        let e = take_effect n number resilience line c settled w v i inside (acknowledged_holds m (m.taken.0 + 1) (omega arith) (omega arith)) (let z = acknowledged_accepted m in omega arith) in
        let w1 : World = step w (take i) in
        let et1 : (mem w1 i).taken.0 ≡ t + 1 = e.moves.taken_is ∙ ap (λ (x : ℕ). x + 1) et in
        let d = takes_row k (t + 1) w1 (take_here n number resilience line c settled w i v) et1 (let z = e.acknowledged_is in omega arith) in
        record {
          here = d.here;
          sequencer_is = d.sequencer_is ∙ e.moves.sequencer_is;
          taken_is = d.taken_is ∙ omega arith;
          others_are = λ j x. d.others_are j x ∙ e.moves.others_are j x;
          length_is = d.length_is ∙ ap (λ (l : List (List ℕ)). length l + 0) e.packets_are;
        }

    -- a number is copied, handed over and taken
    trip : (w : World) (t b : ℕ) → H w → (mem w i).taken.0 ≡ t → (sq w).floor.0 ≤ t → t < (sq w).accepted.0 → length w.group.packets ≡ b
        → Trip i (t + 1) 1 w (step (step (step w (copy c.elected (t + 1))) (hand_member b i)) (take i))
    trip w t b v et fl lt eb =
        let q : Sequencer = sq w in
        let s = sequencer_inv n number resilience line c settled w v in
        let top = s.top_is in
        let high = (sound_of_lem q s.sound).accepted_le in
        let y = at_some c.order (t + 1) (omega arith) (omega arith) in
        let x : Ordered = y.0 in
        let above : q.floor.0 < t + 1 = omega arith in
        let originator : MemberNumber = record { 0 = x.originator } in
        let sent : SequenceNumber = record { 0 = t + 1 } in
        let content : Packet = Packet.Broadcast originator sent x.count q.floor in
        let said : sequencer.announced q.accepted originator sent x.count q.floor ≡ content = announced_accepted q.accepted originator sent x.count q.floor (omega arith) in
        let bytes : List ℕ = packet_of (fields_of c.number content) x.payload in
        let k = copy_effect n number resilience line c settled w v (t + 1) content c.number x.payload
        (subst (λ (p : Packet). sequencer.copy_of q (record { 0 = t + 1 }) longest_packet ≡ record { sequencer = q; answer = sequencerAnswer.Answer.Sent; bytes = packet_of (fields_of c.number p) x.payload }) said
        (copy_ok group c.order q s (t + 1) x y.1 above)) in
        let w1 : World = step w (copy c.elected (t + 1)) in
        let v1 : H w1 = copy_here n number resilience line c settled w (t + 1) v in
        let et1 : (mem w1 i).taken.0 ≡ t = ap (λ (u : Terminal). u.member.taken.0) (k.same_at i) ∙ et in
        let at_b : get_elem? w1.group.packets b ≡ some bytes = rw (k.packets_are, ← eb) (get_last w.group.packets bytes) in
        let allowed : Allowed (fields_of c.number content) x.payload = subst (λ (p : Packet). Allowed (fields_of c.number p) x.payload) said (broadcast_may group c.order q s (t + 1) x y.1 above) in
        let d = hand_effect n number resilience line c settled w1 v1 i inside originator sent x.count q.floor x.payload allowed b at_b (s.originator_ok (t + 1) x y.1) (omega arith) in
        let w2 : World = step w1 (hand_member b i) in
        let v2 : H w2 = hand_here n number resilience line c settled w1 v1 i inside originator sent x.count q.floor x.payload allowed b at_b in
        let e = take_effect n number resilience line c settled w2 v2 i inside d.held d.ready in
        record {
          here = take_here n number resilience line c settled w2 i v2;
          sequencer_is = e.moves.sequencer_is ∙ d.moves.sequencer_is ∙ ap (λ (u : Terminal). u.sequencer) (k.same_at c.elected);
          taken_is = e.moves.taken_is ∙ ap (λ (z : ℕ). z + 1) (d.moves.taken_is ∙ et1);
          others_are = λ j z. e.moves.others_are j z ∙ d.moves.others_are j z ∙ ap (λ (u : Terminal). u.member) (k.same_at j);
          length_is = ap length (e.packets_are ∙ d.packets_are ∙ k.packets_are) ∙ length_snoc w.group.packets bytes;
        }

    ends : (w : World) (b : ℕ) → H w → (mem w i).taken.0 ≡ (sq w).accepted.0 → length w.group.packets ≡ b → Closed i 0 w (step (step w (status i)) (hand_sequencer b c.elected))
    ends w b v et eb =
        let m : Member = mem w i in
        let h = terminal_inv n number resilience line c settled w v i inside in
        let k = status_effect n number resilience line c settled w v i inside in
        let w1 : World = step w (status i) in
        let v1 : H w1 = status_here n number resilience line c settled w i v in
        let s1 = sequencer_inv n number resilience line c settled w1 v1 in
        let q1 : Sequencer = sq w1 in
        let same : q1 ≡ sq w = ap (λ (u : Terminal). u.sequencer) (k.same_at c.elected) in
        let accepted1 : q1.accepted.0 ≡ (sq w).accepted.0 = ap (λ (q : Sequencer). q.accepted.0) same in
        let at_b : get_elem? w1.group.packets b ≡ some (member.status_packet m) = rw (k.packets_are, ← eb) (get_last w.group.packets (member.status_packet m)) in
        let number_is = h.seat.number_is in
        let least = acknowledged_least m (member_sound_lem m h.content.sound) in
        let most = acknowledged_most h in
        let sent = status_ok group i _ _ _ _ _ m h in
        let noted : sequencer.receive_of q1 (member.status_packet m) longest_packet ≡ sequencer.answered (note_of q1 m.number (acknowledged_of m)) sequencerAnswer.Answer.Noted =
        rw sent.0 (sequencerOrdering.status_ok group c.order q1 s1 m.number (acknowledged_of m) sent.1 (rw number_is inside) (omega arith)) in
        let less : m.number.0 < n = (let z = inside_lt n number resilience line c settled w v i inside in omega arith) in
        let d = note_effect n number resilience line c settled w1 v1 m.number (acknowledged_of m) b (member.status_packet m) at_b noted less in
        record {
          here = note_here n number resilience line c settled w1 v1 m.number (acknowledged_of m) b (member.status_packet m) at_b noted less;
          accepted_is = d.accepted_is ∙ accepted1;
          taken_is = ap (λ (x : Member). x.taken.0) (d.members_are i) ∙ ap (λ (u : Terminal). u.member.taken.0) (k.same_at i) ∙ et;
          entry_is =
              subst (λ (x : ℕ). (sq w).accepted.0 ≤ taken_in (sq (step w1 (hand_sequencer b c.elected))).acknowledgements x) number_is (let z = d.entry_is in omega arith);
          entry_other = λ j x. d.entry_other j (λ z. x (z ∙ number_is)) ∙ ap (λ (q : Sequencer). taken_in q.acknowledgements j) same;
          others_are = λ j x. d.members_are j ∙ ap (λ (u : Terminal). u.member) (k.same_at j);
          length_is =
              let z : length (w.group.packets ++ (member.status_packet m ∷ [])) ≡ length w.group.packets + 0 + 1 = length_snoc w.group.packets (member.status_packet m) ∙ (omega arith) in
              ap length (d.packets_are ∙ k.packets_are) ∙ z;
        }

    closes_one : (k t b : ℕ) (w : World) → H w → (mem w i).taken.0 ≡ t → (sq w).floor.0 ≤ t → t + k ≡ (sq w).accepted.0 → length w.group.packets ≡ b → Closed i k w (run w (close_member c.elected i t k b))
    unfolding run close_member
    closes_one zero t b w v et fl ek eb = ends w b v (omega arith) eb
    closes_one (suc k) t b w v et fl ek eb =
        let w3 : World = step (step (step w (copy c.elected (t + 1))) (hand_member b i)) (take i) in
        let x = trip w t b v et fl (omega arith) eb in
        let accepted3 : (sq w3).accepted.0 ≡ (sq w).accepted.0 = ap (λ (q : Sequencer). q.accepted.0) x.sequencer_is in
        let floor3 : (sq w3).floor.0 ≡ (sq w).floor.0 = ap (λ (q : Sequencer). q.floor.0) x.sequencer_is in
        let d = closes_one k (t + 1) (b + 1) w3 x.here x.taken_is (omega arith) (omega arith) (x.length_is ∙ ap (λ (y : ℕ). y + 1) eb) in
        record {
          here = d.here;
          accepted_is = d.accepted_is ∙ accepted3;
          taken_is = d.taken_is ∙ accepted3;
          entry_is = let z = d.entry_is in omega arith;
          entry_other = λ j y. d.entry_other j y ∙ ap (λ (q : Sequencer). taken_in q.acknowledgements j) x.sequencer_is;
          others_are = λ j y. d.others_are j y ∙ x.others_are j y;
          length_is = let z = d.length_is in let y = x.length_is in omega arith;
        }

    -- the whole round of a survivor, whose member is m
    closes : (m : Member) (b : ℕ) (w : World) → H w → mem w i ≡ m → length w.group.packets ≡ b
        → let a = (acknowledged_of m).0 in
        let k = (sq w).accepted.0 - a in
        Closed i k w (run (run w (take_row i (a - m.taken.0))) (close_member c.elected i a k b))
    closes m b w v em eb =
        let a : ℕ = (acknowledged_of m).0 in
        let t : ℕ = m.taken.0 in
        let last : ℕ = (sq w).accepted.0 in
        let et : (mem w i).taken.0 ≡ t = ap (λ (x : Member). x.taken.0) em in
        let ea : (acknowledged_of (mem w i)).0 ≡ a = ap (λ (x : Member). (acknowledged_of x).0) em in
        let h = terminal_inv n number resilience line c settled w v i inside in
        let least = acknowledged_least (mem w i) (member_sound_lem (mem w i) h.content.sound) in
        let most = acknowledged_most h in
        let fl = floor_low n number resilience line c settled w v i inside in
        let x = takes_row (a - t) t w v et (omega arith) in
        let w1 : World = run w (take_row i (a - t)) in
        let accepted1 : (sq w1).accepted.0 ≡ last = ap (λ (q : Sequencer). q.accepted.0) x.sequencer_is in
        let floor1 : (sq w1).floor.0 ≡ (sq w).floor.0 = ap (λ (q : Sequencer). q.floor.0) x.sequencer_is in
        let d = closes_one (last - a) a b w1 x.here (x.taken_is ∙ omega arith) (omega arith) (omega arith) (x.length_is ∙ omega arith) in
        record {
          here = d.here;
          accepted_is = d.accepted_is ∙ accepted1;
          taken_is = d.taken_is ∙ accepted1;
          entry_is = let z = d.entry_is in omega arith;
          entry_other = λ j y. d.entry_other j y ∙ ap (λ (q : Sequencer). taken_in q.acknowledgements j) x.sequencer_is;
          others_are = λ j y. d.others_are j y ∙ x.others_are j y;
          length_is = let z = d.length_is in let y = x.length_is in omega arith;
        }

  -- terminal j took all up to a number, and the sequencer knows it
  abbrev Has : World → ℕ → ℕ → Type 0
  Has w last j = ((mem w j).taken.0 ≡ last) × (last ≤ taken_in (sq w).acknowledgements j)

  pub record Closes (w w' : World) : Type 0 where
    pub here : H w'
    pub accepted_is : (sq w').accepted.0 ≡ (sq w).accepted.0
    pub each : (j : ℕ) → is_in c.survivors j ≡ true → Has w' (sq w).accepted.0 j

  closes_from : (ts : List Terminal) (i b : ℕ) (w : World) → H w → length w.group.packets ≡ b → ((k : ℕ) → k < length ts → mem w (i + k) ≡ (get_or ts k no_terminal).member)
      → ((j : ℕ) → is_in c.survivors j ≡ true → j < i + length ts) → ((j : ℕ) → is_in c.survivors j ≡ true → j < i → Has w (sq w).accepted.0 j)
      → Closes w (run w (close_from c.survivors c.elected ts i (sq w).accepted.0 b))
  unfolding close_from run
  closes_from [] i b w v eb hm hi ha = record { here = v; accepted_is = refl; each = λ j x. ha j x (let z = hi j x in omega arith) }
  closes_from (t ∷ ts) i b w v eb hm hi ha = go (λ b' w'. closes_from ts (i + 1) b' w') (is_in c.survivors i) refl
    where
      m : Member
      m = t.member

      next_has : (w1 : World) → ((j : ℕ) → j ≢ i → mem w1 j ≡ mem w j) → (k : ℕ) → k < length ts → mem w1 (i + 1 + k) ≡ (get_or ts k no_terminal).member
      next_has w1 others k x =
          let e : i + 1 + k ≡ i + suc k = omega arith in
          others (i + 1 + k) (λ z. omega arith) ∙ ap (λ (j : ℕ). mem w j) e ∙ hm (suc k) (omega arith)

      go : ((b' : ℕ) (w' : World) → H w' → length w'.group.packets ≡ b' → ((k : ℕ) → k < length ts → mem w' (i + 1 + k) ≡ (get_or ts k no_terminal).member)
          → ((j : ℕ) → is_in c.survivors j ≡ true → j < i + 1 + length ts) → ((j : ℕ) → is_in c.survivors j ≡ true → j < i + 1 → Has w' (sq w').accepted.0 j)
          → Closes w' (run w' (close_from c.survivors c.elected ts (i + 1) (sq w').accepted.0 b')))
          → (x : Bool) → is_in c.survivors i ≡ x
          → Closes w
          (run w
          (when x
          then take_row i ((acknowledged_of t.member).0 - t.member.taken.0)
          ++ close_member c.elected i (acknowledged_of t.member).0 ((sq w).accepted.0 - (acknowledged_of t.member).0) b
          ++ close_from c.survivors c.elected ts (i + 1) (sq w).accepted.0 (b + ((sq w).accepted.0 - (acknowledged_of t.member).0) + 1)
          else close_from c.survivors c.elected ts (i + 1) (sq w).accepted.0 b))
      go again true inside =
          let last : ℕ = (sq w).accepted.0 in
          let a : ℕ = (acknowledged_of t.member).0 in
          let em : mem w i ≡ t.member = subst (λ (k : ℕ). mem w k ≡ t.member) (omega arith) (hm 0 (omega arith)) in
          let row : List Event = take_row i (a - t.member.taken.0) in
          let es : List Event = close_member c.elected i a (last - a) b in
          let w1 : World = run (run w row) es in
          let x = closes i inside t.member b w v em eb in
          let accepted1 : (sq w1).accepted.0 ≡ last = x.accepted_is in
          let rest : List Event = close_from c.survivors c.elected ts (i + 1) last (b + (last - a) + 1) in
          let d = again (b + (last - a) + 1) w1 x.here (x.length_is ∙ (omega arith)) (next_has w1 x.others_are) (λ j y. let z = hi j y in omega arith)
          (λ j y l.
          eq_or j i
          (λ e. subst (λ (k : ℕ). Has w1 (sq w1).accepted.0 k) (sym e) (subst (λ (k : ℕ). Has w1 k i) (sym accepted1) (x.taken_is, x.entry_is)))
          (λ e. let z = ha j y (omega arith) in subst (λ (k : ℕ). Has w1 k j) (sym accepted1) (ap (λ (u : Member). u.taken.0) (x.others_are j e) ∙ z.0, subst (λ (k : ℕ). last ≤ k) (sym (x.entry_other j e)) z.1))) in
          let d' : Closes w1 (run w1 rest) = subst (λ (k : ℕ). Closes w1 (run w1 (close_from c.survivors c.elected ts (i + 1) k (b + (last - a) + 1)))) accepted1 d in
          let all : List Event = row ++ es ++ rest in
          subst (λ (l : List Event). Closes w (run w l)) (when_true true all all (close_from c.survivors c.elected ts (i + 1) last b) refl refl)
          (subst (Closes w) (sym (run_append w (row ++ es) rest ∙ ap (λ (y : World). run y rest) (run_append w row es)))
          (record { here = d'.here; accepted_is = d'.accepted_is ∙ accepted1; each = λ j y. subst (λ (k : ℕ). Has (run w1 rest) k j) accepted1 (d'.each j y) }))
      go again false out =
          let last : ℕ = (sq w).accepted.0 in
          let rest : List Event = close_from c.survivors c.elected ts (i + 1) last b in
          let d = again b w v eb (next_has w (λ j q. refl)) (λ j y. let z = hi j y in omega arith)
          (λ j y l. eq_or j i (λ e. absurd (false≢true (sym out ∙ subst (λ (k : ℕ). is_in c.survivors k ≡ true) e y))) (λ e. ha j y (omega arith))) in
          subst (λ (l : List Event). Closes w (run w l)) (when_false false rest _ rest refl refl) d

  -- the closing round
  pub closes_all : (w : World) → H w → Closes w (run w (close_from c.survivors c.elected w.group.terminals 0 (sq w).accepted.0 (length w.group.packets)))
  closes_all w v =
      closes_from w.group.terminals 0 (length w.group.packets) w v refl (λ k l. let z : 0 + k ≡ k = omega arith in ap (λ (j : ℕ). mem w j) z)
      (λ j e. let z = inside_lt n number resilience line c settled w v j e in let l = v.led.size in omega arith) (λ j e l. absurd (omega arith))
