-- A take of a terminal's member owes the group what demand 3's invariant asks: what is handed out is the order's next message.
-- Assumes nothing.
use mathlib.Core.Path.{◌≡◌, refl, sym, ap, ◌∙◌, subst}
use mathlib.Core.Bool.{Bool, true, false}
use mathlib.Core.Option.{some}
use mathlib.Core.List.{List, [], ◌∷◌, ◌++◌, append-nil}
use Prim.Native.Nat.{ℕ, ◌+◌, ◌-◌, ◌≤◌, ◌<◌}
use native.Mathlib.Nat.{le_refl, le_trans}
use lib.ListN.{length, take, set}
use native.Mathlib.Numerals.{add-one}
use native.Mathlib.Omega.{arith}
use borrow.Author.Tests.{ltb-true, leb-true, le-leb, eq-eqb}
use Rattle.group.specs.Choice.{when◌then◌else◌}
use Rattle.group.specs.Limits.{longest_packet}
use Rattle.group.proofs.Choice.{both_hold, both_first, both_then}
use Rattle.group.proofs.Lists.{when_elim, judged_elim, at, at_le, take_at_suc}
use Rattle.group.specs.declared.Group.{Group}
use Rattle.message.specs.Message.{Message, message_of, empty_message, payload_of}
use Rattle.message.specs.Order.{Ordered, own_of}
use Rattle.message.proofs.Kept.{kept_payload}
use Rattle.message.proofs.Owning.{own_grows, own_more, own_other, own_most, own_count}
use Rattle.packet.proofs.Facts.{ordered}
use Rattle.member.specs.Calls.{Outcome, answered, call_verdict, is_own, with_taken, is_ready, took_of, take_of}
use Rattle.member.specs.Order.{took_by}
use Rattle.member.specs.State.{Member, first_count}
use Rattle.window.specs.Places.{message_at, is_held, queue_place, queued_at}
use Rattle.member.specs.declared.Answer.{Answer}
use Rattle.member.proofs.Invariant.{Content, Terminal, MemberGood}
use Rattle.member.proofs.Ordering.{louder}
use Rattle.member.proofs.Acknowledged.{Up, up_row, up_took}
use Rattle.window.proofs.Keeping.{empty_none, queue_one, queued_each}
use Rattle.member.proofs.Keeping.{own_first, taken_typed, taken_sound}
use Rattle.window.proofs.Missing.{place_near, held_each}
use Rattle.member.proofs.Soundness.{sound_of_lem, of_sound}

module _ (group : Group) (i acknowledged accepted : ℕ) (order took : List Ordered) (submitted : List (List ℕ)) (m : Member) (h : Terminal group i acknowledged accepted m order took submitted) where
  abbrev GoodTake : Outcome → Type 0
  GoodTake o = MemberGood group i acknowledged accepted order submitted m (took ++ took_by o.answer o.bytes) submitted [] o

  -- the message held under number t + 1
  abbrev next : Message
  next = message_at m.held (m.taken.0 + 1)

  module _ (numbered : (k : ℕ) (x : Ordered) → at order k ≡ some x → x.number ≡ k) where
    module _ (holds : 1 ≤ next.count) (ready : m.taken.0 + 1 ≤ m.accepted.0) where
      -- the order's message of number t + 1
      this : (y : Ordered) × (at order (m.taken.0 + 1) ≡ some y) × (next ≡ message_of (record { 0 = y.originator }) y.count y.payload)
      this = h.content.held_is (m.taken.0 + 1) (omega arith) (omega arith) holds

      -- it is what is handed out
      handed : ordered (m.taken.0 + 1) next.originator.0 next.count (payload_of next) ≡ this.0
      unfolding message_of
      handed =
          let y = this.0 in
          let e = this.2 in
          let a : m.taken.0 + 1 ≡ y.number = sym (numbered (m.taken.0 + 1) y this.1) in
          let b : next.originator.0 ≡ y.originator = ap (λ (z : Message). z.originator.0) e in
          let c : next.count ≡ y.count = ap (λ (z : Message). z.count) e in
          let d : payload_of next ≡ y.payload = ap payload_of e ∙ kept_payload (record { 0 = y.originator }) y.count y.payload in
          λ j. record { number = a j; originator = b j; count = c j; payload = d j }

      -- where it is the terminal's, it is the first that waits
      own_waits : this.0.originator ≡ i → is_own m next ≡ true
      unfolding is_own message_of
      own_waits e =
          let y = this.0 in
          let t : ℕ = m.taken.0 in
          let c = subst (λ (k : ℕ). (y.count ≡ length (own_of k (take t order)) + 1) × (length (own_of k (take t order)) + 1 ≤ length (own_of k order))) e
          (own_count order submitted t y (rw add-one at this.1) (rw e h.content.own_is)) in
          let q : length (own_of i (take t order)) ≡ m.submitted - m.waiting = sym (ap (λ (l : List Ordered). length (own_of i l)) h.content.took_is) ∙ h.content.own_taken in
          let most = own_most i order submitted h.content.own_is in
          let size = h.content.submitted_is in
          let a : next.originator.0 ≡ m.number.0 = ap (λ (z : Message). z.originator.0) this.2 ∙ e ∙ sym h.seat.number_is in
          let b : next.count ≡ y.count = ap (λ (z : Message). z.count) this.2 in
          let some-wait : 1 ≤ m.waiting = omega arith in
          both_hold _ _ (le-leb 1 m.waiting some-wait) (both_hold _ _ (eq-eqb _ _ a) (eq-eqb next.count (first_count m) (omega arith)))

      -- its own messages taken are the submissions but for those that wait
      taken_own : (own : Bool) → is_own m next ≡ own → length (own_of i (took ++ (this.0 ∷ []))) ≡ m.submitted - (when own then m.waiting - 1 else m.waiting)
      unfolding when◌then◌else◌ message_of
      taken_own true e =
          let f = own_first m next e in
          let y = this.0 in
          let o : y.originator ≡ i = sym (ap (λ (z : Message). z.originator.0) this.2) ∙ f.1 ∙ h.seat.number_is in
          let z = subst (λ (k : ℕ). length (own_of k (took ++ (y ∷ []))) ≡ length (own_of k took) + 1) o (own_more took y) in
          let q = h.content.own_taken in
          let enough = (sound_of_lem m h.content.sound).waiting.enough in
          omega arith
      taken_own false e =
          ap length (own_other i took this.0 (λ o. let t = own_waits o in let z : ◌≡◌ {A = ℕ} 0 1 = cc in omega arith)) ∙ h.content.own_taken

      still_waits : (own : Bool) → is_own m next ≡ own → (c : ℕ) → m.submitted - (when own then m.waiting - 1 else m.waiting) < c → c ≤ m.submitted
          → (payload : List ℕ) × (at submitted c ≡ some payload) × (queued_at (when own then set m.queue (queue_place (first_count m)) empty_message else m.queue) c ≡ message_of (record { 0 = i }) c payload)
      unfolding when◌then◌else◌
      still_waits true e c lo hi =
          let some-wait = (own_first m next e).0 in
          let w = (sound_of_lem m h.content.sound).waiting in
          let enough = w.enough in
          let most = w.most in
          queued_each m.queue h.content.typed.queue (first_count m) empty_message
          (λ (x : Message). (payload : List ℕ) × (at submitted c ≡ some payload) × (x ≡ message_of (record { 0 = i }) c payload)) c
          (λ q. absurd (let z = queue_one (m.submitted - m.waiting) (first_count m) c (omega arith) (omega arith) (omega arith) (omega arith) q in omega arith))
          (λ q. h.content.waiting_is c (omega arith) hi)
      still_waits false e c lo hi = h.content.waiting_is c lo hi

      -- what is numbered of its own stays below the first that waits
      counts : (own : Bool) → length (own_of i order) ≤ m.submitted - (when own then m.waiting - 1 else m.waiting) + 1
      unfolding when◌then◌else◌
      counts true = let z = h.content.count_le in omega arith
      counts false = h.content.count_le

      abbrev took' : List Ordered
      took' = took ++ (ordered (m.taken.0 + 1) next.originator.0 next.count (payload_of next) ∷ [])

      taken_content : Content i (with_taken m next) order took' submitted
      unfolding with_taken
      taken_content =
          let s = sound_of_lem m h.content.sound in
          let f = s.places.holds (m.taken.0 + 1) (omega arith) (omega arith) holds in
          record {
            typed = taken_typed m h.content.typed next (let z = f.number_le in omega arith);
            sound = of_sound _ (taken_sound m h.content.typed next s ready);
            taken_le = at_le order (m.taken.0 + 1) this.1;
            took_is =
                rw (handed, add-one) (ap (λ (l : List Ordered). l ++ (this.0 ∷ [])) h.content.took_is ∙ sym (take_at_suc order m.taken.0 (rw add-one at this.1)));
            held_is = λ k a b.
                held_each m.held h.content.typed.held (m.taken.0 + 1) empty_message
                (λ (z : Message). 1 ≤ z.count → (y : Ordered) × (at order k ≡ some y) × (z ≡ message_of (record { 0 = y.originator }) y.count y.payload)) k
                (λ e c. absurd (empty_none c))
                (λ e. h.content.held_is k (omega arith) (place_near m.taken.0 k a b e));
            submitted_is = h.content.submitted_is;
            count_le = counts (is_own m next);
            own_taken = rw handed (taken_own (is_own m next) refl);
            waiting_is = still_waits (is_own m next) refl;
            own_is = h.content.own_is;
            payload_ok = h.content.payload_ok;
          }

      up : Up m (with_taken m next)
      up = up_took m next h.content.typed (sound_of_lem m h.content.sound) holds

      taken_terminal : Terminal group i acknowledged accepted (with_taken m next) order took' submitted
      unfolding with_taken
      taken_terminal =
          record {
            content = taken_content;
            seat =
                record {
                  group_is = h.seat.group_is;
                  number_is = h.seat.number_is;
                  acknowledged_le = le_trans h.seat.acknowledged_le (up_row m (with_taken m next) up);
                  accepted_le = h.seat.accepted_le;
                  plain = λ q k a b.
                      held_each m.held h.content.typed.held (m.taken.0 + 1) empty_message (λ (z : Message). 1 ≤ z.count → k ≤ m.accepted.0) k
                      (λ e c. absurd (empty_none c))
                      (λ e. h.seat.plain q k (omega arith) (place_near m.taken.0 k a b e));
                };
          }

      takes_good : GoodTake (took_of m next)
      unfolding took_of took_by with_taken
      takes_good =
          record {
            terminal = taken_terminal;
            louder = louder group i acknowledged accepted order took submitted m (with_taken m next) took' submitted up h.content taken_content (own_grows i took _) (λ c payload e. e);
            known = tt;
          }

    take_none : (answer : Answer) → took_by answer [] ≡ [] → GoodTake (answered m answer)
    unfolding answered
    take_none answer e =
        record { terminal = rw (e, append-nil) h; louder = record { row = le_refl _; reach = le_refl _; submitted = λ c payload z. z }; known = tt }

    pub take_good : GoodTake (take_of m longest_packet)
    unfolding take_of is_ready took_by
    take_good =
        judged_elim GoodTake (call_verdict m longest_packet) (λ r _. take_none (Answer.Refused r) refl)
        (λ _. when_elim GoodTake (is_ready m (m.taken.0 + 1))
        (λ e. takes_good (ltb-true 0 next.count (both_first (is_held m.held (m.taken.0 + 1)) _ e))
        (leb-true (m.taken.0 + 1) m.accepted.0 (both_then (is_held m.held (m.taken.0 + 1)) _ e)))
        (λ _. take_none Answer.None refl))
