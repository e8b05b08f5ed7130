-- A message is taken only when it is accepted, and what is accepted is in the reach of r members other than 0, by the invariant; and with
-- r = 0 all is accepted. Assumes nothing.
use mathlib.Core.Path.{◌≡◌, refl, sym, ap, ◌∙◌, subst}
use mathlib.Core.Logic.{◌≢◌}
use mathlib.Core.Bool.{Bool, true, false}
use mathlib.Core.Option.{some}
use mathlib.Core.List.{List, [], ◌∷◌}
use Prim.Native.Nat.{ℕ, zero, suc, ◌+◌, ◌-◌, ◌≤◌, ◌<◌}
use native.Mathlib.Nat.{le_refl, le_trans, le_antisymm}
use native.Mathlib.Omega.{arith}
use borrow.Author.Tests.{le-leb, lt-leb, leb-true, lt-ltb, ltb-true, ltb-false}
use lib.ListN.{length, get_or, drop, get_elem?}
use lib.Seq.{length-take-le}
use Rattle.group.proofs.Choice.{when_false, both_hold, both_first, both_then}
use Rattle.group.proofs.Counting.{one, count, count_mono, one_false}
use Rattle.group.proofs.Lists.{when_elim, le_or, at, at_some, at_take, All, all_get}
use Rattle.group.proofs.Expected.{needed_are}
use Rattle.group.proofs.Members.{Standing, fresh_standing, others_in}
use Rattle.group.specs.Choice.{when◌then◌else◌, ◌and◌, ◌<?◌, ◌≤?◌}
use Rattle.group.specs.Limits.{held_most}
use Rattle.group.specs.Members.{is_in, others_of, needed_of}
use Rattle.group.specs.Opening.{description_of}
use Rattle.group.specs.declared.Group as description
use Rattle.member.proofs.Acknowledged.{reach_least, reach_near, reach_holds, acknowledged_reach, acknowledged_both}
use Rattle.member.proofs.Invariant.{Seat, Terminal}
use Rattle.member.proofs.Soundness as member
use Rattle.member.specs.Calls.{is_ready}
use Rattle.member.specs.State.{Member, reach_of, acknowledged_of}
use Rattle.message.specs.Order.{Ordered}
use Rattle.model.proofs.Invariant.{WorldInv, facts_in, reach_in}
use Rattle.model.proofs.Step.{run_keeps, fresh_inv}
use Rattle.model.specs.Claim.{Opens}
use Rattle.model.specs.Log.{order, taken, submitted}
use Rattle.model.specs.Resilient.{has, having, Resilient, HasIt, HaveTheMessage, is_offering, Plain, WithoutOffers}
use Rattle.model.proofs.Plain.{answers_plain}
use Rattle.model.proofs.Whole.{ordered_of}
use Rattle.model.specs.World.{Event, Entry, World, no_member, run, fresh}
use Rattle.packet.proofs.Facts.{Facts, Says, Known}
use Rattle.packet.proofs.RoundTrip.{header_back}
use Rattle.packet.specs.Packet.{poll_kind, header_of, fields_of}
use Rattle.packet.specs.declared.Packet.{Packet}
use Rattle.packet.specs.declared.Packet.TheVariants.{Request, Broadcast, Gap, Status, Poll, Offer, Confirm, Accept, Invitation, Result}
use Rattle.sequencer.proofs.Invariant.{reaches}
use Rattle.window.specs.Places.{message_at, is_held}

-- what a member reaches, it has
reached_has : (m : Member) (s : ℕ) → s ≤ reach_of m → has m s ≡ true
unfolding has
reached_has m s h =
    when_elim (λ (b : Bool). b ≡ true) (s ≤? m.taken.0) (λ t. refl)
    (λ t.
    let near = reach_near m in
    let above : m.taken.0 < s = le_or s m.taken.0 (λ k. absurd (let z : true ≡ false = sym (le-leb s m.taken.0 k) ∙ t in let y : ◌≡◌ {A = ℕ} 0 1 = cc in omega arith)) (λ k. k) in
    both_hold _ _ (le-leb s (m.taken.0 + held_most) (omega arith)) (lt-ltb 0 (message_at m.held s).count (reach_holds m s above h)))

-- how many have it, counted
one_of : (b : Bool) → (when b then 1 else 0) ≡ one b
unfolding when◌then◌else◌ one
one_of true = refl
one_of false = refl

having_count : (l : List Member) (s : ℕ) → having l s ≡ count (length l) (λ i. has (get_or l i no_member) s)
unfolding having count
having_count [] s = refl
having_count (m ∷ l) s = let y = one_of (has m s) in let z = having_count l s in omega arith

module _ (group : description.Group) (standing : Standing group) (first-elected : group.elected.0 ≡ 0) where
  -- of the members other than the elected
  others_having : (l : List Member) (s : ℕ) → length l ≡ group.n → count group.n (λ i. is_in (others_of group) i and has (get_or l i no_member) s) ≤ having (drop 1 l) s
  unfolding count
  others_having [] s e = absurd (let z = standing.n_least in omega arith)
  others_having (m ∷ l) s e =
      subst (λ (n : ℕ). count n (λ i. is_in (others_of group) i and has (get_or (m ∷ l) i no_member) s) ≤ having l s) e
      (let first = one_false (is_in (others_of group) 0 and has m s) (λ t. (others_in group standing 0 (both_first (is_in (others_of group) 0) _ t)).1 (sym first-elected)) in
      let rest = count_mono (length l) (λ i. is_in (others_of group) (suc i) and has (get_or l i no_member) s) (λ i. has (get_or l i no_member) s)
      (λ i b t. both_then (is_in (others_of group) (suc i)) _ t) in
      let z = having_count l s in
      omega arith)

  resilient_in : (w : World) → WorldInv group w → (i s : ℕ) → i < group.n → s ≤ length (taken i w.log) → needed_of group ≤ having (drop 1 w.group.members) s
  resilient_in w v i s b most =
      let h = v.terminal i b in
      let m : Member = get_or w.group.members i no_member in
      let a : ℕ = w.group.sequencer.accepted.0 in
      let size : length (taken i w.log) ≡ m.taken.0 = ap length h.content.took_is ∙ length-take-le m.taken.0 (order w.log) h.content.taken_le in
      let up = (member.sound_of_lem m h.content.sound).taken_le in
      let below = h.seat.accepted_le in
      let inside : s ≤ a = omega arith in
      let more = count_mono group.n (reaches group (reach_in w.group.members) a) (λ j. is_in (others_of group) j and has (get_or w.group.members j no_member) s)
      (λ j c t. both_hold _ _ (both_first (is_in (others_of group) j) _ t)
      (reached_has (get_or w.group.members j no_member) s (le_trans inside (leb-true a (reach_in w.group.members j) (both_then (is_in (others_of group) j) _ t))))) in
      let all = others_having w.group.members s v.members in
      let enough = v.confirmed.enough in
      omega arith

reached : (n number resilience : ℕ) → Opens n number resilience → (events : List Event) → WorldInv (description_of n number resilience) (run (fresh n number resilience) events)
reached n number resilience o events =
    run_keeps (description_of n number resilience) o.most o.fits (fresh n number resilience) events (fresh_inv n number resilience o)

pub resilient : Resilient
resilient n number resilience o events i s b least most =
    let group : description.Group = description_of n number resilience in
    let stand : Standing group = fresh_standing n number resilience o.least o.most o.resilient in
    rw (needed_are n number resilience o.most o.resilient) at
    (resilient_in group stand refl (run (fresh n number resilience) events) (reached n number resilience o events) i s b most)

-- what a member has is the order's
number_of : {A : Type 0} (l : List A) (s : ℕ) {x : A} → 1 ≤ s → at l s ≡ some x → get_elem? l (s - 1) ≡ some x
number_of l zero h e = absurd (omega arith)
number_of l (suc s) h e = let z : suc s - 1 ≡ s = omega arith in rw z e

has_it : (group : description.Group) (w : World) → WorldInv group w → (i s : ℕ) → i < group.n → 1 ≤ s → has (get_or w.group.members i no_member) s ≡ true
    → HasIt (order w.log) (taken i w.log) (get_or w.group.members i no_member) s
unfolding has
has_it group w v i s b least e =
    let m : Member = get_or w.group.members i no_member in
    let h = (v.terminal i b).content in
    let ord : List Ordered = order w.log in
    let near = s ≤? m.taken.0 + held_most in
    le_or s m.taken.0
    (λ low.
    let y = at_some ord s least (let z = h.taken_le in omega arith) in
    record {
      message = y.0;
      ordered = number_of ord s least y.1;
      taken = λ z. number_of (taken i w.log) s least (rw h.took_is (at_take m.taken.0 ord s low y.1));
      held = λ z. absurd (omega arith);
    })
    (λ high.
    let both : (near and is_held m.held s) ≡ true = when_false (s ≤? m.taken.0) _ true _ (lt-leb s m.taken.0 high) refl ∙ e in
    let y = h.held_is s high (leb-true s (m.taken.0 + held_most) (both_first near _ both)) (ltb-true 0 (message_at m.held s).count (both_then near _ both)) in
    record {
      message = y.0;
      ordered = number_of ord s least y.1;
      taken = λ z. absurd (omega arith);
      held = λ z. ordered_of (message_at m.held) s y.0 y.2 (v.sequencer.number_is s y.0 y.1);
    })

pub have_the_message : HaveTheMessage
have_the_message n number resilience o events =
    has_it (description_of n number resilience) (run (fresh n number resilience) events) (reached n number resilience o events)

-- with r = 0
module _ (group : description.Group) (none : needed_of group ≡ 0) (w : World) (v : WorldInv group w) where
  plain_kind : (content : Packet) (payload : List ℕ) → Says (facts_in group w.group (order w.log) (λ i. submitted i w.log)) content payload → (fields_of group.number content).kind ≤ poll_kind
  unfolding fields_of
  plain_kind (Request sender taken count) payload so = omega arith
  plain_kind (Broadcast originator number count floor) payload so = omega arith
  plain_kind (Gap sender taken first last) payload so = omega arith
  plain_kind (Status sender taken) payload so = omega arith
  plain_kind (Poll elected top floor) payload so = omega arith
  plain_kind (Offer originator number count floor) payload so = let z = so.1 in absurd (omega arith)
  plain_kind (Confirm sender number) payload so = let z = so.1 in absurd (omega arith)
  plain_kind (Accept elected number) payload so = let z = so.1 in absurd (omega arith)
  plain_kind (Invitation sender attempt) payload so = absurd so
  plain_kind (Packet.Reply sender attempt number) payload so = absurd so
  plain_kind (Result sender attempt elected number) payload so = absurd so

  plain_packet : (p : List ℕ) → Known group.number (facts_in group w.group (order w.log) (λ i. submitted i w.log)) p → (header_of p).kind ≤ poll_kind
  plain_packet p k =
      rw (k.bytes_are, header_back (fields_of group.number k.content) k.payload k.allowed.0) (plain_kind k.content k.payload k.says)

  -- all that a member reaches is accepted
  plain_reach : (i : ℕ) → i < group.n → reach_in w.group.members i ≤ (get_or w.group.members i no_member).accepted.0
  plain_reach i b =
      let m : Member = get_or w.group.members i no_member in
      let h = v.terminal i b in
      le_or (reach_of m) m.taken.0
      (λ z. let y = (member.sound_of_lem m h.content.sound).taken_le in omega arith)
      (λ z. h.seat.plain none (reach_of m) z (reach_near m) (reach_holds m (reach_of m) z (le_refl _)))

  plain_ready : (i k : ℕ) → i < group.n → let m : Member = get_or w.group.members i no_member in
      m.taken.0 < k → k ≤ m.taken.0 + held_most → is_ready m k ≡ is_held m.held k
  unfolding is_ready when◌then◌else◌
  plain_ready i k b lo hi =
      let m : Member = get_or w.group.members i no_member in
      go m (is_held m.held k) refl ((v.terminal i b).seat.plain none k lo hi)
    where
      go : (m : Member) (t : Bool) → is_held m.held k ≡ t → (1 ≤ (message_at m.held k).count → k ≤ m.accepted.0) → (t and k ≤? m.accepted.0) ≡ t
      go m true e f = le-leb k m.accepted.0 (f (ltb-true 0 (message_at m.held k).count e))
      go m false e f = refl

  plain : All (λ (entry : Entry). is_offering entry.answer ≡ false) w.log → Plain group.n w
  plain said =
      record {
        accepted = (let e = v.sequencer.plain none in λ i. record { 0 = e i });
        packets = λ k p e. plain_packet p (all_get _ w.group.packets k v.packets e);
        answers = λ k entry e. all_get (λ (entry : Entry). is_offering entry.answer ≡ false) w.log k said e;
        rows = λ i b.
            let m : Member = get_or w.group.members i no_member in
            le_antisymm (acknowledged_reach m) (acknowledged_both m (reach_of m) (le_refl _) (plain_reach i b));
        ready = plain_ready;
      }

fresh_said : (n number : ℕ) → Opens n number 0 → (events : List Event) → All (λ (entry : Entry). is_offering entry.answer ≡ false) (run (fresh n number 0) events).log
unfolding fresh
fresh_said n number o events = answers_plain (description_of n number 0) (needed_are n number 0 o.most o.resilient) o.most o.fits (fresh n number 0) events (fresh_inv n number 0 o) tt

pub without_offers : WithoutOffers
without_offers n number o events =
    plain (description_of n number 0) (needed_are n number 0 o.most o.resilient) (run (fresh n number 0) events) (reached n number 0 o events)
    (fresh_said n number o events)
