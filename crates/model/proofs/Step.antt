-- Every event keeps the invariant; so does every list of events, from a fresh group on. Assumes nothing.
use Rattle.std.specs.Prelude.{Ok}
use mathlib.Core.Path.{◌≡◌, refl, sym, ap, ◌∙◌, subst, fun_ext}
use mathlib.Core.Logic.{◌≢◌}
use mathlib.Core.Bool.{Bool, true, false}
use mathlib.Core.Option.{Option, none, some}
use mathlib.Core.List.{List, [], ◌∷◌, ◌++◌, append-nil, append_assoc}
use Prim.Native.Nat.{ℕ, zero, suc, ◌+◌, ◌≤◌, ◌<◌}
use native.Mathlib.Nat.{not-suc-le-zero, le_of_suc-le-suc, zero-add}
use native.Mathlib.Omega.{arith}
use borrow.Author.Tests.{lt-ltb, ltb-true, eq-eqb, ne_eqb}
use borrow.Author.Rules.{rules}
use lib.ListN.{length, get_or, get_elem?, replicate, get_or-replicate, length-take}
use Rattle.group.proofs.Choice.{choices, tests, when_true, when_false}
use Rattle.group.proofs.Lists.{when_elim, at, all_get}
use Rattle.group.specs.Choice.{when◌then◌else◌, ◌<?◌, ◌=?◌}
use Rattle.group.specs.Limits.{members_most, largest_number, longest_packet}
use Rattle.group.proofs.Members.{in_all, Standing, fresh_standing}
use Rattle.group.specs.Opening.{description_of, open_of}
use Rattle.group.specs.Opening.{Opened}
use Rattle.group.specs.declared.Group as description
use Rattle.member.proofs.Acknowledged.{acknowledged_most}
use Rattle.member.proofs.Closing.{fresh_terminal_lem}
use Rattle.member.proofs.Invariant.{MemberGood, requested_owns}
use Rattle.member.proofs.Ordering as memberOrdering
use Rattle.member.proofs.Taking.{take_good}
use Rattle.member.specs.Calls as member
use Rattle.member.specs.Order.{took_by, accepted_by}
use Rattle.member.specs.State.{fresh_member}
use Rattle.message.proofs.Owning.{Owns}
use Rattle.message.specs.Order.{Ordered}
use Rattle.model.proofs.Invariant.{Inv, WorldInv, acknowledged_in, reach_in, voice_in}
use Rattle.model.specs.Claim.{Opens}
use Rattle.model.proofs.Keep.{keep_sequencer, keep_member}
use Rattle.model.specs.Log.{gather, numbered_in, order, took_in, accepted_in, took_at, submitted_at, taken, submitted}
use Rattle.model.specs.World.{Event, submit, repeat, status, poll, copy, hand_member, hand_sequencer, absent, by_sequencer, by_member, Group, Happened, missing, with_member, with_sequencer, no_member, at_member, take_at, hand_to_member, hand_to_sequencer, happen, World, step, run, fresh_members, fresh}
use Rattle.model.specs.World as world
use Rattle.packet.specs.Packet.{written}
use Rattle.history.proofs.Soundness.{taken_in}
use Rattle.history.specs.State.{no_acknowledgement}
use Rattle.sequencer.proofs.Histories as histories
use Rattle.sequencer.proofs.Invariant.{SequencerGood}
use Rattle.sequencer.proofs.Ordering as sequencerOrdering
use Rattle.sequencer.specs.Calls as sequencer
use Rattle.sequencer.specs.State.{fresh_sequencer}

inv_ext : (group : description.Group) (w : Group) (ord ord' : List Ordered) (tk tk' : ℕ → List Ordered) (sb sb' : ℕ → List (List ℕ))
    → ord' ≡ ord → ((j : ℕ) → tk' j ≡ tk j) → ((j : ℕ) → sb' j ≡ sb j) → Inv group w ord tk sb → Inv group w ord' tk' sb'
inv_ext group w ord ord' tk tk' sb sb' eo et es v = rw (eo, fun_ext et, fun_ext es) v

-- a choice by whether two terminals are the same
when_same : {A : Type 0} (i : ℕ) (x y : A) → (when i =? i then x else y) ≡ x
when_same i x y = sym (when_true (i =? i) x x y (eq-eqb i i refl) refl)

when_other : {A : Type 0} (i j : ℕ) (x y : A) → j ≢ i → (when i =? j then x else y) ≡ y
when_other i j x y h = sym (when_false (i =? j) y x y (ne_eqb i j (λ e. h (sym e))) refl)

when_either : {A : Type 0} (t : Bool) (x : A) → (when t then x else x) ≡ x
unfolding when◌then◌else◌
when_either true x = refl
when_either false x = refl

took_absent : (e : Event) (j : ℕ) → took_at j e absent ≡ []
unfolding took_at took_in
took_absent (submit i p) j = refl
took_absent (repeat i) j = refl
took_absent (world.take i) j = when_either (i =? j) []
took_absent (status i) j = refl
took_absent poll j = refl
took_absent (copy s) j = refl
took_absent (hand_member k i) j = refl
took_absent (hand_sequencer k) j = refl

submitted_absent : (e : Event) (j : ℕ) → submitted_at j e absent ≡ []
unfolding submitted_at accepted_in
submitted_absent (submit i p) j = when_either (i =? j) []
submitted_absent (repeat i) j = refl
submitted_absent (world.take i) j = refl
submitted_absent (status i) j = refl
submitted_absent poll j = refl
submitted_absent (copy s) j = refl
submitted_absent (hand_member k i) j = refl
submitted_absent (hand_sequencer k) j = refl

module _ (group : description.Group) (w : Group) (ord : List Ordered) (tk : ℕ → List Ordered) (sb : ℕ → List (List ℕ)) (hn : group.n ≤ members_most) (hg : group.number ≤ largest_number) (v : Inv group w ord tk sb) where
  abbrev Kept : Event → Happened → Type 0
  Kept e d = Inv group d.group (ord ++ numbered_in d.answer) (λ j. tk j ++ took_at j e d.answer) (λ j. sb j ++ submitted_at j e d.answer)

  absent_kept : (e : Event) → Kept e (missing w)
  unfolding numbered_in
  absent_kept e =
      inv_ext group w ord _ tk _ sb _ (append-nil ord) (λ j. rw (took_absent e j) (append-nil (tk j))) (λ j. rw (submitted_absent e j) (append-nil (sb j))) v

  abbrev Owes : ℕ → List Ordered → List (List ℕ) → List (List ℕ) → member.Outcome → Type 0
  Owes i tk' sb' packets o =
      MemberGood group i (taken_in w.sequencer.acknowledgements i) w.sequencer.accepted.0 ord (sb i) (get_or w.members i no_member) tk' sb' packets o

  -- an event of member i
  member_kept : (i : ℕ) (e : Event) (o : member.Outcome) (packets : List (List ℕ)) (x : List Ordered) (y : List (List ℕ)) → i < group.n
      → took_at i e (by_member o.answer o.bytes) ≡ x → submitted_at i e (by_member o.answer o.bytes) ≡ y
      → ((j : ℕ) → j ≢ i → took_at j e (by_member o.answer o.bytes) ≡ [])
      → ((j : ℕ) → j ≢ i → submitted_at j e (by_member o.answer o.bytes) ≡ [])
      → Owes i (tk i ++ x) (sb i ++ y) packets o → Kept e (with_member w i o packets)
  unfolding numbered_in
  member_kept i e o packets x y hi ex ey ot os h =
      inv_ext group _ ord _ _ _ _ _ (append-nil ord) (λ j. refl) (λ j. refl)
      (keep_member group w ord tk (λ j. tk j ++ took_at j e (by_member o.answer o.bytes)) sb (λ j. sb j ++ submitted_at j e (by_member o.answer o.bytes)) i o packets hi
      (λ j q. rw (ot j q) (append-nil (tk j))) (λ j q. rw (os j q) (append-nil (sb j))) v (rw (ex, ey) h))

  -- an event that takes nothing and submits nothing
  still_kept : (i : ℕ) (e : Event) (o : member.Outcome) (packets : List (List ℕ)) → i < group.n
      → ((j : ℕ) → took_at j e (by_member o.answer o.bytes) ≡ []) → ((j : ℕ) → submitted_at j e (by_member o.answer o.bytes) ≡ [])
      → Owes i (tk i) (sb i) packets o → Kept e (with_member w i o packets)
  still_kept i e o packets hi ot os h = member_kept i e o packets [] [] hi (ot i) (os i) (λ j q. ot j) (λ j q. os j) (rw (append-nil (tk i), append-nil (sb i)) h)

  inside : (i : ℕ) → (i <? length w.members) ≡ true → i < group.n
  inside i b = let z = ltb-true i _ b in let y = v.members in omega arith

  order_fits : length ord ≤ largest_number
  order_fits = let z = v.sequencer.top_is in let y = v.sequencer.typed.top in omega arith

  submit_kept : (i : ℕ) (p : List ℕ) → Kept (submit i p) (at_member w i (λ m. member.submit_of m p longest_packet))
  unfolding took_at submitted_at accepted_in
  submit_kept i p =
      when_elim (Kept (submit i p)) (i <? length w.members)
      (λ b. let m = get_or w.members i no_member in let o = member.submit_of m p longest_packet in
      member_kept i (submit i p) o (written o.bytes) [] (accepted_by o.answer p) (inside i b) refl (when_same i _ _) (λ j q. refl) (λ j q. when_other i j _ _ q)
      (rw (append-nil (tk i)) (memberOrdering.submit_good group i _ _ ord (tk i) (sb i) m (v.terminal i (inside i b)) p)))
      (λ b. absent_kept (submit i p))

  -- a message's count is at most the number of its originator's messages
  take_kept : (i : ℕ) → Kept (world.take i) (take_at w i)
  unfolding took_at submitted_at took_in
  take_kept i =
      when_elim (Kept (world.take i)) (i <? length w.members)
      (λ b. let m = get_or w.members i no_member in let o = member.take_of m longest_packet in
      member_kept i (world.take i) o [] (took_by o.answer o.bytes) [] (inside i b) (when_same i _ _) refl (λ j q. when_other i j _ _ q) (λ j q. refl)
      (rw (append-nil (sb i)) (take_good group i _ _ ord (tk i) (sb i) m (v.terminal i (inside i b)) v.sequencer.number_is)))
      (λ b. absent_kept (world.take i))

  repeat_kept : (i : ℕ) → Kept (repeat i) (at_member w i (λ m. member.repeat_of m longest_packet))
  unfolding took_at submitted_at
  repeat_kept i =
      when_elim (Kept (repeat i)) (i <? length w.members)
      (λ b. still_kept i (repeat i) _ _ (inside i b) (λ j. refl) (λ j. refl)
      (memberOrdering.repeat_good group i _ _ ord (tk i) (sb i) (get_or w.members i no_member) (v.terminal i (inside i b))))
      (λ b. absent_kept (repeat i))

  status_kept : (i : ℕ) → Kept (status i) (at_member w i (λ m. member.status_of m longest_packet))
  unfolding took_at submitted_at
  status_kept i =
      when_elim (Kept (status i)) (i <? length w.members)
      (λ b. still_kept i (status i) _ _ (inside i b) (λ j. refl) (λ j. refl)
      (memberOrdering.status_good group i _ _ ord (tk i) (sb i) (get_or w.members i no_member) (v.terminal i (inside i b))))
      (λ b. absent_kept (status i))

  hand_kept : (k i : ℕ) → Kept (hand_member k i) (hand_to_member w i (get_elem? w.packets k))
  unfolding took_at submitted_at
  hand_kept k i = go (get_elem? w.packets k) refl
    where
      at_i : (p : List ℕ) → get_elem? w.packets k ≡ some p → Kept (hand_member k i) (hand_to_member w i (some p))
      at_i p e =
          when_elim (Kept (hand_member k i)) (i <? length w.members)
          (λ b. still_kept i (hand_member k i) _ _ (inside i b) (λ j. refl) (λ j. refl)
          (memberOrdering.receive_good group i _ _ ord (tk i) (sb i) (get_or w.members i no_member) (v.terminal i (inside i b)) (voice_in w.members sb) p (all_get _ w.packets k v.packets e)))
          (λ b. absent_kept (hand_member k i))

      go : (x : Option (List ℕ)) → get_elem? w.packets k ≡ x → Kept (hand_member k i) (hand_to_member w i x)
      go none e = absent_kept (hand_member k i)
      go (some p) e = at_i p e

  -- an event of the sequencer
  sequencer_kept : (e : Event) (o : sequencer.Outcome)
      → ((j : ℕ) → took_at j e (by_sequencer o.answer o.bytes) ≡ []) → ((j : ℕ) → submitted_at j e (by_sequencer o.answer o.bytes) ≡ [])
      → SequencerGood group ord w.sequencer.accepted.0 (voice_in w.members sb) (written o.bytes) o → Kept e (with_sequencer w o)
  unfolding numbered_in
  sequencer_kept e o ot os h =
      inv_ext group _ _ _ tk _ sb _ refl (λ j. rw (ot j) (append-nil (tk j))) (λ j. rw (os j) (append-nil (sb j))) (keep_sequencer group w ord tk sb o v h)

  acked : (i : ℕ) → i < group.n → taken_in w.sequencer.acknowledgements i ≤ acknowledged_in w.members i
  acked i b = (v.terminal i b).seat.acknowledged_le

  rows : (i : ℕ) → i < group.n → acknowledged_in w.members i ≤ w.sequencer.accepted.0
  rows i b = acknowledged_most (v.terminal i b)

  sizes : (i : ℕ) → i < group.n → length (voice_in w.members sb i).submitted ≤ largest_number
  sizes i b = let h = (v.terminal i b).content in let z = h.typed.submitted in let y = h.submitted_is in simp length-take (omega arith)

  owns : (i : ℕ) → i < group.n → Owns i ord (voice_in w.members sb i).submitted
  owns i b = requested_owns (v.terminal i b).content

  hand_sequencer_kept : (k : ℕ) → Kept (hand_sequencer k) (hand_to_sequencer w (get_elem? w.packets k))
  unfolding took_at submitted_at
  hand_sequencer_kept k = go (get_elem? w.packets k) refl
    where
      go : (x : Option (List ℕ)) → get_elem? w.packets k ≡ x → Kept (hand_sequencer k) (hand_to_sequencer w x)
      go none e = absent_kept (hand_sequencer k)
      go (some p) e =
          sequencer_kept (hand_sequencer k) _ (λ j. refl) (λ j. refl)
          (sequencerOrdering.receive_good group ord w.sequencer v.sequencer (voice_in w.members sb) acked rows sizes owns v.confirmed p (all_get _ w.packets k v.packets e))

  pub step_keeps : (e : Event) → Kept e (happen w e)
  unfolding happen took_at submitted_at
  step_keeps (submit i p) = submit_kept i p
  step_keeps (repeat i) = repeat_kept i
  step_keeps (world.take i) = take_kept i
  step_keeps (status i) = status_kept i
  step_keeps poll =
      sequencer_kept poll _ (λ j. refl) (λ j. refl) (sequencerOrdering.poll_good group ord w.sequencer v.sequencer (voice_in w.members sb) acked rows sizes owns v.confirmed)
  step_keeps (copy number) =
      sequencer_kept (copy number) _ (λ j. refl) (λ j. refl)
      (sequencerOrdering.copy_good group ord w.sequencer v.sequencer (voice_in w.members sb) acked rows sizes owns v.confirmed (record { 0 = number }))
  step_keeps (hand_member k i) = hand_kept k i
  step_keeps (hand_sequencer k) = hand_sequencer_kept k

-- lists of events
pub gather_snoc : {A B : Type 0} (f : A → List B) (l : List A) (x : A) → gather f (l ++ (x ∷ [])) ≡ gather f l ++ f x
unfolding gather
gather_snoc f [] x = append-nil (f x)
gather_snoc f (y ∷ l) x = rw (gather_snoc f l x) (sym (append_assoc (f y) (gather f l) (f x)))

module _ (group : description.Group) (hn : group.n ≤ members_most) (hg : group.number ≤ largest_number) where
  pub next_keeps : (w : World) (e : Event) → WorldInv group w → WorldInv group (step w e)
  next_keeps w e v =
      inv_ext group _ _ _ _ _ _ _ (gather_snoc _ w.log _) (λ j. gather_snoc _ w.log _) (λ j. gather_snoc _ w.log _)
      (step_keeps group w.group (order w.log) (λ i. taken i w.log) (λ i. submitted i w.log) hn hg v e)

  pub run_keeps : (w : World) (es : List Event) → WorldInv group w → WorldInv group (run w es)
  unfolding run
  run_keeps w [] v = v
  run_keeps w (e ∷ es) v = run_keeps (step w e) es (next_keeps w e v)

-- a fresh group
module _ (n g r : ℕ) (o : Opens n g r) where
  open_group : open_of n g r ≡ Ok (description_of n g r)
  unfolding open_of
  open_group =
      let a = o.least in
      let b = o.most in
      let c = o.resilient in
      sym (search (choices, tests, rules) depth 9)

  open_sequencer : (sequencer.fresh_of n g r).sequencer ≡ fresh_sequencer (description_of n g r)
  unfolding sequencer.fresh_of sequencer.opened_of
  open_sequencer = rw open_group

  open_member_lem : (i : ℕ) → i < n → (member.fresh_of n (record { 0 = i }) g r).member ≡ fresh_member (description_of n g r) (record { 0 = i })
  unfolding member.fresh_of member.opened_of when◌then◌else◌
  open_member_lem i b = rw (lt-ltb i n b, open_group)

members_length : (n g r i k : ℕ) → length (fresh_members n g r i k) ≡ k
unfolding fresh_members
members_length n g r i zero = refl
members_length n g r i (suc k) = ap suc (members_length n g r (i + 1) k)

members_at : (n g r i k j : ℕ) → j < k → get_or (fresh_members n g r i k) j no_member ≡ (member.fresh_of n (record { 0 = i + j }) g r).member
unfolding fresh_members
members_at n g r i zero j h = absurd (not-suc-le-zero h)
members_at n g r i (suc k) zero h = let e : i ≡ i + 0 = omega arith in ap (λ (x : ℕ). (member.fresh_of n (record { 0 = x }) g r).member) e
members_at n g r i (suc k) (suc j) h =
    let e : i + 1 + j ≡ i + suc j = omega arith in
    members_at n g r (i + 1) k j (le_of_suc-le-suc h) ∙ ap (λ (x : ℕ). (member.fresh_of n (record { 0 = x }) g r).member) e

pub fresh_inv : (n g r : ℕ) → Opens n g r → WorldInv (description_of n g r) (fresh n g r)
unfolding fresh fresh_sequencer gather
fresh_inv n g r o =
    let group : description.Group = description_of n g r in
    let stand : Standing group = fresh_standing n g r o.least o.most o.resilient in
    record {
      everybody = in_all n;
      sequencer = rw (open_sequencer n g r o) (histories.fresh_inv group stand o.fits);
      confirmed = rw (open_sequencer n g r o) (histories.fresh_confirmed group stand o.fits (reach_in (fresh_members n g r 0 n)));
      members = members_length n g r 0 n;
      terminal = λ i b.
          let z : get_or (replicate members_most no_acknowledgement) i no_acknowledgement ≡ no_acknowledgement = get_or-replicate members_most i no_acknowledgement no_acknowledgement (let y = o.most in omega arith) in
          let y : get_or (fresh_members n g r 0 n) i no_member ≡ fresh_member group (record { 0 = i }) =
          members_at n g r 0 n i b ∙ ap (λ (x : ℕ). (member.fresh_of n (record { 0 = x }) g r).member) (zero-add i) ∙ open_member_lem n g r o i b in
          rw (open_sequencer n g r o, z, y) (fresh_terminal_lem group i stand (in_all n i b) o.fits);
      packets = tt;
    }
