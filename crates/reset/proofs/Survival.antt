-- Survival at the first reset that makes a group: the elected terminal replied with the highest number, and if at most r members are lost one
-- who has every accepted message replied. Assumes nothing.
use mathlib.Core.Path.{◌≡◌, refl, sym, ap, ◌∙◌, subst}
use mathlib.Core.Logic.{◌≢◌}
use mathlib.Core.Bool.{Bool, true, false, false≢true}
use mathlib.Core.List.{List, [], append-nil}
use Prim.Native.Nat.{ℕ, zero, suc, ◌+◌, ◌^◌, ◌≤◌, ◌<◌}
use native.Mathlib.Nat.{le_refl, lt_of_lt_of_le}
use native.Mathlib.Omega.{arith}
use borrow.Author.Tests.{ltb-true, leb-true, eqb-true, ne_eqb}
use lib.Bits.{bit_and, mask_lt}
use lib.Count.{ones, ones-ones}
use lib.ListN.{length, get_or, get_elem?, length-take}
use lib.Pow.{pow_mono}
use lib.ListN as list
use lib.Seq.{take-take, length-take-le}
use Rattle.group.proofs.Choice.{when_true, when_false, both_first, both_then}
use Rattle.group.proofs.Counting.{one, count, count_more, one_true, ones_count}
use Rattle.group.proofs.Expected.{needed_are}
use Rattle.group.proofs.Lists.{when_elim, judged_elim}
use Rattle.group.proofs.Members.{in_all, Standing, fresh_standing, others_in}
use Rattle.group.specs.Choice.{when◌then◌else◌, ◌and◌, ◌<?◌, ◌≤?◌, ◌=?◌}
use Rattle.group.specs.Limits.{members_most, longest_packet, largest_number}
use Rattle.group.specs.Members.{is_in, all_of, others_of}
use Rattle.group.specs.Opening.{description_of}
use Rattle.group.specs.declared.Group as description
use Rattle.big_endian.proofs.Number.{number_of_bytes}
use Rattle.big_endian.specs.Number.{number_at, bytes_of}
use Rattle.message.specs.Order.{Ordered}
use Rattle.member.proofs.Acknowledged.{reach_least}
use Rattle.member.specs.State.{Member, reach_of}
use Rattle.model.proofs.Invariant.{reach_in}
use Rattle.model.specs.Claim.{Opens}
use Rattle.model.specs.World as model
use Rattle.model.specs.World.{Answer, by_member}
use Rattle.packet.proofs.RoundTrip.{header_back, payload_back}
use Rattle.packet.specs.Packet.{header_of, payload_at, fields_of, packet_of, survivors_in, survivors_size}
use Rattle.packet.specs.declared.Header.{Header}
use Rattle.packet.specs.declared.Packet.{Packet}
use Rattle.sequencer.proofs.Invariant.{reaches}
use Rattle.sequencer.proofs.Soundness as sequencer
use Rattle.sequencer.specs.State.{Sequencer}
use Rattle.recovery.proofs.Choosing.{cut_most, chosen_replied}
use Rattle.recovery.proofs.Keeping.{Sound, sound_of_lem}
use Rattle.recovery.specs.Begin.{cut_of, chosen_of}
use Rattle.recovery.specs.Calls as terminal
use Rattle.recovery.specs.State.{Reset, Terminal, serves, reply_number}
use Rattle.reset.specs.Claim.{Begins, Survived, SurvivesFirst}
use Rattle.reset.specs.Course.{Course, opened, made, is_sent, bytes_in, course_of, course_in, taken}
use Rattle.reset.specs.Closing.{sequencer_of}
use Rattle.reset.specs.World.{make, Happened, happen, terminal_at, World, step}
use Rattle.reset.proofs.Before.{serves0, reply_fits}
use Rattle.reset.proofs.Unmade.{course_snoc, Begun, unmade_begun, submitted_in}

-- three that exclude each other are at most all
count_apart : (k : ℕ) (p q r : ℕ → Bool) → ((i : ℕ) → one (p i) + one (q i) + one (r i) ≤ 1) → count k p + count k q + count k r ≤ k
unfolding count
count_apart zero p q r h = le_refl 0
count_apart (suc k) p q r h =
    let z = h 0 in
    let y = count_apart k (λ i. p (suc i)) (λ i. q (suc i)) (λ i. r (suc i)) (λ i. h (suc i)) in
    omega arith

count_first : (k : ℕ) (p : ℕ → Bool) → 0 < k → p 0 ≡ true → 1 ≤ count k p
unfolding count
count_first zero p h e = absurd (omega arith)
count_first (suc k) p h e = let z = one_true (p 0) e in omega arith

-- neither the first nor a replier
abbrev silent : ℕ → ℕ → Bool
silent mask i = when is_in mask i then false else (when i =? 0 then false else true)

apart : (mask : ℕ) → is_in mask 0 ≡ false → (i : ℕ) → one (silent mask i) + one (is_in mask i) + one (i =? 0) ≤ 1
unfolding one when◌then◌else◌
apart mask out i = go (is_in mask i) (i =? 0) refl refl
  where
    go : (a b : Bool) → is_in mask i ≡ a → (i =? 0) ≡ b → one (when a then false else (when b then false else true)) + one a + one b ≤ 1
    go false false x y = omega arith
    go false true x y = omega arith
    go true false x y = omega arith
    go true true x y = absurd (false≢true (sym out ∙ subst (λ (k : ℕ). is_in mask k ≡ true) (eqb-true i 0 y) x))

speaks : (a b : Bool) → b ≡ false → (when a then false else (when b then false else true)) ≡ false → a ≡ true
unfolding when◌then◌else◌
speaks true b x e = refl
speaks false true x e = absurd (false≢true (sym x))
speaks false false x e = absurd (false≢true (sym e))

-- where the first did not reply, one of more than those that are silent replied
some_replied : (n mask : ℕ) (p : ℕ → Bool) → 0 < n → is_in mask 0 ≡ false → ((i : ℕ) → p i ≡ true → i ≢ 0) → n ≤ count n (is_in mask) + count n p
    → (j : ℕ) × (j < n) × (p j ≡ true) × (is_in mask j ≡ true)
some_replied n mask p low out others enough =
    let all = count_apart n (silent mask) (is_in mask) (λ i. i =? 0) (apart mask out) in
    let first = count_first n (λ i. i =? 0) low refl in
    let x = count_more n p (silent mask) (omega arith) in
    (x.0, x.1, x.2, heard x.0 (others x.0 x.2) x.3)
  where
    heard : (j : ℕ) → j ≢ 0 → silent mask j ≡ false → is_in mask j ≡ true
    heard j q e = speaks (is_in mask j) (j =? 0) (ne_eqb j 0 q) e

not_serving : (a b : Bool) → a ≡ false → (a and b) ≡ false
unfolding when◌then◌else◌
not_serving true b e = absurd (false≢true (sym e))
not_serving false b e = refl

-- a making that was answered Sent
module _ (n number resilience : ℕ) (o : Opens n number resilience) (w : World) (v : Begun n number resilience w) where
  abbrev c : Course
  c = course_in n number w

  abbrev g : model.Group
  g = v.after

  abbrev group : description.Group
  group = description_of n number resilience

  abbrev at : ℕ → Terminal
  at j = terminal_at w.group j

  -- what a terminal replied with: at least what it took, and its reach or top
  reply_taken : (j : ℕ) → j < n → (get_or g.members j model.no_member).taken.0 ≤ reply_number (at j)
  unfolding reply_number
  reply_taken j b =
      let s = v.like.each j b in
      let h = (v.holds.terminal j b).content in
      let m = get_or g.members j model.no_member in
      when_elim (λ (x : ℕ). m.taken.0 ≤ x) (serves (at j))
      (λ e.
      let first : j ≡ 0 = eqb-true j 0 (sym s.sequencing_is ∙ both_first (at j).sequencing _ e) in
      let top = v.holds.sequencer.top_is in
      let is = ap (λ (x : Sequencer). x.top.0) (s.sequencer_is first) in
      let le = h.taken_le in
      omega arith)
      (λ _. let z = reach_least (at j).member in let e = ap (λ (x : Member). x.taken.0) s.member_is in omega arith)

  reply_reach : (j : ℕ) → j < n → j ≢ 0 → reply_number (at j) ≡ reach_in g.members j
  unfolding reply_number
  reply_reach j b q =
      let s = v.like.each j b in
      sym (when_false (serves (at j)) _ _ _ (not_serving (at j).sequencing _ (s.sequencing_is ∙ ne_eqb j 0 q)) refl) ∙ ap reach_of s.member_is

  reply_top : (b : 0 < n) → reply_number (at 0) ≡ g.sequencer.top.0
  unfolding reply_number
  reply_top b =
      let s = v.like.each 0 b in
      sym (when_true (serves (at 0)) _ _ _ (serves0 n number resilience o w.group g c.order (λ j. taken j w.log) (λ j. submitted_in j w.log) v.holds v.like b) refl)
      ∙ ap (λ (x : Sequencer). x.top.0) (s.sequencer_is refl)

  module _ (i : ℕ) (b : i < n) (inviting : (at i).reset.inviting ≡ true) where
    abbrev r : Reset
    r = (at i).reset

    sound : Sound (at i)
    sound = sound_of_lem (at i) (v.like.each i b).sound

    size_here : (at i).member.group.n ≡ n
    size_here = ap (λ (x : Member). x.group.n) (v.like.each i b).member_is ∙ ap (λ (x : description.Group). x.n) (v.holds.terminal i b).seat.group_is

    -- each replier's number is at most where the order ends
    replier_le : (j : ℕ) → is_in r.repliers j ≡ true → (j < n) × (reply_number (at j) ≤ cut_of r)
    replier_le j e =
        let x = v.like.recorded i j b e in
        let long = (v.like.each i b).replies in
        let most = o.most in
        let less = x.0 in
        let z = cut_most r j (omega arith) e in
        let y = x.1.1 in
        (less, omega arith)

    repliers_lt : r.repliers < 2 ^ n
    repliers_lt =
        let is : bit_and r.repliers (all_of n) ≡ r.repliers =
        ap (λ (x : ℕ). bit_and r.repliers (all_of x)) (sym size_here) ∙ sound.reset.members inviting in
        subst (λ (x : ℕ). x < 2 ^ n) is (mask_lt r.repliers n)

    one_has : n ≤ ones r.repliers + resilience → is_in r.repliers 0 ≡ false → g.sequencer.accepted.0 ≤ cut_of r
    one_has few out =
        let low : 0 < n = (let z = o.least in omega arith) in
        let stand : Standing group = fresh_standing n number resilience o.least o.most o.resilient in
        let p = reaches group (reach_in g.members) g.sequencer.accepted.0 in
        let enough = v.holds.confirmed.enough in
        let needed = needed_are n number resilience o.most o.resilient in
        let size = ones_count n r.repliers repliers_lt in
        let x = some_replied n r.repliers p low out (λ j e. (others_in group stand j (both_first (is_in (others_of group) j) _ e)).1) (omega arith) in
        let j = x.0 in
        let far = leb-true g.sequencer.accepted.0 (reach_in g.members j) (both_then (is_in (others_of group) j) _ x.2) in
        let here = replier_le j x.3 in
        let reach = reply_reach j x.1 (others_in group stand j (both_first (is_in (others_of group) j) _ x.2)).1 in
        let y = here.1 in
        omega arith

    -- if at most r are lost, all that is accepted is there
    accepted_le : n ≤ ones r.repliers + resilience → g.sequencer.accepted.0 ≤ cut_of r
    accepted_le few = go (is_in r.repliers 0) refl
      where
        low : 0 < n
        low = let z = o.least in omega arith

        go : (x : Bool) → is_in r.repliers 0 ≡ x → g.sequencer.accepted.0 ≤ cut_of r
        go true e =
            let z = replier_le 0 e in
            let top = reply_top low in
            let s = (sequencer.sound_of_lem g.sequencer v.holds.sequencer.sound).accepted_le in
            let y = z.1 in
            omega arith
        go false e = one_has few e

    -- the packet of the making
    abbrev fields : Header
    fields = fields_of (at i).member.group.number (Packet.Result (at i).member.number r.invited (chosen_of r) (record { 0 = cut_of r }))

    abbrev bytes : List ℕ
    bytes = packet_of fields (bytes_of survivors_size r.repliers)

    survivors_back : survivors_in (payload_at bytes) ≡ r.repliers
    survivors_back =
        let most = o.most in
        let less = repliers_lt in
        let wide : 2 ^ n ≤ 2 ^ members_most = pow_mono {i = n} {j = members_most} most in
        ap (λ (l : List ℕ). number_at survivors_size l 0) (payload_back fields (bytes_of survivors_size r.repliers) ∙ sym (append-nil (bytes_of survivors_size r.repliers)))
        ∙ number_of_bytes survivors_size r.repliers [] (lt_of_lt_of_le less wide)

    chosen_ok : ((chosen_of r).0 < n) × (cut_of r ≤ largest_number)
    chosen_ok =
        let number_in = sound.reset.itself inviting in
        let less = sound.member.number_lt in
        let size = size_here in
        let most = o.most in
        let x = chosen_replied r (v.like.each i b).replies (at i).member.number.0 (omega arith) number_in in
        let y = v.like.recorded i (chosen_of r).0 b x.0 in
        let inside = y.0 in
        let is = y.1.1 in
        let cut = x.1 in
        let fits = reply_fits n number resilience o w.group g c.order (λ j. taken j w.log) (λ j. submitted_in j w.log) v.holds v.like (chosen_of r).0 inside in
        (inside, omega arith)

    cut_back : (header_of bytes).c ≡ cut_of r
    unfolding fields_of
    cut_back =
        let less = sound.member.number_lt in
        let size = size_here in
        let most = o.most in
        let x = chosen_ok in
        let inside = x.0 in
        let ours : (at i).member.group.number ≡ number = ap (λ (y : Member). y.group.number) (v.like.each i b).member_is ∙ ap (λ (y : description.Group). y.number) (v.holds.terminal i b).seat.group_is in
        let opens = o.fits in
        ap (λ (h : Header). h.c)
        (header_back fields (bytes_of survivors_size r.repliers)
        (record { kind = omega arith; member = omega arith; group = omega arith; a = (v.like.each i b).invited; b = omega arith; c = x.1 }))

    -- what the making leaves of the order
    abbrev order' : List Ordered
    order' = list.take (cut_of r) c.order

    taken_begins : (j : ℕ) → is_in r.repliers j ≡ true → Begins (taken j w.log) order'
    taken_begins j e =
        let x = replier_le j e in
        let less = x.0 in
        let h = (v.holds.terminal j less).content in
        let m = get_or g.members j model.no_member in
        let a = reply_taken j less in
        let le : m.taken.0 ≤ cut_of r = (let y = x.1 in omega arith) in
        let within = h.taken_le in
        let size : length (taken j w.log) ≡ m.taken.0 = ap length h.took_is ∙ length-take-le m.taken.0 c.order h.taken_le in
        let short : m.taken.0 ≤ length order' = simp length-take (omega arith) in
        record {
          fits = omega arith;
          is = ap (λ (k : ℕ). list.take k order') size ∙ take-take m.taken.0 (cut_of r) c.order le ∙ sym h.took_is;
        }

    survived : (c' : Course) → c' ≡ made c bytes → Survived resilience w c c'
    survived c' is =
        subst (Survived resilience w c) (sym is)
        (record {
          within = λ j e. let x = replier_le j (subst (λ (s : ℕ). is_in s j ≡ true) survivors_back e) in subst (λ (s : ℕ). is_in s j ≡ true) (sym v.survivors_are) (in_all n j x.0);
          accepted_kept = λ few.
              let lost : n ≤ ones r.repliers + resilience =
              subst (λ (s : ℕ). n ≤ ones s + resilience) survivors_back (subst (λ (k : ℕ). k ≤ ones (survivors_in (payload_at bytes)) + resilience) (ap ones v.survivors_are ∙ ones-ones n) few) in
              let a = accepted_le lost in
              let s : (sequencer_of w c).accepted.0 ≡ g.sequencer.accepted.0 =
              ap (λ (e : ℕ). (at e).sequencer.accepted.0) v.elected_is ∙ ap (λ (y : Sequencer). y.accepted.0) ((v.like.each 0 (let z = o.least in omega arith)).sequencer_is refl) in
              ap (λ (k : ℕ). list.take (sequencer_of w c).accepted.0 (list.take k c.order)) cut_back ∙ take-take (sequencer_of w c).accepted.0 (cut_of r) c.order (omega arith);
          taken_begin = λ j e.
              subst (λ (k : ℕ). Begins (taken j w.log) (list.take k c.order)) (sym cut_back) (taken_begins j (subst (λ (s : ℕ). is_in s j ≡ true) survivors_back e));
        })

  -- what was sent
  record Makes (i : ℕ) (sent : List ℕ) : Type 0 where
    inside : i < n
    inviting : (at i).reset.inviting ≡ true
    sent_is : sent ≡ packet_of (fields_of (at i).member.group.number (Packet.Result (at i).member.number (at i).reset.invited (chosen_of (at i).reset) (record { 0 = cut_of (at i).reset }))) (bytes_of survivors_size (at i).reset.repliers)

  makes : (i demand : ℕ) → is_sent (happen w.group (make i demand)).answer ≡ true → Makes i (bytes_in (happen w.group (make i demand)).answer)
  unfolding happen is_sent bytes_in terminal.make_of terminal.refused
  makes i demand =
      let t = at i in
      when_elim (λ (d : Happened). is_sent d.answer ≡ true → Makes i (bytes_in d.answer)) (i <? length w.group.terminals)
      (λ b.
      let less : i < n = (let z = ltb-true i (length w.group.terminals) b in let l = v.like.size in omega arith) in
      let P : terminal.Outcome → Type 0 = λ x. is_sent (by_member x.answer x.bytes) ≡ true → Makes i x.bytes in
      judged_elim P (terminal.whole_verdict t longest_packet) (λ _ _ e. absurd (false≢true e))
      (λ _. when_elim P t.reset.inviting (λ h. when_elim P (demand ≤? ones t.reset.repliers) (λ _ _. record { inside = less; inviting = h; sent_is = refl }) (λ _ e. absurd (false≢true e))) (λ _ e. absurd (false≢true e))))
      (λ _ e. absurd (false≢true e))

pub survives_first : SurvivesFirst
unfolding course_of
survives_first n number resilience o w u i demand sent =
    let v = unmade_begun n number resilience o w u in
    let x = makes n number resilience o w v i demand sent in
    let a = (happen w.group (make i demand)).answer in
    let c : Course = course_in n number w in
    survived n number resilience o w v i x.inside x.inviting (course_in n number (step w (make i demand)))
    (course_snoc (opened n number) w.log (record { event = make i demand; answer = a })
    ∙ sym (when_true (is_sent a) (made c (bytes_in a)) _ _ sent refl)
    ∙ ap (λ (p : List ℕ). made c p) x.sent_is)
