-- A result: the group made last is the same as its survivors are in it. Assumes nothing.
use mathlib.Core.Path.{◌≡◌, refl, sym, ap, ◌∙◌, subst}
use mathlib.Core.Logic.{◌≢◌}
use mathlib.Core.Bool.{Bool, true, false, false≢true}
use mathlib.Core.List.{List, [], ◌++◌, append-nil}
use Prim.Native.Nat.{ℕ, ◌≤◌, ◌<◌}
use native.Mathlib.Nat.{le_refl}
use native.Mathlib.Omega.{arith}
use borrow.Author.Tests.{eqb-true, eqb-false, eq-eqb}
use lib.ListN.{length, take, length-replicate}
use lib.Seq.{take_all}
use Rattle.group.proofs.Choice.{when_true, when_false, both_hold, both_first, both_then}
use Rattle.group.proofs.Lists.{when_elim, eq_or}
use Rattle.group.specs.Choice.{◌=?◌}
use Rattle.group.specs.Limits.{places_most, members_most, largest_number}
use Rattle.group.specs.Members.{is_in}
use Rattle.group.specs.declared.Group as description
use Rattle.group.specs.declared.MemberNumber.{MemberNumber}
use Rattle.group.specs.declared.SequenceNumber.{SequenceNumber}
use Rattle.message.specs.Order.{Ordered}
use Rattle.member.proofs.Acknowledged.{reach_most}
use Rattle.member.proofs.Invariant.{Content}
use Rattle.member.specs.State.{Member, reach_of}
use Rattle.sequencer.proofs.Invariant.{SequencerInv}
use Rattle.sequencer.specs.Laws as sequencerLaws
use Rattle.sequencer.specs.State.{Sequencer}
use Rattle.recovery.proofs.Keeping.{sound_of_lem}
use Rattle.recovery.specs.Begin.{made_group, member_in, elected_sequencer, result_of}
use Rattle.recovery.specs.Sound.{terminal_sound}
use Rattle.recovery.specs.State.{Kept, Reset, Terminal, no_reset, serves, reply_number}
use Rattle.reset.specs.Course.{Course}
use Rattle.reset.proofs.Invariant.{Foreign, group_in, Low, Survivor, Sits, GoodResult, Inv, Goes}
use Rattle.reset.proofs.Keep.{keep, low_goes}
use Rattle.reset.proofs.Numbering.{seen_floor}
use Rattle.reset.proofs.Remembering.{Remembers}
use Rattle.reset.proofs.Seen.{Seen, same_seen}
use Rattle.reset.proofs.View.{member_of, sequencer_of, member_here, member_there, sequencer_here, sequencer_there}

-- at the elected one its sequencer begins; another's stays
pub data Begun (elected i : ℕ) (view : Sequencer) (t t' : Terminal) : Type 0 where
  begins : i ≡ elected → t'.sequencing ≡ true → t'.frozen ≡ false → t'.sequencer ≡ view → Begun elected i view t t'
  stays : i ≢ elected → t'.sequencing ≡ t.sequencing → t'.frozen ≡ t.frozen → t'.sequencer ≡ t.sequencer → Begun elected i view t t'

-- what a result leaves at the elected one, and at another
module _ (t : Terminal) (attempt : ℕ) (elected : MemberNumber) (number : SequenceNumber) (survivors : ℕ) where
  abbrev left : Terminal
  left = result_of t attempt elected number survivors

  pub left_begun : Begun elected.0 t.member.number.0 (elected_sequencer t (made_group t.member.group attempt elected survivors) number.0) t left
  unfolding result_of
  left_begun = go (elected.0 =? t.member.number.0) refl
    where
      go : (x : Bool) → (elected.0 =? t.member.number.0) ≡ x → Begun elected.0 t.member.number.0 (elected_sequencer t (made_group t.member.group attempt elected survivors) number.0) t left
      go true e =
          begins (sym (eqb-true elected.0 t.member.number.0 e)) (sym (when_true (elected.0 =? t.member.number.0) _ _ _ e refl)) (sym (when_true (elected.0 =? t.member.number.0) _ _ _ e refl))
          (sym (when_true (elected.0 =? t.member.number.0) _ _ _ e refl))
      go false e =
          stays (λ q. eqb-false elected.0 t.member.number.0 e (sym q)) (sym (when_false (elected.0 =? t.member.number.0) _ _ _ e refl)) (sym (when_false (elected.0 =? t.member.number.0) _ _ _ e refl))
          (sym (when_false (elected.0 =? t.member.number.0) _ _ _ e refl))

  pub left_member : left.member ≡ member_in t.member (made_group t.member.group attempt elected survivors) number.0
  unfolding result_of
  left_member = refl

  pub left_kept : left.kept ≡ t.kept
  unfolding result_of
  left_kept = refl

  pub left_reset : left.reset ≡ no_reset
  unfolding result_of
  left_reset = refl

-- a terminal with the result
module _ (n resilience : ℕ) (c : Course) (under cut : ℕ) (low : ℕ → Type 0) (i : ℕ) (t t' : Terminal) (inside : is_in c.survivors i ≡ true) (member_is : t'.member ≡ member_in t.member (group_in n resilience c) cut)
    (kept_is : t'.kept ≡ t.kept) (reset_is : t'.reset ≡ no_reset) (view : Sequencer) (inv : SequencerInv (group_in n resilience c) view c.order) (which : Begun c.elected i view t t') (itself : t.member.number.0 ≡ i)
    (sound' : terminal_sound t' ≡ true) (took : List Ordered) (submitted : List (List ℕ)) (content : Content i t'.member c.order took submitted) (past : length t.kept.past ≡ places_most) (counts : length t.kept.counts ≡ members_most)
    (typed : sequencerLaws.Typed t.sequencer) (remembers : Remembers t.member.taken.0 t.kept c.order) (read_low : low t.kept.read.0) (floor_low : low view.floor.0)
    (old : t.sequencing ≡ true → Foreign c t.sequencer.group.number) (frozen : t.sequencing ≡ true → t.frozen ≡ true) where
  number_is : t'.member.group.number ≡ c.number
  number_is = ap (λ (m : Member). m.group.number) member_is

  view_number : view.group.number ≡ c.number
  view_number = ap (λ (x : description.Group). x.number) inv.group_is

  typed_which : Begun c.elected i view t t' → sequencerLaws.Typed t'.sequencer
  typed_which (begins q a f s) = subst sequencerLaws.Typed (sym s) inv.typed
  typed_which (stays q a f s) = subst sequencerLaws.Typed (sym s) typed

  -- it serves exactly if it is elected
  served : Begun c.elected i view t t' → serves t' ≡ true → (i ≡ c.elected) × (t'.sequencer ≡ view)
  served (begins q a f s) e = (q, s)
  served (stays q a f s) e =
      let x = both_first t'.sequencing _ e in
      let y : t'.sequencer.group.number ≡ t'.member.group.number = eqb-true _ _ (both_then t'.sequencing _ e) in
      absurd ((old (sym a ∙ x)).unlike (ap (λ (z : Sequencer). z.group.number) (sym s) ∙ y ∙ number_is))

  whole : SequencerInv view.group view (take view.top.0 c.order)
  whole =
      let x : take view.top.0 c.order ≡ c.order = take_all view.top.0 c.order (let z = inv.top_is in omega arith) in
      subst (λ (g : description.Group). SequencerInv g view (take view.top.0 c.order)) (sym inv.group_is) (subst (SequencerInv (group_in n resilience c) view) (sym x) inv)

  reach_le : reach_of t'.member ≤ reply_number t'
  unfolding reply_number
  reach_le =
      when_elim (λ (x : ℕ). reach_of t'.member ≤ x) (serves t')
      (λ e. let s = (served which e).1 in let k = ap (λ (x : Sequencer). x.top.0) s in let top = inv.top_is in let r = reach_most content in omega arith) (λ _. le_refl _)

  sequencing_which : Begun c.elected i view t t' → i ≡ c.elected → (t'.sequencing ≡ true) × (t'.frozen ≡ false)
  sequencing_which (begins q a f s) e = (a, f)
  sequencing_which (stays q a f s) e = absurd (q e)

  awake_which : Begun c.elected i view t t' → t'.sequencing ≡ true → t'.frozen ≡ false → (i ≡ c.elected) × (t'.sequencer.group.number ≡ c.number)
  awake_which (begins q a f s) x y = (q, ap (λ (z : Sequencer). z.group.number) s ∙ view_number)
  awake_which (stays q a f s) x y = absurd (false≢true (sym y ∙ f ∙ frozen (sym a ∙ x)))

  old_which : Begun c.elected i view t t' → t'.sequencing ≡ true → t'.sequencer.group.number ≢ c.number → Foreign c t'.sequencer.group.number
  old_which (begins q a f s) x y = absurd (y (ap (λ (z : Sequencer). z.group.number) s ∙ view_number))
  old_which (stays q a f s) x y = subst (λ (z : Sequencer). Foreign c z.group.number) (sym s) (old (sym a ∙ x))

  only_which : Begun c.elected i view t t' → t'.sequencing ≡ true → t'.sequencer.group.number ≡ c.number → (i ≡ c.elected) × (t'.member.group.number ≡ c.number)
  only_which (begins q a f s) x y = (q, number_is)
  only_which (stays q a f s) x y = absurd ((old (sym a ∙ x)).unlike (ap (λ (z : Sequencer). z.group.number) (sym s) ∙ y))

  pub resulted_sits : Sits n resilience c under cut low i t'
  resulted_sits =
      record {
        lost = λ e. absurd (false≢true (sym e ∙ inside));
        old = old_which which;
        only = only_which which;
        survivor = λ _.
            record {
              sound = sound';
              typed =
                  record {
                    member = content.typed;
                    sequencer = typed_which which;
                    past = ap (λ (k : Kept). length k.past) kept_is ∙ past;
                    counts = ap (λ (k : Kept). length k.counts) kept_is ∙ counts;
                    replies = ap (λ (r : Reset). length r.replies) reset_is ∙ length-replicate {A = ℕ} members_most 0;
                  };
              invited = subst (λ (r : Reset). r.invited ≤ largest_number) (sym reset_is) (omega arith);
              size = ap (λ (m : Member). m.group.n) member_is;
              resilient = ap (λ (m : Member). m.group.resilience) member_is;
              itself = ap (λ (m : Member). m.number.0) member_is ∙ itself;
              remembers = subst (λ (m : Member). Remembers m.taken.0 t'.kept c.order) (sym member_is) (subst (λ (k : Kept). Remembers t.member.taken.0 k c.order) (sym kept_is) remembers);
              serving = λ e. subst (λ (s : Sequencer). SequencerInv s.group s (take s.top.0 c.order)) (sym (served which e).1) whole;
              reach_le = reach_le;
              floor_low = λ e. subst (λ (s : Sequencer). low s.floor.0) (sym (served which e).1) floor_low;
              read_low = subst (λ (k : Kept). low k.read.0) (sym kept_is) read_low;
              calm = λ _ _. ap (λ (r : Reset). r.replied) reset_is;
              under_is = λ q. absurd (q number_is);
              foreign = λ q. absurd (q number_is);
              waits = λ q. absurd (q number_is);
              reply_le = λ q. absurd (q number_is);
              awake = awake_which which;
              present = λ e _. (sequencing_which which e).0;
              wakes = λ e _ _. (sequencing_which which e).1;
              cut_is = λ _ q. absurd (q number_is);
            };
      }

-- with a reply open, a survivor's sequencer is frozen
pub replied_frozen : (n resilience : ℕ) (c : Course) (under cut : ℕ) (low : ℕ → Type 0) (i : ℕ) (t : Terminal) → Sits n resilience c under cut low i t → is_in c.survivors i ≡ true → t.reset.replied ≡ true → t.sequencing ≡ true
    → t.frozen ≡ true
replied_frozen n resilience c under cut low i t s inside replied sequencing = go t.frozen refl
  where
    go : (x : Bool) → t.frozen ≡ x → x ≡ true
    go true e = refl
    go false e =
        let h = s.survivor inside in
        let y = (h.awake sequencing e).1 in
        let z = (s.only sequencing y).1 in
        sym e ∙ (sound_of_lem t h.sound).freezes replied (both_hold t.sequencing _ sequencing (eq-eqb _ _ (y ∙ sym z)))

module _ (n resilience line : ℕ) (c : Course) (at : ℕ → Terminal) (packets : List (List ℕ)) (tk : ℕ → List Ordered) (sb : ℕ → List (List ℕ)) (v : Inv n resilience line c at packets tk sb)
    (i : ℕ) (b : i < n) (inside : is_in c.survivors i ≡ true) where
  abbrev group : description.Group
  group = group_in n resilience c

  abbrev t : Terminal
  t = at i

  abbrev h : Survivor n resilience c v.under v.cut (Low n resilience c v.cut at) i t
  h = (v.sits i b).survivor inside

  module _ (number attempt : ℕ) (elected : MemberNumber) (last : SequenceNumber) (survivors : ℕ) (good : GoodResult c v.under v.cut number attempt elected.0 last.0 survivors) (a-is : attempt ≡ c.attempt)
      (ours-is : number ≡ t.member.group.number) (at' : ℕ → Terminal) (here : at' i ≡ result_of t attempt elected last survivors) (rest : (j : ℕ) → j ≢ i → at' j ≡ at j)
      (sound' : terminal_sound (result_of t attempt elected last survivors) ≡ true) where
    abbrev t' : Terminal
    t' = result_of t attempt elected last survivors

    settled : c.attempt ≡ c.number
    settled = good.made a-is

    away : t.member.group.number ≢ c.number
    away q = good.unlike a-is (ours-is ∙ q)

    made_is : made_group t.member.group attempt elected survivors ≡ group
    made_is =
        let a = h.size in
        let d = h.resilient in
        let s = good.survivors_are a-is in
        let q = good.elected_is a-is in
        let k = a-is ∙ settled in
        λ j. record { n = a j; resilience = d j; survivors = s j; elected = record { 0 = q j }; number = k j }

    cut_is : last.0 ≡ v.cut
    cut_is = good.cut_is a-is

    member_is : t'.member ≡ member_in t.member group v.cut
    member_is = left_member t attempt elected last survivors ∙ ap (λ (g : description.Group). member_in t.member g last.0) made_is ∙ ap (member_in t.member group) cut_is

    number_here : t'.member.group.number ≡ c.number
    number_here = ap (λ (m : Member). m.group.number) member_is

    -- nothing of the view changes
    member_same : member_of group v.cut t' ≡ member_of group v.cut t
    member_same = member_here group v.cut t' number_here ∙ member_is ∙ sym (member_there group v.cut t away)

    begun_is : elected_sequencer t (made_group t.member.group attempt elected survivors) last.0 ≡ elected_sequencer t group v.cut
    begun_is = ap (λ (g : description.Group). elected_sequencer t g last.0) made_is ∙ ap (elected_sequencer t group) cut_is

    which : Begun c.elected i (sequencer_of group v.cut (at c.elected)) t t'
    which = go (left_begun t attempt elected last survivors)
      where
        view_of : i ≡ c.elected → elected_sequencer t (made_group t.member.group attempt elected survivors) last.0 ≡ sequencer_of group v.cut (at c.elected)
        view_of q = begun_is ∙ sym (sequencer_there group v.cut t away) ∙ ap (λ (k : ℕ). sequencer_of group v.cut (at k)) q

        go : Begun elected.0 t.member.number.0 (elected_sequencer t (made_group t.member.group attempt elected survivors) last.0) t t' → Begun c.elected i (sequencer_of group v.cut (at c.elected)) t t'
        go (begins q a f s) = let e : i ≡ c.elected = sym h.itself ∙ q ∙ good.elected_is a-is in begins e a f (s ∙ view_of e)
        go (stays q a f s) = stays (λ e. q (h.itself ∙ e ∙ sym (good.elected_is a-is))) a f s

    view_same : sequencer_of group v.cut (at' c.elected) ≡ sequencer_of group v.cut (at c.elected)
    view_same =
        eq_or c.elected i
        (λ q. subst (λ (k : ℕ). sequencer_of group v.cut (at' k) ≡ sequencer_of group v.cut (at c.elected)) (sym q) (ap (sequencer_of group v.cut) here ∙ sequencer_here group v.cut t' number_here ∙ own which (sym q)))
        (λ q. ap (sequencer_of group v.cut) (rest c.elected q))
      where
        own : Begun c.elected i (sequencer_of group v.cut (at c.elected)) t t' → i ≡ c.elected → t'.sequencer ≡ sequencer_of group v.cut (at c.elected)
        own (begins q a f s) e = s
        own (stays q a f s) e = absurd (q e)

    members_same : (j : ℕ) → member_of group v.cut (at' j) ≡ member_of group v.cut (at j)
    members_same j =
        eq_or j i (λ q. subst (λ (k : ℕ). member_of group v.cut (at' k) ≡ member_of group v.cut (at k)) (sym q) (ap (member_of group v.cut) here ∙ member_same)) (λ q. ap (member_of group v.cut) (rest j q))

    pub result_next : Inv n resilience line c at' (packets ++ []) tk sb
    result_next =
        let cut = v.cut in
        let goes : Goes c i t t' = record { group = λ d. absurd (d settled); answers = λ _ d. absurd (d settled) } in
        let ups : is_in c.survivors i ≡ true → reach_of (member_of group cut t) ≤ reach_of (member_of group cut t') = λ _. subst (λ (m : Member). reach_of (member_of group cut t) ≤ reach_of m) (sym member_same) (le_refl _) in
        let low_up = low_goes n resilience line c at packets tk sb v i b t' at' here rest c.order [] (sym (append-nil c.order)) goes ups in
        keep n resilience line c at packets tk sb v i b t' at' here rest c.order [] (sym (append-nil c.order)) goes ups tk sb [] []
        (subst (λ (l : List (List ℕ)). Seen group line (sequencer_of group cut (at' c.elected)) (λ j. member_of group cut (at' j)) c.order tk sb v.lost l) (sym (append-nil v.known))
        (subst (λ (x : Sequencer). Seen group line x (λ j. member_of group cut (at' j)) c.order tk sb v.lost v.known) (sym view_same)
        (same_seen group line _ (λ j. member_of group cut (at j)) (λ j. member_of group cut (at' j)) c.order tk tk sb sb v.lost v.known (λ j _. members_same j) (λ j _. refl) (λ j _. refl) v.seen)))
        (subst (λ (x : Sequencer). (sequencer_of group cut (at c.elected)).accepted.0 ≤ x.accepted.0) (sym view_same) (le_refl _))
        (resulted_sits n resilience c v.under cut (Low n resilience c cut at') i t t' inside member_is (left_kept t attempt elected last survivors) (left_reset t attempt elected last survivors)
        (sequencer_of group cut (at c.elected)) v.seen.sequencer which h.itself sound' (tk i) (sb i)
        (subst (λ (m : Member). Content i m c.order (tk i) (sb i)) (member_there group cut t away ∙ sym member_is) (v.seen.terminal i inside).content) h.typed.past h.typed.counts h.typed.sequencer h.remembers (low_up _ h.read_low)
        (low_up _ (seen_floor group line _ (λ j. member_of group cut (at j)) c.order tk sb v.lost v.known v.seen))
        (λ e. (v.sits i b).old e (λ q. away ((v.sits i b).only e q).1)) (λ e. replied_frozen n resilience c v.under cut (Low n resilience c cut at) i t (v.sits i b) inside (h.waits away) e))
        (λ _ d. absurd (d settled)) (λ _ _. ap (λ (r : Reset). r.inviting) (left_reset t attempt elected last survivors)) tt tt
