-- A survivor's member's call: what it owes the group made last keeps the world's invariant. Assumes nothing.
use mathlib.Core.Path.{◌≡◌, refl, sym, ap, ◌∙◌, subst}
use mathlib.Core.Logic.{◌≢◌}
use mathlib.Core.Bool.{Bool, true, false, false≢true}
use mathlib.Core.List.{List, [], ◌++◌, append-nil}
use Prim.Native.Nat.{ℕ, ◌≤◌, ◌<◌}
use native.Mathlib.Nat.{le_refl}
use native.Mathlib.Omega.{arith}
use borrow.Author.Tests.{eqb-true}
use lib.ListN.{length}
use Rattle.group.proofs.Choice.{when_true, both_first, both_then}
use Rattle.group.proofs.Lists.{when_elim, eq_or, All, all_map}
use Rattle.group.specs.Choice.{◌and◌, ◌=?◌}
use Rattle.group.specs.Limits.{places_most, members_most}
use Rattle.group.specs.Members.{is_in}
use Rattle.group.specs.declared.Group as description
use Rattle.group.specs.declared.MemberNumber.{MemberNumber}
use Rattle.history.proofs.Soundness.{taken_in}
use Rattle.message.specs.Order.{Ordered}
use Rattle.member.proofs.Acknowledged.{reach_most}
use Rattle.member.proofs.Invariant.{MemberGood}
use Rattle.member.specs.Laws as memberLaws
use Rattle.member.specs.State.{Member, reach_of}
use Rattle.member.specs.declared.Answer.{Answer}
use Rattle.sequencer.specs.State.{Sequencer}
use Rattle.recovery.specs.Calls as terminal
use Rattle.recovery.specs.Sound.{terminal_sound}
use Rattle.recovery.specs.State.{Kept, Terminal, serves, reply_number}
use Rattle.reset.specs.Course.{Course}
use Rattle.reset.proofs.First.{same_steady}
use Rattle.reset.proofs.Invariant.{Foreign, group_in, Low, Survivor, Sits, Open, Covered, FloorLow, Inv, Goes}
use Rattle.reset.proofs.Keep.{keep, low_goes}
use Rattle.reset.proofs.Remembering.{Remembers}
use Rattle.reset.proofs.Seen.{Seen, member_seen}
use Rattle.reset.proofs.View.{member_of, sequencer_of, member_here, sequencer_here}

-- the group's description stays, and who it is
pub record Kin (m m' : Member) : Type 0 where
  pub group : m'.group ≡ m.group
  pub number : m'.number ≡ m.number

module _ (n resilience : ℕ) (c : Course) (under cut : ℕ) (low low' : ℕ → Type 0) (up : (x : ℕ) → low x → low' x) (i : ℕ) (t : Terminal) (m' : Member) (kept' : Kept) (s : Survivor n resilience c under cut low i t) where
  abbrev t' : Terminal
  t' = terminal.with_member t m' kept'

  reaches : (serves t ≡ true → reach_of m' ≤ t.sequencer.top.0) → serves t' ≡ serves t → reach_of m' ≤ reply_number t'
  unfolding reply_number
  reaches reach' same = when_elim (λ (x : ℕ). reach_of m' ≤ x) (serves t') (λ e. reach' (sym same ∙ e)) (λ _. le_refl _)

  pub member_survivor : Kin t.member m' → terminal_sound t' ≡ true → memberLaws.Typed m' → length kept'.past ≡ places_most → length kept'.counts ≡ members_most
      → Remembers m'.taken.0 kept' c.order → low' kept'.read.0 → (serves t ≡ true → reach_of m' ≤ t.sequencer.top.0) → Survivor n resilience c under cut low' i t'
  member_survivor kin sound' typed' past' counts' remembers' read' reach' =
      let number : m'.group.number ≡ t.member.group.number = ap (λ (x : description.Group). x.number) kin.group in
      let same : serves t' ≡ serves t = ap (λ (k : ℕ). t.sequencing and t.sequencer.group.number =? k) number in
      let steady = same_steady t t' s.sound sound' refl in
      record {
        sound = sound';
        typed = record { member = typed'; sequencer = s.typed.sequencer; past = past'; counts = counts'; replies = s.typed.replies };
        invited = s.invited;
        size = ap (λ (x : description.Group). x.n) kin.group ∙ s.size;
        resilient = ap (λ (x : description.Group). x.resilience) kin.group ∙ s.resilient;
        itself = ap (λ (x : MemberNumber). x.0) kin.number ∙ s.itself;
        remembers = remembers';
        serving = λ e. s.serving (sym same ∙ e);
        reach_le = reaches reach' same;
        floor_low = λ e. up _ (s.floor_low (sym same ∙ e));
        read_low = read';
        calm = λ e. s.calm (sym number ∙ e);
        under_is = λ e. number ∙ s.under_is (λ q. e (number ∙ q));
        foreign = λ e. subst (Foreign c) (sym number) (s.foreign (λ q. e (number ∙ q)));
        waits = λ e. s.waits (λ q. e (number ∙ q));
        reply_le = λ e. let x = s.reply_le (λ q. e (number ∙ q)) in let y = steady.number (s.waits (λ q. e (number ∙ q))) in omega arith;
        awake = s.awake;
        present = λ e q. s.present e (sym number ∙ q);
        wakes = λ e q. s.wakes e (sym number ∙ q);
        cut_is = λ e q. steady.number (s.waits (λ z. q (number ∙ z))) ∙ s.cut_is e (λ z. q (number ∙ z));
      }

module _ (n resilience line : ℕ) (c : Course) (at : ℕ → Terminal) (packets : List (List ℕ)) (tk : ℕ → List Ordered) (sb : ℕ → List (List ℕ)) (v : Inv n resilience line c at packets tk sb)
    (i : ℕ) (b : i < n) (inside : is_in c.survivors i ≡ true) where
  abbrev group : description.Group
  group = group_in n resilience c

  abbrev cut : ℕ
  cut = v.cut

  abbrev under : ℕ
  under = v.under

  abbrev t : Terminal
  t = at i

  abbrev view : Sequencer
  view = sequencer_of group cut (at c.elected)

  pub stands : Survivor n resilience c under cut (Low n resilience c cut at) i t
  stands = (v.sits i b).survivor inside

  -- a sequencer that serves with the result has the whole order
  pub serves_all : t.member.group.number ≡ c.number → serves t ≡ true → (i ≡ c.elected) × (t.sequencer.top.0 ≡ length c.order)
  serves_all e q =
      let ours : t.sequencer.group.number ≡ c.number = eqb_is t.sequencing _ _ q ∙ e in
      let x = (v.sits i b).only (both_first t.sequencing _ q) ours in
      let same : sequencer_of group cut (at c.elected) ≡ t.sequencer = ap (λ (k : ℕ). sequencer_of group cut (at k)) (sym x.0) ∙ sequencer_here group cut t e in
      (x.0, ap (λ (z : Sequencer). z.top.0) (sym same) ∙ v.seen.sequencer.top_is)
    where
      eqb_is : (a : Bool) (x y : ℕ) → (a and x =? y) ≡ true → x ≡ y
      eqb_is a x y h = eqb-true x y (both_then a _ h)

  module _ (at' : ℕ → Terminal) (m' : Member) (kept' : Kept) where
    abbrev changed : Terminal
    changed = terminal.with_member t m' kept'

    module _ (here : at' i ≡ changed) (rest : (j : ℕ) → j ≢ i → at' j ≡ at j) (kin : Kin t.member m') (sound' : terminal_sound changed ≡ true) (typed' : memberLaws.Typed m') (past' : length kept'.past ≡ places_most)
        (counts' : length kept'.counts ≡ members_most) (remembers' : Remembers m'.taken.0 kept' c.order) (read' : Low n resilience c cut at kept'.read.0)
        (tk' : ℕ → List Ordered) (sb' : ℕ → List (List ℕ)) (other-tk : (j : ℕ) → j ≢ i → tk' j ≡ tk j) (other-sb : (j : ℕ) → j ≢ i → sb' j ≡ sb j) (answer : Answer) (news ps : List (List ℕ))
        (owes : MemberGood group i (taken_in view.acknowledgements i) view.accepted.0 c.order (sb i) (member_of group cut t) (tk' i) (sb' i) news (record { member = member_of group cut changed; answer = answer; bytes = [] }))
        (stays : t.member.group.number ≢ c.number → reach_of m' ≤ reach_of t.member)
        (head : i ≡ c.elected → t.member.group.number ≢ c.number → sequencer_of group cut changed ≡ sequencer_of group cut t)
        (floors' : All (FloorLow (Low n resilience c cut at)) news) (new : All (Covered c at' under cut (v.known ++ news)) ps) where
      number_is : m'.group.number ≡ t.member.group.number
      number_is = ap (λ (x : description.Group). x.number) kin.group

      goes : Goes c i t changed
      goes =
          record {
            group = λ _. number_is;
            answers = λ _ _ r a. (r, a, (same_steady t changed stands.sound sound' refl).number r);
          }

      ups : is_in c.survivors i ≡ true → reach_of (member_of group cut t) ≤ reach_of (member_of group cut changed)
      ups _ = owes.louder.reach

      -- the elected one's sequencer stays
      changed_view : i ≡ c.elected → sequencer_of group cut changed ≡ sequencer_of group cut t
      changed_view q =
          eq_or t.member.group.number c.number
          (λ e. sequencer_here group cut changed (number_is ∙ e) ∙ sym (sequencer_here group cut t e)) (λ e. head q e)

      view_same : sequencer_of group cut (at' c.elected) ≡ view
      view_same =
          eq_or c.elected i
          (λ q. subst (λ (k : ℕ). sequencer_of group cut (at' k) ≡ sequencer_of group cut (at k)) (sym q) (ap (sequencer_of group cut) here ∙ changed_view (sym q)))
          (λ q. ap (sequencer_of group cut) (rest c.elected q))

      seen' : Seen group line (sequencer_of group cut (at' c.elected)) (λ j. member_of group cut (at' j)) c.order tk' sb' v.lost (v.known ++ news)
      seen' =
          subst (λ (x : Sequencer). Seen group line x (λ j. member_of group cut (at' j)) c.order tk' sb' v.lost (v.known ++ news)) (sym view_same)
          (member_seen group line view (λ j. member_of group cut (at j)) c.order tk sb v.lost v.known v.seen i inside (λ j. member_of group cut (at' j)) tk' sb'
          (record { member = member_of group cut changed; answer = answer; bytes = [] }) news (ap (member_of group cut) here) (λ j q. ap (member_of group cut) (rest j q)) other-tk other-sb owes)

      low_up : (x : ℕ) → Low n resilience c cut at x → Low n resilience c cut at' x
      low_up = low_goes n resilience line c at packets tk sb v i b changed at' here rest c.order [] (sym (append-nil c.order)) goes ups

      -- what it reaches lies within what its sequencer numbered
      reach' : serves t ≡ true → reach_of m' ≤ t.sequencer.top.0
      unfolding reply_number
      reach' q =
          eq_or t.member.group.number c.number
          (λ e.
          let top = (serves_all e q).1 in
          let x = reach_most owes.terminal.content in
          let same : member_of group cut changed ≡ m' = member_here group cut changed (number_is ∙ e) in
          let y = subst (λ (z : Member). reach_of z ≤ length c.order) same x in
          omega arith)
          (λ e.
          let x = stays e in
          let y = stands.reach_le in
          let z : t.sequencer.top.0 ≡ reply_number t = when_true (serves t) _ _ _ q refl in
          omega arith)

      sits' : Sits n resilience c under cut (Low n resilience c cut at') i changed
      sits' =
          record {
            lost = λ e. absurd (false≢true (sym e ∙ inside));
            old = (v.sits i b).old;
            only = λ e q. let x = (v.sits i b).only e q in (x.0, number_is ∙ x.1);
            survivor = λ _.
                member_survivor n resilience c under cut (Low n resilience c cut at) (Low n resilience c cut at') low_up i t m' kept' stands kin sound' typed' past' counts' remembers' (low_up _ read') reach';
          }

      pub member_next : Inv n resilience line c at' (packets ++ ps) tk' sb'
      member_next =
          keep n resilience line c at packets tk sb v i b changed at' here rest c.order [] (sym (append-nil c.order)) goes ups tk' sb' news ps seen'
          (subst (λ (x : Sequencer). view.accepted.0 ≤ x.accepted.0) (sym view_same) (le_refl _)) sits'
          (λ e d. subst (λ (k : ℕ). Open c at (at k).reset) e (v.opened d)) (λ e d. subst (λ (k : ℕ). (at k).reset.inviting ≡ false) e (v.shut d))
          (all_map _ _ (λ p f h e. low_up _ (f h e)) news floors') new
