-- The fresh members, one after the other; and the fresh group out of them. Assumes nothing.
use Rattle.std.specs.Prelude.{Ok, Err}
use Rattle.group.specs.Opening.{Opened}
use Rattle.group.specs.Question.{all_yes}
use mathlib.Core.Path.{◌≡◌, refl, sym, ap, ◌∙◌}
use mathlib.Core.List.{List, [], ◌∷◌}
use Prim.Native.Nat.{ℕ, zero, suc, ◌+◌, ◌≤◌, ◌<◌}
use native.Mathlib.Omega.{arith}
use borrow.Author.Tests.{lt-ltb, ltb-true, le-leb, leb-true}
use lib.ListN.{length, get_or, set}
use lib.Seq.{get_or-set_same, get_or-set_other}
use Rattle.group.proofs.Choice.{when_true, both_hold, both_then}
use Rattle.group.proofs.Lists.{when_elim, eq_or}
use Rattle.group.proofs.Question.{accepted≢}
use Rattle.group.specs.Choice.{◌and◌, ◌<?◌, ◌≤?◌}
use Rattle.group.specs.Limits.{members_most}
use Rattle.group.specs.Opening.{description_of, open_of}
use Rattle.group.specs.declared.Group as group
use Rattle.group.specs.declared.Refusal.{Refusal}
use Rattle.group.specs.Question.{Verdict}
use Rattle.member.specs.Calls as member
use Rattle.member.specs.State.{Member, fresh_member}
use Rattle.member.specs.View as memberView
use Rattle.member.specs.declared.Head as memberHead
use Rattle.model.specs.World.{fresh_members, fresh}
use Rattle.sequencer.specs.Calls as sequencer
use Rattle.sequencer.specs.Promise as sequencerPromise
use Rattle.sequencer.specs.State.{Sequencer, fresh_sequencer}
use Rattle.sequencer.specs.View as sequencerView
use Rattle.simulator.specs.Steps.{Full, BegunAt, Begun}
use Rattle.simulator.specs.Whole.{list_of, Rows, stored_at, Terminals, terminals_of, head_in, member_at, members_in, packets_of, group_of, opened_group, Opens}
use Rattle.simulator.proofs.Acting.{set_at, set_own, set_others}

-- a member that was opened is fresh, with the description and the number that it says
abbrev Itself : member.Opening → Type 0
Itself o = o.member ≡ fresh_member o.member.group o.member.number

fresh_itself : (n number resilience i : ℕ) → Itself (member.fresh_of n (record { 0 = i }) number resilience)
unfolding member.fresh_of member.opened_of fresh_member
fresh_itself n number resilience i = when_elim Itself (i <? n) (λ _. opened (open_of n number resilience)) (λ _. refl)
  where
    opened : (o : Opened) → Itself (member.opened_of o (record { 0 = i }))
    opened (Ok g) = refl
    opened (Err refusal) = refl

-- a row of numbers that is set, and arrays that changed at the same index alone
module _ (n number resilience i : ℕ) (g : group.Group) (numbers : List (List ℕ)) (rows rows' : Rows) (head : memberHead.Head) where
  abbrev row : List ℕ
  row = head.taken.0 ∷ head.accepted.0 ∷ head.submitted ∷ head.waiting ∷ []

  pub begun_at : i < length numbers → memberView.view_of (stored_at rows' i head) ≡ (member.fresh_of n (record { 0 = i }) number resilience).member
      → ((j : ℕ) (h : memberHead.Head) → (j ≡ i → ⊥) → stored_at rows' j h ≡ stored_at rows j h)
      → BegunAt i (terminals_of g numbers rows) (terminals_of g (set numbers i row) rows')
  unfolding member_at memberView.view_of fresh_member
  begun_at l e o =
      let f = e ∙ fresh_itself n number resilience i in
      let own : Member → Member = λ m. record { group = g; number = record { 0 = i }; taken = m.taken; accepted = m.accepted; submitted = m.submitted; waiting = m.waiting; queue = m.queue; held = m.held } in
      record {
        state = ap (λ (l : List ℕ). memberView.view_of (stored_at rows' i (head_in g i l))) (get_or-set_same numbers i row [] l) ∙ ap own f;
        others = λ j d.
            ap (λ (l : List ℕ). memberView.view_of (stored_at rows' j (head_in g j l))) (get_or-set_other numbers i j row [] d)
            ∙ ap memberView.view_of (o j (head_in g j (get_or numbers j [])) d);
      }

-- arrays that changed at i alone, and the row of numbers with them
pub begun_set : (n number resilience i : ℕ) (g : group.Group) (numbers : List (List ℕ)) (rows : Rows) (a b c d e f k h : List ℕ) (head : memberHead.Head) → i < length numbers → i < members_most → Full rows
    → memberView.view_of (memberView.whole head a b c d e f k h) ≡ (member.fresh_of n (record { 0 = i }) number resilience).member
    → BegunAt i (terminals_of g numbers rows) (terminals_of g (set numbers i (head.taken.0 ∷ head.accepted.0 ∷ head.submitted ∷ head.waiting ∷ [])) (set_at i rows a b c d e f k h))
begun_set n number resilience i g numbers rows a b c d e f k h head l m full o =
    begun_at n number resilience i g numbers rows (set_at i rows a b c d e f k h) head l (ap memberView.view_of (set_own i rows a b c d e f k h m full head) ∙ o) (set_others i rows a b c d e f k h)

pub begun_none : (t : Terminals) → Begun t 0
begun_none t j h = absurd (omega arith)

-- one member more
pub begun_on : (g : group.Group) (numbers numbers' : List (List ℕ)) (rows rows' : Rows) (i : ℕ) → Begun (terminals_of g numbers rows) i
    → BegunAt i (terminals_of g numbers rows) (terminals_of g numbers' rows') → Begun (terminals_of g numbers' rows') (i + 1)
begun_on g numbers numbers' rows rows' i b c j h =
    eq_or j i (λ e. ap (member_at (terminals_of g numbers' rows')) e ∙ c.state ∙ ap (λ (k : ℕ). fresh_member g (record { 0 = k })) (sym e)) (λ d. c.others j d ∙ b j (omega arith))

module _ (n number resilience : ℕ) where
  abbrev fresh_at : ℕ → Member
  fresh_at i = (member.fresh_of n (record { 0 = i }) number resilience).member

  -- where questions 18 and 24 are answered yes, a member below n is fresh
  fresh_is : (i : ℕ) → i < n → n ≤ members_most → resilience < n → fresh_at i ≡ fresh_member (description_of n number resilience) (record { 0 = i })
  unfolding member.fresh_of member.opened_of open_of
  fresh_is i h k d =
      ap (λ (o : member.Opening). o.member) (sym (when_true (i <? n) _ _ _ (lt-ltb i n h) refl))
      ∙ ap (λ (o : Opened). (member.opened_of o (record { 0 = i })).member)
      (sym (when_true (1 ≤? n and n ≤? members_most) _ _ _ (both_hold (1 ≤? n) (n ≤? members_most) (le-leb 1 n (omega arith)) (le-leb n members_most k)) refl)
      ∙ sym (when_true (resilience <? n) _ _ _ (lt-ltb resilience n d) refl))

  -- all of them
  members_are : (t : Terminals) (i k : ℕ) → ((j : ℕ) → i ≤ j → j < i + k → member_at t j ≡ fresh_at j) → list_of (member_at t) i k ≡ fresh_members n number resilience i k
  unfolding list_of fresh_members
  members_are t i zero h = refl
  members_are t i (suc k) h =
      let a : member_at t i ≡ fresh_at i = h i (omega arith) (omega arith) in
      let b = members_are t (i + 1) k (λ j p q. h j (omega arith) (omega arith)) in λ x. a x ∷ b x

  -- questions 18 and 24 leave a sequencer of n members, 1 to 16, or of none
  pub record Small (o : sequencer.Opening) : Type 0 where
    pub few : o.sequencer.group.n ≤ members_most
    pub within : o.sequencer.group.n ≤ n
    pub description : 1 ≤ o.sequencer.group.n → o.sequencer.group ≡ description_of n number resilience
    pub degree : 1 ≤ o.sequencer.group.n → resilience < n
    pub accepted : o.verdict ≡ all_yes → o.sequencer.group.n ≡ n

  refused_small : (refusal : Refusal) → Small (sequencer.opened_of (Err refusal))
  unfolding sequencer.opened_of fresh_sequencer
  refused_small refusal =
      record {
        few = omega arith;
        within = omega arith;
        description = λ h. absurd (omega arith);
        degree = λ h. absurd (omega arith);
        accepted = λ e. absurd (accepted≢ refusal e);
      }

  opened_small : Small (sequencer.fresh_of n number resilience)
  unfolding sequencer.fresh_of sequencer.opened_of open_of fresh_sequencer
  opened_small =
      when_elim (λ (o : Opened). Small (sequencer.opened_of o)) (1 ≤? n and n ≤? members_most)
      (λ t. when_elim (λ (o : Opened). Small (sequencer.opened_of o)) (resilience <? n)
      (λ d.
      record {
        few = leb-true n members_most (both_then (1 ≤? n) (n ≤? members_most) t);
        within = omega arith;
        description = λ _. refl;
        degree = λ _. ltb-true resilience n d;
        accepted = λ _. refl;
      })
      (λ _. refused_small Refusal.Resilience))
      (λ _. refused_small Refusal.Opening)

  pub opens : (verdict : Verdict) (s : sequencerView.Stored) (numbers : List (List ℕ)) (rows : Rows) (sizes : List ℕ) (packets : List (List ℕ))
      → sequencerPromise.Starts (sequencer.fresh_of n number resilience) verdict s → Begun (terminals_of s.head.group numbers rows) members_most
      → Opens n number resilience verdict (record { sequencer = s.head; count = 0 })
      (record { sequencer = s; terminals = terminals_of s.head.group numbers rows; packets = packets_of sizes packets 0 })
  unfolding fresh list_of sequencerView.view_of
  opens verdict s numbers rows sizes packets o b =
      let small = opened_small in
      let f = (sequencer.fresh_of n number resilience).sequencer in
      let is : s.head.group ≡ f.group = ap (λ (x : Sequencer). x.group) o.state in
      let few = small.few in
      let within = small.within in
      let m : members_in (terminals_of s.head.group numbers rows) ≡ fresh_members n number resilience 0 f.group.n =
      ap (list_of (member_at (terminals_of s.head.group numbers rows)) 0) (ap (λ (g : group.Group). g.n) is)
      ∙ members_are (terminals_of s.head.group numbers rows) 0 f.group.n
      (λ j _ q. b j (omega arith) ∙ ap (λ (g : group.Group). fresh_member g (record { 0 = j })) (is ∙ small.description (omega arith)) ∙ sym (fresh_is j (omega arith) (let e = ap (λ (g : group.Group). g.n) (small.description (omega arith)) in omega arith) (small.degree (omega arith))))
      in
      let shown : group_of (record { sequencer = s; terminals = terminals_of s.head.group numbers rows; packets = packets_of sizes packets 0 }) ≡ opened_group n number resilience =
      λ x. record { sequencer = o.state x; members = m x; packets = [] } in
      record {
        verdict_is = o.answer;
        shown = shown;
        members = b;
        count = refl;
        group = λ yes. shown ∙ ap (λ (k : ℕ). record { sequencer = f; members = fresh_members n number resilience 0 k; packets = [] }) (small.accepted (sym o.answer ∙ yes));
        room = record { packets = omega arith; members = rw is few };
      }
