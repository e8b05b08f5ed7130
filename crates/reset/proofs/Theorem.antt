-- Demand 3 of the survivors, wherever it is claimed; and survival at the first making, and at one with a closing round since the one before. Assumes nothing.
use mathlib.Core.Path.{◌≡◌, refl, sym, ap, ap₂, ◌∙◌, subst}
use mathlib.Core.Bool.{Bool, true, false, false≢true}
use mathlib.Core.List.{List, [], ◌∷◌, ◌++◌}
use Prim.Native.Nat.{ℕ, zero, suc, ◌+◌, ◌-◌, ◌*◌, ◌^◌, ◌≤◌, ◌<◌}
use native.Mathlib.Nat.{suc-mul, zero-mul, zero-add}
use native.Mathlib.Omega.{arith}
use lib.Bits.{mask_lt}
use lib.Count.{ones}
use lib.ListN.{length, get_or, length-append}
use lib.ListN as list
use lib.Seq.{length-take-le}
use Rattle.group.proofs.Choice.{when_true, when_false}
use Rattle.group.proofs.Counting.{one, count, one_true, one_false, ones_count}
use Rattle.group.proofs.Lists.{when_elim}
use Rattle.group.proofs.Members.{all_in}
use Rattle.group.specs.Choice.{when◌then◌else◌}
use Rattle.group.specs.Limits.{places_most}
use Rattle.group.specs.Members.{is_in}
use Rattle.group.specs.declared.Group as description
use Rattle.member.proofs.Acknowledged.{acknowledged_near, reach_least}
use Rattle.member.specs.State.{Member, reach_of, acknowledged_of}
use Rattle.model.proofs.Sums.{sum_first}
use Rattle.model.proofs.Whole.{whole_of, owns_of, history_is}
use Rattle.model.specs.Claim.{Opens, sum}
use Rattle.model.specs.Closing.{closing_most}
use Rattle.sequencer.proofs.Ordering.{floor_survivors}
use Rattle.sequencer.proofs.Soundness.{sound_of_lem}
use Rattle.sequencer.specs.State.{Sequencer}
use Rattle.recovery.specs.State.{Terminal}
use Rattle.reset.specs.Claim.{accepted_order, owed, Claimed, Claim, Demand3Reset, MakesNone, Firm, first, closed, on, Survives}
use Rattle.reset.specs.Closing.{take_row, close_member, close_from, sequencer_of, closing}
use Rattle.reset.specs.Course.{Course, opened, is_sent, course_of, course_from, course_in, taken, Allowed}
use Rattle.reset.specs.World.{Event, submit, repeat, take, status, poll, copy, hand_member, hand_sequencer, invite, make, Entry, happen, terminal_at, no_terminal, World, step, run, fresh}
use Rattle.reset.proofs.Ending.{Closes, closes_all}
use Rattle.reset.proofs.Invariant.{group_in, Inv}
use Rattle.reset.proofs.Lasting.{survived}
use Rattle.reset.proofs.Led.{Led, fresh_led, number_here, asked, step_led, run_led}
use Rattle.reset.proofs.Numbering.{view_is}
use Rattle.reset.proofs.Round.{Here, inv, inside_lt, elected_in, sequencer_inv, terminal_inv, floor_low}
use Rattle.reset.proofs.Seen.{settled_seen}
use Rattle.reset.proofs.Staying.{step_stays}
use Rattle.reset.proofs.Unmade.{submitted_in, course_snoc}
use Rattle.reset.proofs.View.{member_of, member_here}

-- a sum over the chosen
sum_chosen : (n x : ℕ) (p : ℕ → Bool) (f : ℕ → ℕ) → ((i : ℕ) → i < n → p i ≡ true → f i ≡ x) → sum n (λ i. when p i then f i else 0) ≡ count n p * x
unfolding sum count
sum_chosen zero x p f h = sym (zero-mul x)
sum_chosen (suc n) x p f h =
    let rest = sum_chosen n x (λ i. p (suc i)) (λ i. f (suc i)) (λ i l. h (suc i) (omega arith)) in
    sum_first n (λ i. when p i then f i else 0) ∙ go (p 0) refl rest
  where
    go : (b : Bool) → p 0 ≡ b → sum n (λ i. when p (suc i) then f (suc i) else 0) ≡ count n (λ i. p (suc i)) * x
        → (when p 0 then f 0 else 0) + sum n (λ i. when p (suc i) then f (suc i) else 0) ≡ (one (p 0) + count n (λ i. p (suc i))) * x
    go true e rest =
        let y : (when p 0 then f 0 else 0) ≡ x = sym (when_true (p 0) _ _ _ e refl) ∙ h 0 (omega arith) e in
        let z : one (p 0) ≡ 1 = one_true (p 0) e in
        let s : suc (count n (λ i. p (suc i))) * x ≡ count n (λ i. p (suc i)) * x + x = suc-mul (count n (λ i. p (suc i))) x in
        let k : (one (p 0) + count n (λ i. p (suc i))) * x ≡ suc (count n (λ i. p (suc i))) * x = ap (λ (j : ℕ). j * x) (let t : one (p 0) + count n (λ i. p (suc i)) ≡ suc (count n (λ i. p (suc i))) = omega arith in t) in
        ap₂ (λ (a d : ℕ). a + d) y rest ∙ (let q : x + count n (λ i. p (suc i)) * x ≡ count n (λ i. p (suc i)) * x + x = omega arith in q) ∙ sym (k ∙ s)
    go false e rest =
        let y : (when p 0 then f 0 else 0) ≡ 0 = sym (when_false (p 0) _ _ _ e refl) in
        let z : one (p 0) ≡ 0 = one_false (p 0) (λ q. false≢true (sym e ∙ q)) in
        let k : (one (p 0) + count n (λ i. p (suc i))) * x ≡ count n (λ i. p (suc i)) * x = ap (λ (j : ℕ). j * x) (let t : one (p 0) + count n (λ i. p (suc i)) ≡ count n (λ i. p (suc i)) = omega arith in t) in
        ap₂ (λ (a d : ℕ). a + d) y rest ∙ zero-add _ ∙ sym k

-- the closing round's length
row_length : (i k : ℕ) → length (take_row i k) ≡ k
unfolding take_row
row_length i zero = refl
row_length i (suc k) = ap suc (row_length i k)

member_length : (e i t k b : ℕ) → length (close_member e i t k b) ≡ 3 * k + 2
unfolding close_member
member_length e i t zero b = refl
member_length e i t (suc k) b = let z = member_length e i (t + 1) k (b + 1) in omega arith

from_length : (survivors e : ℕ) (ts : List Terminal) (i last b : ℕ) (p : ℕ → Bool) → ((k : ℕ) → k < length ts → p k ≡ is_in survivors (i + k))
    → ((k : ℕ) → k < length ts → is_in survivors (i + k) ≡ true → last - (acknowledged_of (get_or ts k no_terminal).member).0 ≤ places_most) → length (close_from survivors e ts i last b) ≤ closing_most * count (length ts) p
unfolding close_from count
from_length survivors e [] i last b p hp h = omega arith
from_length survivors e (t ∷ ts) i last b p hp h =
    let a : ℕ = (acknowledged_of t.member).0 in
    let zero_in : p 0 ≡ is_in survivors i = hp 0 (omega arith) ∙ ap (is_in survivors) (let z : i + 0 ≡ i = omega arith in z) in
    let again : (b' : ℕ) → length (close_from survivors e ts (i + 1) last b') ≤ closing_most * count (length ts) (λ k. p (suc k)) =
    λ b'. from_length survivors e ts (i + 1) last b' (λ k. p (suc k)) (λ k l. hp (suc k) (omega arith) ∙ ap (is_in survivors) (let z : i + suc k ≡ i + 1 + k = omega arith in z))
    (λ k l q. h (suc k) (omega arith) (ap (is_in survivors) (let z : i + suc k ≡ i + 1 + k = omega arith in z) ∙ q)) in
    when_elim (λ (l : List Event). length l ≤ closing_most * (one (p 0) + count (length ts) (λ k. p (suc k)))) (is_in survivors i)
    (λ q.
    let x = h 0 (omega arith) (ap (is_in survivors) (let z : i + 0 ≡ i = omega arith in z) ∙ q) in
    let near = acknowledged_near t.member in
    let r = row_length i (a - t.member.taken.0) in
    let y = member_length e i a (last - a) b in
    let z = again (b + (last - a) + 1) in
    let u = one_true (p 0) (zero_in ∙ q) in
    simp length-append (omega arith))
    (λ q. let z = again b in omega arith)

module _ (n number resilience line : ℕ) (w : World) (v : Led n number resilience line w) (claimed : Claimed w (course_in n number w)) where
  abbrev c : Course
  c = course_in n number w

  abbrev group : description.Group
  group = group_in n resilience c

  abbrev settled : c.attempt ≡ c.number
  settled = claimed.settled

  abbrev q : Sequencer
  q = sequencer_of w c

  here : Here n number resilience line c settled w
  here = record { led = v; course_is = refl; all = claimed.all }

  abbrev w' : World
  w' = run w (closing w c)

  pub ended : Closes n number resilience line c settled w w'
  ended = closes_all n number resilience line c settled w here

  -- what a survivor took, and is owed
  whole : (i : ℕ) → is_in c.survivors i ≡ true → taken i w.log ++ owed w c i ≡ accepted_order w c
  whole i e =
      whole_of group q c.order (sequencer_inv n number resilience line c settled w here) i _ (terminal_at w.group i).member (taken i w.log) (submitted_in i w.log)
      (terminal_inv n number resilience line c settled w here i e) (floor_low n number resilience line c settled w here i e)

  accepted_size : length (accepted_order w c) ≡ q.accepted.0
  accepted_size =
      let s = sequencer_inv n number resilience line c settled w here in
      let high = (sound_of_lem q s.sound).accepted_le in
      let top = s.top_is in
      length-take-le q.accepted.0 c.order (omega arith)

  survivors_small : c.survivors < 2 ^ n
  survivors_small = subst (λ (x : ℕ). x < 2 ^ n) v.holds.seen.standing.within (mask_lt c.survivors n)

  counted : ones c.survivors ≡ count n (is_in c.survivors)
  counted = ones_count n c.survivors survivors_small

  pub claim : Claim n number w
  claim =
      record {
        whole = whole;
        total =
            sum_chosen n q.accepted.0 (is_in c.survivors) (λ i. length (taken i w.log) + length (owed w c i))
            (λ i _ e. sym (length-append (taken i w.log) (owed w c i)) ∙ ap length (whole i e) ∙ accepted_size)
            ∙ ap (λ (k : ℕ). k * q.accepted.0) (sym counted);
        own = λ i e. owns_of i (terminal_at w.group i).member c.order (taken i w.log) (submitted_in i w.log) (terminal_inv n number resilience line c settled w here i e).content;
        closing_short =
            let y = from_length c.survivors c.elected w.group.terminals 0 q.accepted.0 (length w.group.packets) (is_in c.survivors) (λ k l. ap (is_in c.survivors) (sym (zero-add k)))
            (λ k l e.
            let e' : is_in c.survivors k ≡ true = ap (is_in c.survivors) (sym (zero-add k)) ∙ e in
            let f = floor_low n number resilience line c settled w here k e' in
            let x = sound_of_lem q (sequencer_inv n number resilience line c settled w here).sound in
            let z = x.window in
            let u = x.accepted_le in
            omega arith) in
            subst (λ (k : ℕ). length (closing w c) ≤ closing_most * k) (ap (λ (k : ℕ). count k (is_in c.survivors)) v.size ∙ sym counted) y;
        closing_order = ap (λ (x : Course). x.order) ended.here.course_is;
        closing_leaves =
            let s' = sequencer_inv n number resilience line c settled w' ended.here in
            let same = ended.accepted_is in
            let fl = floor_survivors group c.order (sequencer_of w' c) s' (λ i e. let y = (ended.each i e).1 in omega arith) in
            history_is group (sequencer_of w' c) c.order s' ∙ ap (λ (k : ℕ). list.drop k c.order) (fl ∙ same);
        closing_gives = λ i e.
            let h = (terminal_inv n number resilience line c settled w' ended.here i e).content in
            h.took_is ∙ ap (λ (k : ℕ). list.take k c.order) (ended.each i e).0;
      }

  -- after it everybody has what is accepted
  pub firm_after : Led n number resilience 0 w'
  firm_after =
      let h = inv n number resilience line c settled w' ended.here in
      let at = terminal_at w'.group in
      let has : (i : ℕ) → is_in c.survivors i ≡ true → line ≤ reach_of (member_of group h.cut (at i)) =
      λ i e.
      let a = h.line_le in
      let same = ap (λ (x : Sequencer). x.accepted.0) (view_is n resilience line c at w'.group.packets _ _ h (inside_lt n number resilience line c settled w' ended.here c.elected (elected_in n number resilience line c settled w' ended.here)) (ended.here.all c.elected (elected_in n number resilience line c settled w' ended.here))) in
      let d = ended.accepted_is in
      let t = (ended.each i e).0 in
      let r = reach_least (at i).member in
      subst (λ (m : Member). line ≤ reach_of m) (sym (member_here group h.cut (at i) (ended.here.all i e))) (omega arith) in
      record {
        size = ended.here.led.size;
        holds =
            subst (λ (x : Course). Inv n resilience 0 x at w'.group.packets (λ j. taken j w'.log) (λ j. submitted_in j w'.log)) (sym ended.here.course_is)
            (record {
              cut = h.cut;
              under = h.under;
              lost = h.lost;
              known = h.known;
              seen = settled_seen group line _ (λ j. member_of group h.cut (at j)) c.order _ _ h.lost h.known has h.seen;
              line_le = omega arith;
              cut_le = h.cut_le;
              number_used = h.number_used;
              attempt_used = h.attempt_used;
              used_fit = h.used_fit;
              sits = h.sits;
              initiates = h.initiates;
              opened = h.opened;
              shut = h.shut;
              floors = h.floors;
              covered = h.covered;
            });
      }

  pub all_after : (j : ℕ) → is_in (course_in n number w').survivors j ≡ true → (terminal_at w'.group j).member.group.number ≡ (course_in n number w').number
  all_after j e =
      let is = ended.here.course_is in
      ended.here.all j (subst (λ (x : Course). is_in x.survivors j ≡ true) is e) ∙ sym (ap (λ (x : Course). x.number) is)

pub demand3_reset : Demand3Reset
demand3_reset n number resilience o events orderly claimed =
    let x = run_led n number resilience 0 (fresh n number resilience) (fresh_led n number resilience o) events orderly in
    claim n number resilience x.0 (run (fresh n number resilience) events) x.1 claimed

-- where survival is claimed at the next making
record Firmly (n number resilience : ℕ) (w : World) : Type 0 where
  led : Led n number resilience 0 w
  all : (j : ℕ) → is_in (course_in n number w).survivors j ≡ true → (terminal_at w.group j).member.group.number ≡ (course_in n number w).number

fresh_firmly : (n number resilience : ℕ) → Opens n number resilience → Firmly n number resilience (fresh n number resilience)
unfolding fresh course_from
fresh_firmly n number resilience o = record { led = fresh_led n number resilience o; all = λ j e. number_here n number resilience o j (all_in n j e) }

-- no event but a making changes who survives, and the number
stays : (c : Course) (w : World) (e : Event) → MakesNone w e → ((course_of c e (happen w.group e).answer).survivors ≡ c.survivors) × ((course_of c e (happen w.group e).answer).number ≡ c.number)
unfolding course_of
stays c w (submit i p) m = (refl, refl)
stays c w (repeat i) m = (refl, refl)
stays c w (take i) m = (refl, refl)
stays c w (status i) m = (refl, refl)
stays c w (poll i) m = (refl, refl)
stays c w (copy i k) m = (refl, refl)
stays c w (hand_member k i) m = (refl, refl)
stays c w (hand_sequencer k i) m = (refl, refl)
stays c w (invite i k) m =
    when_elim (λ (x : Course). (x.survivors ≡ c.survivors) × (x.number ≡ c.number)) (is_sent (happen w.group (invite i k)).answer) (λ _. (refl, refl)) (λ _. (refl, refl))
stays c w (make i demand) m =
    when_elim (λ (x : Course). (x.survivors ≡ c.survivors) × (x.number ≡ c.number)) (is_sent (happen w.group (make i demand)).answer) (λ e. absurd (m e)) (λ _. (refl, refl))

on_firmly : (n number resilience : ℕ) (w : World) → Firmly n number resilience w → (e : Event) → Allowed w (course_in n number w) e → MakesNone w e → Firmly n number resilience (step w e)
on_firmly n number resilience w v e a m =
    let c : Course = course_in n number w in
    let x : Entry = record { event = e; answer = (happen w.group e).answer } in
    let is : course_in n number (step w e) ≡ course_of c e (happen w.group e).answer = course_snoc (opened n number) w.log x in
    let s = stays c w e m in
    record {
      led = step_led n number resilience 0 w v.led e a m;
      all = λ j inside.
          step_stays n resilience 0 c w.group (λ k. taken k w.log) (λ k. submitted_in k w.log) v.led.size v.led.holds e (asked n number resilience 0 w v.led e a m) j
          (v.all j (subst (λ (k : ℕ). is_in k j ≡ true) (ap (λ (y : Course). y.survivors) is ∙ s.0) inside)) ∙ sym (ap (λ (y : Course). y.number) is ∙ s.1);
    }

firmly : (n number resilience : ℕ) → Opens n number resilience → (w : World) → Firm n number resilience w → Firmly n number resilience w
firmly n number resilience o w first = fresh_firmly n number resilience o
firmly n number resilience o w (closed events orderly claimed) =
    let x = run_led n number resilience 0 (fresh n number resilience) (fresh_led n number resilience o) events orderly in
    let u : World = run (fresh n number resilience) events in
    record { led = firm_after n number resilience x.0 u x.1 claimed; all = all_after n number resilience x.0 u x.1 claimed }
firmly n number resilience o w (on {w = u} f e a m) = on_firmly n number resilience u (firmly n number resilience o u f) e a m

pub survives : Survives
unfolding Allowed
survives n number resilience o w f i demand allowed sent =
    let v = firmly n number resilience o w f in
    survived n number resilience w v.led v.all i demand allowed sent
