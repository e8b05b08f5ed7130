-- The worlds that an allowed list leads to satisfy the invariant, from a fresh one on. Assumes nothing.
use mathlib.Core.Path.{◌≡◌, refl, sym, ap, ◌∙◌, subst}
use mathlib.Core.Logic.{inl}
use mathlib.Core.Bool.{Bool, true, false, false≢true}
use mathlib.Core.List.{List, [], ◌∷◌, append-nil}
use Prim.Native.Nat.{ℕ, ◌+◌, ◌<◌}
use native.Mathlib.Omega.{arith}
use borrow.Author.Tests.{le-leb, eqb-true, eq-eqb}
use lib.ListN.{length, get_or, get_elem?}
use lib.ListN as list
use lib.Seq.{length-take-le}
use Rattle.group.proofs.Choice.{both_first}
use Rattle.group.proofs.Members.{in_all, all_in, Standing, fresh_standing, others_count}
use Rattle.group.specs.Choice.{◌≤?◌}
use Rattle.group.specs.Opening.{description_of}
use Rattle.group.specs.declared.Group as description
use Rattle.history.proofs.Soundness.{taken_in}
use Rattle.member.proofs.Acknowledged.{reach_most}
use Rattle.member.proofs.Invariant as memberInvariant
use Rattle.member.specs.State.{Member}
use Rattle.model.proofs.Step.{gather_snoc}
use Rattle.model.specs.Claim.{Opens}
use Rattle.model.specs.Log.{gather}
use Rattle.model.specs.World as model
use Rattle.sequencer.proofs.Invariant.{SequencerInv}
use Rattle.sequencer.proofs.Soundness as sequencerSoundness
use Rattle.sequencer.specs.Calls as sequencer
use Rattle.sequencer.specs.State.{Sequencer}
use Rattle.recovery.specs.Begin.{cut_of, chosen_of}
use Rattle.recovery.specs.Calls.{fresh_terminal}
use Rattle.recovery.specs.State.{Terminal}
use Rattle.reset.specs.Claim.{TakenBegins, MakesNone}
use Rattle.reset.specs.Course.{Course, opened, is_sent, course_of, course_from, course_in, took_at, submitted_at, taken, Allowed, Orderly}
use Rattle.reset.specs.World.{Event, submit, repeat, take, status, poll, copy, hand_member, hand_sequencer, invite, make, Entry, happen, terminal_at, World, step, run, no_terminal, fresh_terminals, fresh}
use Rattle.reset.proofs.Away.{inv_same}
use Rattle.reset.proofs.First.{Stands}
use Rattle.reset.proofs.Invariant.{Low, Sits, Inv}
use Rattle.reset.proofs.Making.{made_from}
use Rattle.reset.proofs.Numbering.{seen_floor}
use Rattle.reset.proofs.Remembering.{Remembers, fresh_remembers}
use Rattle.reset.proofs.Same.{terminals_length, terminals_at}
use Rattle.reset.proofs.Seen.{Seen, voices}
use Rattle.reset.proofs.Stepping.{Asked, step_next, MadeNext, make_sent}
use Rattle.reset.proofs.Unmade.{submitted_in, course_snoc, start, fresh_stands}
use Rattle.reset.proofs.View.{member_of, sequencer_of, member_here, sequencer_here}

-- the world of a log
pub record Led (n number resilience line : ℕ) (w : World) : Type 0 where
  pub size : length w.group.terminals ≡ n
  pub holds : Inv n resilience line (course_in n number w) (terminal_at w.group) w.group.packets (λ j. taken j w.log) (λ j. submitted_in j w.log)

-- a fresh world
module _ (n number resilience : ℕ) (o : Opens n number resilience) where
  abbrev group : description.Group
  group = description_of n number resilience

  abbrev c0 : Course
  c0 = opened n number

  abbrev s0 : Sequencer
  s0 = (sequencer.fresh_of n number resilience).sequencer

  abbrev at0 : ℕ → Terminal
  at0 i = get_or (fresh_terminals n number resilience 0 n) i no_terminal

  fresh_at : (i : ℕ) → i < n → at0 i ≡ fresh_terminal n number resilience i
  fresh_at i b = let z : 0 + i ≡ i = omega arith in terminals_at n number resilience 0 n i b ∙ ap (λ (x : ℕ). fresh_terminal n number resilience x) z

  first_inv : SequencerInv group s0 []
  unfolding model.fresh
  first_inv = (start n number resilience o).sequencer

  member_inv : (i : ℕ) → i < n → memberInvariant.Terminal group i (taken_in s0.acknowledgements i) s0.accepted.0 (fresh_terminal n number resilience i).member [] [] []
  unfolding model.fresh
  member_inv i b =
      subst (λ (m : Member). memberInvariant.Terminal group i (taken_in s0.acknowledgements i) s0.accepted.0 m [] [] []) (sym (fresh_stands n number resilience o i b).member_is) ((start n number resilience o).terminal i b)

  stands0 : (i : ℕ) → i < n → Stands i (fresh_terminal n number resilience i) (fresh_terminal n number resilience i).member s0
  stands0 i b =
      let s = fresh_stands n number resilience o i b in
      record {
        member_is = refl;
        sound = s.sound;
        past = s.past;
        counts = s.counts;
        replies = s.replies;
        invited = s.invited;
        typed = s.typed;
        sequencing_is = s.sequencing_is;
        sequencer_is = s.sequencer_is;
      }

  number_at : (i : ℕ) → i < n → (fresh_terminal n number resilience i).member.group.number ≡ number
  number_at i b = ap (λ (g : description.Group). g.number) (member_inv i b).seat.group_is

  low_n : 0 < n
  low_n = let z = o.least in omega arith

  pub number_here : (i : ℕ) → i < n → (at0 i).member.group.number ≡ number
  number_here i b = ap (λ (t : Terminal). t.member.group.number) (fresh_at i b) ∙ number_at i b

  view0 : sequencer_of group 0 (at0 0) ≡ s0
  view0 = sequencer_here group 0 (at0 0) (number_here 0 low_n) ∙ ap (λ (t : Terminal). t.sequencer) (fresh_at 0 low_n) ∙ (stands0 0 low_n).sequencer_is refl

  members0 : (i : ℕ) → i < n → member_of group 0 (at0 i) ≡ (fresh_terminal n number resilience i).member
  members0 i b = member_here group 0 (at0 i) (number_here i b) ∙ ap (λ (t : Terminal). t.member) (fresh_at i b)

  nothing_accepted : s0.accepted.0 ≡ 0
  nothing_accepted = let a = (sequencerSoundness.sound_of_lem s0 first_inv.sound).accepted_le in let d = first_inv.top_is in omega arith

  seen0 : Seen group 0 (sequencer_of group 0 (at0 0)) (λ j. member_of group 0 (at0 j)) [] (λ j. []) (λ j. []) (λ j. []) []
  seen0 =
      let standing : Standing group = fresh_standing n number resilience o.least o.most o.resilient in
      let top = first_inv.top_is in
      let zero-accepted = nothing_accepted in
      subst (λ (x : Sequencer). Seen group 0 x (λ j. member_of group 0 (at0 j)) [] (λ j. []) (λ j. []) (λ j. []) []) (sym view0)
      (record {
        standing = standing;
        sequencer = first_inv;
        confirmed =
            record {
              marked = λ k i a b e. absurd (omega arith);
              enough =
                  others_count group standing (λ i. s0.accepted.0 ≤? (voices group 0 (λ j. member_of group 0 (at0 j)) (λ j. []) (λ j. []) i).reach)
                  (λ i. le-leb s0.accepted.0 (voices group 0 (λ j. member_of group 0 (at0 j)) (λ j. []) (λ j. []) i).reach (omega arith));
            };
        terminal = λ i e. subst (λ (m : Member). memberInvariant.Terminal group i (taken_in s0.acknowledgements i) s0.accepted.0 m [] [] []) (sym (members0 i (all_in n i e))) (member_inv i (all_in n i e));
        owns = λ i b e. absurd (false≢true (sym e ∙ in_all n i b));
        sizes = λ i e. omega arith;
        packets_known = tt;
      })

  first_only : (i : ℕ) → i < n → (fresh_terminal n number resilience i).sequencing ≡ true → (i ≡ 0) × ((fresh_terminal n number resilience i).sequencer ≡ s0)
  first_only i b e = let q : i ≡ 0 = eqb-true i 0 (sym (stands0 i b).sequencing_is ∙ e) in (q, (stands0 i b).sequencer_is q)

  sits0 : (i : ℕ) → i < n → Sits n resilience c0 number 0 (Low n resilience c0 0 at0) i (fresh_terminal n number resilience i)
  sits0 i b =
      let t = fresh_terminal n number resilience i in
      let s = stands0 i b in
      let h = member_inv i b in
      let number_is = ap (λ (g : description.Group). g.number) first_inv.group_is in
      record {
        lost = λ e. absurd (false≢true (sym e ∙ in_all n i b));
        old = λ e q. absurd (q (ap (λ (x : Sequencer). x.group.number) (first_only i b e).1 ∙ number_is));
        only = λ e q. ((first_only i b e).0, number_at i b);
        survivor = λ _.
            record {
              sound = s.sound;
              typed = record { member = h.content.typed; sequencer = s.typed; past = s.past; counts = s.counts; replies = s.replies };
              invited = s.invited;
              size = ap (λ (g : description.Group). g.n) h.seat.group_is;
              resilient = ap (λ (g : description.Group). g.resilience) h.seat.group_is;
              itself = h.seat.number_is;
              remembers = (let z = h.content.taken_le in let q : t.member.taken.0 ≡ 0 = omega arith in subst (λ (k : ℕ). Remembers k t.kept []) (sym q) (fresh_remembers []));
              serving = λ e.
                  let x = (first_only i b (both_first t.sequencing _ e)).1 in
                  let top : s0.top.0 ≡ 0 = first_inv.top_is in
                  subst (λ (y : Sequencer). SequencerInv y.group y (list.take y.top.0 [])) (sym x)
                  (subst (λ (k : ℕ). SequencerInv s0.group s0 (list.take k [])) (sym top) (subst (λ (g : description.Group). SequencerInv g s0 []) (sym first_inv.group_is) first_inv));
              reach_le = let z = reach_most h.content in omega arith;
              floor_low = λ e.
                  let x = (first_only i b (both_first t.sequencing _ e)).1 in
                  subst (λ (y : Sequencer). Low n resilience c0 0 at0 y.floor.0) (view0 ∙ sym x) (seen_floor group 0 _ (λ j. member_of group 0 (at0 j)) [] (λ j. []) (λ j. []) (λ j. []) [] seen0);
              read_low = λ j e. omega arith;
              calm = λ _ _. refl;
              under_is = λ q. absurd (q (number_at i b));
              foreign = λ q. absurd (q (number_at i b));
              waits = λ q. absurd (q (number_at i b));
              reply_le = λ q. absurd (q (number_at i b));
              awake = λ e _. let x = first_only i b e in (x.0, ap (λ (y : Sequencer). y.group.number) x.1 ∙ number_is);
              present = λ e _. s.sequencing_is ∙ eq-eqb i 0 e;
              wakes = λ _ _ _. refl;
              cut_is = λ _ q. absurd (q (number_at i b));
            };
      }

  pub fresh_led : Led n number resilience 0 (fresh n number resilience)
  unfolding fresh course_from gather
  fresh_led =
      record {
        size = terminals_length n number resilience 0 n;
        holds =
            record {
              cut = 0;
              under = number;
              lost = λ j. [];
              known = [];
              seen = seen0;
              line_le = omega arith;
              cut_le = omega arith;
              number_used = inl refl;
              attempt_used = inl refl;
              used_fit = (o.fits, tt);
              sits = λ i b. subst (Sits n resilience c0 number 0 (Low n resilience c0 0 at0) i) (sym (fresh_at i b)) (sits0 i b);
              initiates = λ d. absurd (d refl);
              opened = λ d. absurd (d refl);
              shut = λ _. subst (λ (t : Terminal). t.reset.inviting ≡ false) (sym (fresh_at 0 low_n)) refl;
              floors = tt;
              covered = tt;
            };
      }

-- what the limit asks of an event
pub asked : (n number resilience line : ℕ) (w : World) (v : Led n number resilience line w) (e : Event) → Allowed w (course_in n number w) e → MakesNone w e
    → Asked n resilience line (course_in n number w) w.group (λ j. taken j w.log) (λ j. submitted_in j w.log) v.size v.holds e
unfolding Allowed
asked n number resilience line w v (submit i p) a m = tt
asked n number resilience line w v (repeat i) a m = tt
asked n number resilience line w v (take i) a m = tt
asked n number resilience line w v (status i) a m = tt
asked n number resilience line w v (poll i) a m = tt
asked n number resilience line w v (copy i k) a m = tt
asked n number resilience line w v (hand_member k i) a m = a
asked n number resilience line w v (hand_sequencer k i) a m = tt
asked n number resilience line w v (invite i k) a m = a
asked n number resilience line w v (make i demand) a m = m

module _ (n number resilience line : ℕ) (w : World) (v : Led n number resilience line w) where
  abbrev c : Course
  c = course_in n number w

  -- one that makes no group
  pub step_led : (e : Event) → Allowed w c e → MakesNone w e → Led n number resilience line (step w e)
  step_led e a m =
      let x : Entry = record { event = e; answer = (happen w.group e).answer } in
      let d = step_next n resilience line c w.group (λ j. taken j w.log) (λ j. submitted_in j w.log) v.size v.holds e (asked n number resilience line w v e a m) in
      record {
        size = d.size;
        holds =
            subst (λ (y : Course). Inv n resilience line y (terminal_at (step w e).group) (step w e).group.packets (λ j. taken j (step w e).log) (λ j. submitted_in j (step w e).log)) (sym (course_snoc (opened n number) w.log x))
            (inv_same n resilience line (course_of c e (happen w.group e).answer) (terminal_at (step w e).group) (terminal_at (step w e).group) (step w e).group.packets _ _ _ _ (λ j. refl) (λ j. gather_snoc _ w.log x) (λ j. gather_snoc _ w.log x) d.holds);
      }

  -- a making
  module _ (i demand : ℕ) (allowed : c.initiator ≡ i) (sent : is_sent (happen w.group (make i demand)).answer ≡ true) where
    pub made_next : MadeNext n resilience line c w.group (λ j. taken j w.log) (λ j. submitted_in j w.log) v.size v.holds i demand (happen w.group (make i demand))
    made_next = make_sent n resilience line c w.group (λ j. taken j w.log) (λ j. submitted_in j w.log) v.size v.holds i demand allowed sent

    abbrev after : World
    after = step w (make i demand)

    pub made_course : course_in n number after ≡ made_from c (cut_of (terminal_at w.group i).reset) (terminal_at w.group i).reset.repliers (chosen_of (terminal_at w.group i).reset).0
    made_course = course_snoc (opened n number) w.log (record { event = make i demand; answer = (happen w.group (make i demand)).answer }) ∙ made_next.course_is

    pub make_led : Led n number resilience (cut_of (terminal_at w.group i).reset) after
    unfolding took_at submitted_at
    make_led =
        let x : Entry = record { event = make i demand; answer = (happen w.group (make i demand)).answer } in
        let last : ℕ = cut_of (terminal_at w.group i).reset in
        record {
          size = made_next.size_of;
          holds =
              subst (λ (y : Course). Inv n resilience last y (terminal_at after.group) after.group.packets (λ j. taken j after.log) (λ j. submitted_in j after.log)) (sym made_course)
              (inv_same n resilience last _ (terminal_at after.group) (terminal_at after.group) after.group.packets (λ j. taken j w.log) _ (λ j. submitted_in j w.log) _ (λ j. refl)
              (λ j. gather_snoc _ w.log x ∙ append-nil (taken j w.log)) (λ j. gather_snoc _ w.log x ∙ append-nil (submitted_in j w.log)) made_next.next_holds);
        }

-- any allowed event
pub any_led : (n number resilience line : ℕ) (w : World) → Led n number resilience line w → (e : Event) → Allowed w (course_in n number w) e → (line' : ℕ) × Led n number resilience line' (step w e)
unfolding Allowed
any_led n number resilience line w v (submit i p) a = (line, step_led n number resilience line w v (submit i p) a tt)
any_led n number resilience line w v (repeat i) a = (line, step_led n number resilience line w v (repeat i) a tt)
any_led n number resilience line w v (take i) a = (line, step_led n number resilience line w v (take i) a tt)
any_led n number resilience line w v (status i) a = (line, step_led n number resilience line w v (status i) a tt)
any_led n number resilience line w v (poll i) a = (line, step_led n number resilience line w v (poll i) a tt)
any_led n number resilience line w v (copy i k) a = (line, step_led n number resilience line w v (copy i k) a tt)
any_led n number resilience line w v (hand_member k i) a = (line, step_led n number resilience line w v (hand_member k i) a tt)
any_led n number resilience line w v (hand_sequencer k i) a = (line, step_led n number resilience line w v (hand_sequencer k i) a tt)
any_led n number resilience line w v (invite i k) a = (line, step_led n number resilience line w v (invite i k) a tt)
any_led n number resilience line w v (make i demand) a = go (is_sent (happen w.group (make i demand)).answer) refl
  where
    go : (x : Bool) → is_sent (happen w.group (make i demand)).answer ≡ x → (line' : ℕ) × Led n number resilience line' (step w (make i demand))
    go true e = (cut_of (terminal_at w.group i).reset, make_led n number resilience line w v i demand a e)
    go false e = (line, step_led n number resilience line w v (make i demand) a (λ q. false≢true (sym e ∙ q)))

-- any allowed list
pub run_led : (n number resilience line : ℕ) (w : World) → Led n number resilience line w → (es : List Event) → Orderly n number w es → (line' : ℕ) × Led n number resilience line' (run w es)
unfolding run Orderly
run_led n number resilience line w v [] h = (line, v)
run_led n number resilience line w v (e ∷ es) h = let x = any_led n number resilience line w v e h.0 in run_led n number resilience x.0 (step w e) x.1 es h.1

-- what a survivor took begins the order
pub taken_begins : TakenBegins
taken_begins n number resilience o events orderly i inside =
    let w : World = run (fresh n number resilience) events in
    let x = run_led n number resilience 0 (fresh n number resilience) (fresh_led n number resilience o) events orderly in
    let h = (x.1.holds.seen.terminal i inside).content in
    let size = ap length h.took_is ∙ length-take-le _ (course_in n number w).order h.taken_le in
    let le = h.taken_le in
    record {
      fits = omega arith;
      is = ap (λ (k : ℕ). list.take k (course_in n number w).order) size ∙ sym h.took_is;
    }
