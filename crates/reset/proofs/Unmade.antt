-- A world in which no group was made is a group of `model`, from a fresh one on. Assumes nothing.
use mathlib.Core.Path.{◌≡◌, refl, sym, ap, ◌∙◌, subst}
use mathlib.Core.Bool.{Bool, true, false, false≢true}
use mathlib.Core.Option.{Option, none, some}
use mathlib.Core.List.{List, [], ◌∷◌, ◌++◌, append-nil}
use Prim.Native.Nat.{ℕ, ◌+◌, ◌≤◌, ◌<◌}
use native.Mathlib.Omega.{arith}
use borrow.Author.Tests.{le-ltb, eq-eqb}
use lib.ListN.{length, get_or, replicate, get_elem?, length-replicate, get_or-replicate, get_or-eq_default}
use lib.Pow.{pow_pos}
use Rattle.group.proofs.Choice.{when_true, when_false, both_hold, first_fails}
use Rattle.group.proofs.Fold.{at_all}
use Rattle.group.proofs.Lists.{when_elim, le_or}
use Rattle.group.proofs.Members.{in_all, in_zero}
use Rattle.group.specs.Choice.{when◌then◌else◌, ◌and◌, ◌<?◌, ◌=?◌}
use Rattle.group.specs.Limits.{members_most, places_most}
use Rattle.group.specs.Members.{is_in, all_of}
use Rattle.group.specs.Opening.{description_of}
use Rattle.group.specs.declared.Group as description
use Rattle.history.specs.State.{Acknowledgement, no_acknowledgement}
use Rattle.message.proofs.Kept.{empty_zero}
use Rattle.message.specs.Message.{empty_message, blank, is_empty}
use Rattle.message.specs.Order.{Ordered}
use Rattle.member.proofs.Soundness as memberSoundness
use Rattle.member.specs.State.{Member}
use Rattle.model.proofs.Invariant.{Inv}
use Rattle.model.proofs.Step.{gather_snoc, fresh_inv}
use Rattle.model.specs.Claim.{Opens}
use Rattle.model.specs.Log.{gather, numbered_in}
use Rattle.model.specs.World as model
use Rattle.model.specs.World.{Answer, absent}
use Rattle.sequencer.specs.Calls as sequencer
use Rattle.sequencer.specs.Laws as sequencerLaws
use Rattle.sequencer.specs.Sound as sequencerCalls
use Rattle.sequencer.specs.State.{fresh_sequencer}
use Rattle.recovery.proofs.Holding.{no_mark}
use Rattle.recovery.proofs.Keeping.{of_sound}
use Rattle.recovery.specs.Calls.{fresh_terminal}
use Rattle.recovery.specs.Sound.{zero_sequencer, sequencer_sound}
use Rattle.recovery.specs.State.{Terminal, no_sequencer}
use Rattle.reset.specs.Claim.{Unmade, begun, next, MakesNone}
use Rattle.reset.specs.Course.{Course, opened, is_sent, course_of, course_from, course_in, submitted_at, taken, Allowed}
use Rattle.reset.specs.World.{Event, submit, repeat, take, status, poll, copy, hand_member, hand_sequencer, invite, make, Entry, Group, Happened, happen, missing, terminal_at, hand_to_sequencer, World, step, no_terminal, fresh_terminals, fresh}
use Rattle.reset.proofs.Before.{when_either, ordered_by, Asked, step_next, inv_ext}
use Rattle.reset.proofs.First.{Stands, Rel}
use Rattle.reset.proofs.Same.{Quiet, no_reset_lem, fresh_quiet, terminals_length, members_length, terminals_at}

-- what was submitted so far
abbrev pub submitted_in : ℕ → List Entry → List (List ℕ)
submitted_in i log = gather (λ entry. submitted_at i entry.event entry.answer) log

pub course_snoc : (c : Course) (l : List Entry) (x : Entry) → course_from c (l ++ (x ∷ [])) ≡ course_of (course_from c l) x.event x.answer
unfolding course_from
course_snoc c [] x = refl
course_snoc c (y ∷ l) x = course_snoc (course_of c y.event y.answer) l x

-- a call that was answered otherwise than Sent
not_sent : (b : Bool) → (b ≡ true → ⊥) → b ≡ false
not_sent true f = absurd (f refl)
not_sent false f = refl

numbered_absent : numbered_in absent ≡ []
unfolding numbered_in
numbered_absent = refl

-- making no group does not depend on the log
same_none : (w : World) (e : Event) → MakesNone w e → MakesNone (record { group = w.group; log = [] }) e
same_none w (submit i p) m = tt
same_none w (repeat i) m = tt
same_none w (take i) m = tt
same_none w (status i) m = tt
same_none w (poll i) m = tt
same_none w (copy i k) m = tt
same_none w (hand_member k i) m = tt
same_none w (hand_sequencer k i) m = tt
same_none w (invite i k) m = tt
same_none w (make i demand) m = m

-- the course with an event, where all survive and no group is made
module _ (n : ℕ) (w : Group) (size : length w.terminals ≡ n) (c : Course) (all-survive : c.survivors ≡ all_of n) where
  beyond : (k i : ℕ) → n ≤ i → (happen w (hand_sequencer k i)).answer ≡ absent
  unfolding happen
  beyond k i h = go (get_elem? w.packets k)
    where
      out : (i <? length w.terminals) ≡ false
      out = le-ltb i (length w.terminals) (omega arith)

      go : (x : Option (List ℕ)) → (hand_to_sequencer w i x).answer ≡ absent
      go none = refl
      go (some p) = ap (λ (d : Happened). d.answer) (sym (when_false (i <? length w.terminals and (terminal_at w i).sequencing) (missing w) _ (missing w) (first_fails (i <? length w.terminals) _ out) refl))

  course_order : (e : Event) → MakesNone (record { group = w; log = [] }) e → (course_of c e (happen w e).answer).order ≡ c.order ++ ordered_by e (happen w e).answer
  unfolding course_of ordered_by
  course_order (submit i p) m = sym (append-nil c.order)
  course_order (repeat i) m = sym (append-nil c.order)
  course_order (take i) m = sym (append-nil c.order)
  course_order (status i) m = sym (append-nil c.order)
  course_order (poll i) m = sym (append-nil c.order)
  course_order (copy i k) m = sym (append-nil c.order)
  course_order (hand_member k i) m = sym (append-nil c.order)
  course_order (hand_sequencer k i) m =
      let a = (happen w (hand_sequencer k i)).answer in
      le_or n i
      (λ h. ap (λ (x : Answer). c.order ++ (when is_in c.survivors i then numbered_in x else [])) (beyond k i h) ∙ ap (λ (l : List Ordered). c.order ++ l) (nothing (is_in c.survivors i)) ∙ sym (ap (λ (x : Answer). c.order ++ numbered_in x) (beyond k i h) ∙ ap (λ (l : List Ordered). c.order ++ l) absent_none))
      (λ h. ap (λ (l : List Ordered). c.order ++ l) (sym (when_true (is_in c.survivors i) (numbered_in a) _ _ (subst (λ (s : ℕ). is_in s i ≡ true) (sym all-survive) (in_all n i h)) refl)))
    where
      absent_none : numbered_in absent ≡ []
      absent_none = numbered_absent

      nothing : (b : Bool) → (when b then numbered_in absent else []) ≡ []
      nothing b = ap (λ (l : List Ordered). when b then l else []) numbered_absent ∙ when_either b []
  course_order (invite i k) m =
      when_elim (λ (x : Course). x.order ≡ c.order ++ []) (is_sent (happen w (invite i k)).answer) (λ _. sym (append-nil c.order)) (λ _. sym (append-nil c.order))
  course_order (make i demand) m =
      when_elim (λ (x : Course). x.order ≡ c.order ++ []) (is_sent (happen w (make i demand)).answer) (λ e. absurd (m e)) (λ _. sym (append-nil c.order))

  course_survivors : (e : Event) → MakesNone (record { group = w; log = [] }) e → ((course_of c e (happen w e).answer).survivors ≡ c.survivors) × ((course_of c e (happen w e).answer).elected ≡ c.elected)
  unfolding course_of
  course_survivors (submit i p) m = (refl, refl)
  course_survivors (repeat i) m = (refl, refl)
  course_survivors (take i) m = (refl, refl)
  course_survivors (status i) m = (refl, refl)
  course_survivors (poll i) m = (refl, refl)
  course_survivors (copy i k) m = (refl, refl)
  course_survivors (hand_member k i) m = (refl, refl)
  course_survivors (hand_sequencer k i) m = (refl, refl)
  course_survivors (invite i k) m =
      when_elim (λ (x : Course). (x.survivors ≡ c.survivors) × (x.elected ≡ c.elected)) (is_sent (happen w (invite i k)).answer) (λ _. (refl, refl)) (λ _. (refl, refl))
  course_survivors (make i demand) m =
      when_elim (λ (x : Course). (x.survivors ≡ c.survivors) × (x.elected ≡ c.elected)) (is_sent (happen w (make i demand)).answer) (λ e. absurd (m e)) (λ _. (refl, refl))

-- such a world
pub record Begun (n number resilience : ℕ) (w : World) : Type 0 where
  pub after : model.Group
  pub holds : Inv (description_of n number resilience) after (course_in n number w).order (λ j. taken j w.log) (λ j. submitted_in j w.log)
  pub like : Rel n number w.group after
  pub survivors_are : (course_in n number w).survivors ≡ all_of n
  pub elected_is : (course_in n number w).elected ≡ 0

-- what the limit asks of an event
asked : (n number resilience : ℕ) (o : Opens n number resilience) (w : World) (v : Begun n number resilience w) (e : Event) → Allowed w (course_in n number w) e → MakesNone w e
    → Asked n number resilience o w.group v.after (course_in n number w).order (λ j. taken j w.log) (λ j. submitted_in j w.log) v.holds v.like e
unfolding Allowed
asked n number resilience o w v (submit i p) a m = tt
asked n number resilience o w v (repeat i) a m = tt
asked n number resilience o w v (take i) a m = tt
asked n number resilience o w v (status i) a m = tt
asked n number resilience o w v (poll i) a m = tt
asked n number resilience o w v (copy i k) a m = tt
asked n number resilience o w v (hand_member k i) a m = tt
asked n number resilience o w v (hand_sequencer k i) a m = tt
asked n number resilience o w v (invite i k) a m = a.2
asked n number resilience o w v (make i demand) a m = m

next_begun : (n number resilience : ℕ) (o : Opens n number resilience) (w : World) → Begun n number resilience w → (e : Event) → Allowed w (course_in n number w) e → MakesNone w e
    → Begun n number resilience (step w e)
next_begun n number resilience o w v e a m =
    let c : Course = course_in n number w in
    let x : Entry = record { event = e; answer = (happen w.group e).answer } in
    let snoc : course_in n number (step w e) ≡ course_of c e (happen w.group e).answer = course_snoc (opened n number) w.log x in
    let d = step_next n number resilience o w.group v.after c.order (λ j. taken j w.log) (λ j. submitted_in j w.log) v.holds v.like e (asked n number resilience o w v e a m) in
    let size = v.like.size in
    let s = course_survivors n w.group size c v.survivors_are e (same_none w e m) in
    record {
      after = d.after;
      holds =
          inv_ext (description_of n number resilience) d.after _ _ _ _ _ _ (ap (λ (y : Course). y.order) snoc ∙ course_order n w.group size c v.survivors_are e (same_none w e m))
          (λ j. gather_snoc _ w.log x) (λ j. gather_snoc _ w.log x) d.holds;
      like = d.like;
      survivors_are = ap (λ (y : Course). y.survivors) snoc ∙ s.0 ∙ v.survivors_are;
      elected_is = ap (λ (y : Course). y.elected) snoc ∙ s.1 ∙ v.elected_is;
    }

-- a terminal without a sequencer has one that is all zero
zero_none : zero_sequencer no_sequencer ≡ true
unfolding zero_sequencer fresh_sequencer when◌then◌else◌
zero_none =
    both_hold _ _ (at_all (λ i a. a.taken.0 =? 0 and a.count =? 0 and a.repeats =? 0) no_acknowledgement (replicate members_most no_acknowledgement)
    (λ i h. rw (get_or-replicate members_most i no_acknowledgement no_acknowledgement (rw (length-replicate members_most no_acknowledgement) at h))))
    (both_hold _ _ (at_all (λ i m. is_empty m) blank (replicate places_most empty_message)
    (λ i h. ap is_empty (get_or-replicate places_most i empty_message blank (rw (length-replicate places_most empty_message) at h)) ∙ empty_zero))
    (at_all (λ i mark. mark =? 0) 0 (replicate places_most 0) (λ i h. rw (get_or-replicate {A = ℕ} places_most i 0 0 (rw (length-replicate {A = ℕ} places_most 0) at h)))))

no_entry : (i : ℕ) → get_or (replicate members_most no_acknowledgement) i no_acknowledgement ≡ no_acknowledgement
no_entry i = le_or members_most i (λ l. get_or-eq_default (replicate members_most no_acknowledgement) no_acknowledgement {n = i} l) (λ l. get_or-replicate members_most i no_acknowledgement no_acknowledgement l)

none_typed : sequencerLaws.Typed no_sequencer
unfolding fresh_sequencer
none_typed =
    record {
      group = omega arith;
      top = omega arith;
      accepted = omega arith;
      table = length-replicate members_most no_acknowledgement;
      history = length-replicate places_most empty_message;
      counts = λ i. let z = ap (λ (a : Acknowledgement). a.count) (no_entry i) in omega arith;
      repeats = λ i. let z = ap (λ (a : Acknowledgement). a.repeats) (no_entry i) in omega arith;
      marks = length-replicate {A = ℕ} places_most 0;
      masks = λ i. let z = no_mark i in let p = pow_pos members_most in omega arith;
    }

-- a fresh world
module _ (n number resilience : ℕ) (o : Opens n number resilience) where
  abbrev group : description.Group
  group = description_of n number resilience

  abbrev g0 : model.Group
  g0 = (model.fresh n number resilience).group

  pub start : Inv group g0 [] (λ j. []) (λ j. [])
  unfolding model.fresh gather
  start = fresh_inv n number resilience o

  module _ (i : ℕ) (b : i < n) where
    abbrev t : Terminal
    t = fresh_terminal n number resilience i

    abbrev m : Member
    m = get_or (model.fresh_members n number resilience 0 n) i model.no_member

    q : Quiet i t m (sequencer.fresh_of n number resilience).sequencer
    q = fresh_quiet n number resilience o i b

    h_sound : memberSoundness.Sound m
    unfolding model.fresh
    h_sound = memberSoundness.sound_of_lem m (start.terminal i b).content.sound

    size_is : t.member.group.n ≡ n
    unfolding model.fresh
    size_is = ap (λ (x : Member). x.group.n) q.member_is ∙ ap (λ (x : description.Group). x.n) (start.terminal i b).seat.group_is

    first_sound : sequencerCalls.sound_of (sequencer.fresh_of n number resilience).sequencer ≡ true
    unfolding model.fresh
    first_sound = start.sequencer.sound

    first_size : (sequencer.fresh_of n number resilience).sequencer.group.n ≡ n
    unfolding model.fresh
    first_size = ap (λ (x : description.Group). x.n) start.sequencer.group_is

    first_typed : sequencerLaws.Typed (sequencer.fresh_of n number resilience).sequencer
    unfolding model.fresh
    first_typed = start.sequencer.typed

    seats : (x : Bool) → (i =? 0) ≡ x → (sequencer_sound t ≡ true) × sequencerLaws.Typed t.sequencer
    unfolding sequencer_sound when◌then◌else◌
    seats true e = rw e (both_hold (sequencerCalls.sound_of (sequencer.fresh_of n number resilience).sequencer) _ first_sound (eq-eqb _ _ (first_size ∙ sym size_is)), first_typed)
    seats false e = rw e (both_hold (zero_sequencer no_sequencer) _ zero_none refl, none_typed)

    pub fresh_stands : Stands i t m (sequencer.fresh_of n number resilience).sequencer
    fresh_stands =
        record {
          member_is = q.member_is;
          sound =
              of_sound t
              (record {
                member = rw q.member_is h_sound;
                kept = rw q.member_is q.kept;
                reset = no_reset_lem t.member;
                sequencer = (seats (i =? 0) refl).0;
                number_is = λ f. absurd (false≢true f);
                freezes = λ f. absurd (false≢true f);
              });
          past = q.past;
          counts = q.counts;
          replies = length-replicate {A = ℕ} members_most 0;
          invited = omega arith;
          typed = (seats (i =? 0) refl).1;
          sequencing_is = refl;
          sequencer_is = q.sequencer_is;
        }

  fresh_begun : Begun n number resilience (fresh n number resilience)
  unfolding fresh model.fresh course_from gather
  fresh_begun =
      record {
        after = g0;
        holds = start;
        like =
            record {
              size = terminals_length n number resilience 0 n;
              members = members_length n number resilience 0 n;
              each = λ i b.
                  let z : 0 + i ≡ i = omega arith in
                  let e : get_or (fresh_terminals n number resilience 0 n) i no_terminal ≡ fresh_terminal n number resilience i =
                  terminals_at n number resilience 0 n i b ∙ ap (λ (x : ℕ). fresh_terminal n number resilience x) z in
                  subst (λ (x : Terminal). Stands i x (get_or (model.fresh_members n number resilience 0 n) i model.no_member) (sequencer.fresh_of n number resilience).sequencer) (sym e) (fresh_stands i b);
              covered = tt;
              recorded = λ i j b e.
                  let z : 0 + i ≡ i = omega arith in
                  let q : get_or (fresh_terminals n number resilience 0 n) i no_terminal ≡ fresh_terminal n number resilience i =
                  terminals_at n number resilience 0 n i b ∙ ap (λ (x : ℕ). fresh_terminal n number resilience x) z in
                  absurd (in_zero j (subst (λ (x : Terminal). is_in x.reset.repliers j ≡ true) q e));
            };
        survivors_are = refl;
        elected_is = refl;
      }

pub unmade_begun : (n number resilience : ℕ) → Opens n number resilience → (w : World) → Unmade n number resilience w → Begun n number resilience w
unmade_begun n number resilience o w begun = fresh_begun n number resilience o
unmade_begun n number resilience o w (next {w = w'} u e a m) = next_begun n number resilience o w' (unmade_begun n number resilience o w' u) e a m
