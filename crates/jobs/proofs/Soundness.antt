-- What a sound list is, record by record and for two records at a time, where past its end a list is read as unused: the test of
-- question 1 says that, and follows from it. Assumes nothing.
use mathlib.Core.Path.{◌≡◌, refl, sym, ap, ◌∙◌}
use mathlib.Core.Logic.{◌≢◌}
use mathlib.Core.Bool.{Bool, true}
use mathlib.Core.List.{List}
use Prim.Native.Nat.{ℕ, ◌<◌}
use native.Mathlib.Omega.{arith}
use borrow.Author.Tests.{lt-ltb, eq-eqb, ne_eqb, ltb-true, eqb-true, eqb-false}
use lib.ListN.{length, drop, get_or, get_or-eq_default}
use Rattle.group.specs.Choice.{when◌then◌else◌, ◌and◌, ◌<?◌, ◌≤?◌, ◌=?◌}
use Rattle.group.specs.Fold.{all}
use Rattle.group.specs.Limits.{jobs_most, job_most}
use Rattle.group.proofs.Choice.{both_hold, both_first, both_then}
use Rattle.group.proofs.Fold.{all_at, at_all}
use Rattle.group.proofs.Lists.{when_elim, eq_or, le_or}
use Rattle.message.specs.Message.{all_zero}
use Rattle.jobs.specs.Job.{unused_state, given_state, no_job, is_of, place_of}
use Rattle.jobs.specs.Sound.{holder_sound, job_sound, place_sound, record_sound, sound_of}
use Rattle.jobs.specs.declared.Job.{Job}
use Rattle.jobs.proofs.Places.{place_has, place_least}

abbrev pub record_at : List Job → ℕ → Job
record_at jobs i = get_or jobs i no_job

pub record Sound (jobs : List Job) : Type 0 where
  pub size : length jobs ≡ jobs_most
  pub each : (i : ℕ) → job_sound (record_at jobs i) ≡ true
  -- used ones first
  pub first : (i j : ℕ) → j < i → (record_at jobs i).state ≢ unused_state → (record_at jobs j).state ≢ unused_state
  -- no member with two
  pub alone : (i j : ℕ) → (record_at jobs i).state ≡ given_state → (record_at jobs j).state ≡ given_state → (record_at jobs i).member.0 ≡ (record_at jobs j).member.0 → i ≡ j

-- ---- one record
pub is_of_lem : (state member : ℕ) (job : Job) → job.state ≡ state → job.member.0 ≡ member → is_of state member job ≡ true
unfolding is_of
is_of_lem state member job s m = both_hold (job.state =? state) (job.member.0 =? member) (eq-eqb job.state state s) (eq-eqb job.member.0 member m)

pub of_is : (state member : ℕ) (job : Job) → is_of state member job ≡ true → (job.state ≡ state) × (job.member.0 ≡ member)
unfolding is_of
of_is state member job e =
    (eqb-true job.state state (both_first (job.state =? state) (job.member.0 =? member) e), eqb-true job.member.0 member (both_then (job.state =? state) (job.member.0 =? member) e))

pub no_job_unused : no_job.state ≡ unused_state
unfolding no_job
no_job_unused = refl

pub no_job_sound : job_sound no_job ≡ true
unfolding job_sound holder_sound no_job all_zero when◌then◌else◌
no_job_sound = refl

-- an unused record has no member
pub unused_member : (job : Job) → job_sound job ≡ true → job.state ≡ unused_state → job.member.0 ≡ 0
unfolding job_sound holder_sound when◌then◌else◌
unused_member job e u =
    let h : holder_sound job ≡ true = both_first (holder_sound job) (job.length ≤? job_most and all_zero (drop job.length job.bytes)) e in
    let z : (job.member.0 =? 0 and job.length =? 0) ≡ true = rw (eq-eqb job.state unused_state u) at h in
    eqb-true job.member.0 0 (both_first (job.member.0 =? 0) (job.length =? 0) z)

-- past the end a record is unused: one that is used stands within the list
pub used_inside : (jobs : List Job) (i : ℕ) → (record_at jobs i).state ≢ unused_state → i < length jobs
used_inside jobs i u = le_or (length jobs) i (λ h. absurd (u (ap (λ (j : Job). j.state) (get_or-eq_default jobs no_job h) ∙ no_job_unused))) (λ h. h)

pub given_used : (job : Job) → job.state ≡ given_state → job.state ≢ unused_state
given_used job g u = let z : given_state ≡ unused_state = sym g ∙ u in omega arith

-- ---- one place
module _ (jobs : List Job) (place : ℕ) (job : Job) where
  used_sound : (when job.state =? unused_state then true else (place <? place_of unused_state 0 jobs and (when job.state =? given_state then place_of given_state job.member.0 jobs =? place else true))) ≡ true
      → job.state ≢ unused_state → place <? place_of unused_state 0 jobs and (when job.state =? given_state then place_of given_state job.member.0 jobs =? place else true) ≡ true
  unfolding when◌then◌else◌
  used_sound e u = rw (ne_eqb job.state unused_state u) at e

  place_first : place_sound jobs place job ≡ true → job.state ≢ unused_state → place < place_of unused_state 0 jobs
  unfolding place_sound
  place_first e u = ltb-true place (place_of unused_state 0 jobs) (both_first (place <? place_of unused_state 0 jobs) _ (used_sound e u))

  place_alone : place_sound jobs place job ≡ true → job.state ≡ given_state → place_of given_state job.member.0 jobs ≡ place
  unfolding place_sound when◌then◌else◌
  place_alone e g =
      let z = both_then (place <? place_of unused_state 0 jobs) _ (used_sound e (given_used job g)) in
      eqb-true (place_of given_state job.member.0 jobs) place (rw (eq-eqb job.state given_state g) at z)

  place_sound_lem : (job.state ≢ unused_state → place < place_of unused_state 0 jobs) → (job.state ≡ given_state → place_of given_state job.member.0 jobs ≡ place) → place_sound jobs place job ≡ true
  unfolding place_sound
  place_sound_lem first alone =
      eq_or job.state unused_state
      (λ u. when_elim (λ (t : Bool). t ≡ true) (job.state =? unused_state) (λ t. refl) (λ f. absurd (eqb-false job.state unused_state f u)))
      (λ u. when_elim (λ (t : Bool). t ≡ true) (job.state =? unused_state) (λ t. refl)
      (λ f. both_hold (place <? place_of unused_state 0 jobs) _ (lt-ltb place (place_of unused_state 0 jobs) (first u))
      (when_elim (λ (t : Bool). t ≡ true) (job.state =? given_state)
      (λ t. eq-eqb (place_of given_state job.member.0 jobs) place (alone (eqb-true job.state given_state t))) (λ f. refl))))

-- ---- the list
pub sound_of_lem : (jobs : List Job) → sound_of jobs ≡ true → Sound jobs
unfolding sound_of record_sound
sound_of_lem jobs e = record { size = size; each = each; first = first; alone = alone }
  where
    size : length jobs ≡ jobs_most
    size = eqb-true (length jobs) jobs_most (both_first (length jobs =? jobs_most) (all (record_sound jobs) 0 jobs) e)

    inside : (i : ℕ) → i < length jobs → job_sound (record_at jobs i) and place_sound jobs i (record_at jobs i) ≡ true
    inside i h = all_at (record_sound jobs) no_job jobs (both_then (length jobs =? jobs_most) (all (record_sound jobs) 0 jobs) e) i h

    each : (i : ℕ) → job_sound (record_at jobs i) ≡ true
    each i =
        le_or (length jobs) i (λ h. ap job_sound (get_or-eq_default jobs no_job h) ∙ no_job_sound)
        (λ h. both_first (job_sound (record_at jobs i)) (place_sound jobs i (record_at jobs i)) (inside i h))

    placed : (i : ℕ) → (record_at jobs i).state ≢ unused_state → place_sound jobs i (record_at jobs i) ≡ true
    placed i u = both_then (job_sound (record_at jobs i)) (place_sound jobs i (record_at jobs i)) (inside i (used_inside jobs i u))

    first : (i j : ℕ) → j < i → (record_at jobs i).state ≢ unused_state → (record_at jobs j).state ≢ unused_state
    first i j h u v =
        let b = place_first jobs i (record_at jobs i) (placed i u) u in
        let n = used_inside jobs i u in
        let l = place_least unused_state 0 no_job jobs j (omega arith) (is_of_lem unused_state 0 (record_at jobs j) v (unused_member (record_at jobs j) (each j) v)) in
        omega arith

    alone : (i j : ℕ) → (record_at jobs i).state ≡ given_state → (record_at jobs j).state ≡ given_state → (record_at jobs i).member.0 ≡ (record_at jobs j).member.0 → i ≡ j
    alone i j s t e' =
        let p = place_alone jobs i (record_at jobs i) (placed i (given_used (record_at jobs i) s)) s in
        let q = place_alone jobs j (record_at jobs j) (placed j (given_used (record_at jobs j) t)) t in
        sym p ∙ ap (λ (m : ℕ). place_of given_state m jobs) e' ∙ q

pub of_sound : (jobs : List Job) → Sound jobs → sound_of jobs ≡ true
unfolding sound_of record_sound
of_sound jobs s =
    both_hold (length jobs =? jobs_most) (all (record_sound jobs) 0 jobs) (eq-eqb (length jobs) jobs_most s.size)
    (at_all (record_sound jobs) no_job jobs
    (λ i h. both_hold (job_sound (record_at jobs i)) (place_sound jobs i (record_at jobs i)) (s.each i) (place_sound_lem jobs i (record_at jobs i) (first i h) (alone i h))))
  where
    -- the record at the first unused place is unused, so that no used one stands at it or behind it
    first : (i : ℕ) → i < length jobs → (record_at jobs i).state ≢ unused_state → i < place_of unused_state 0 jobs
    first i h u =
        le_or (place_of unused_state 0 jobs) i
        (λ l. let z : (record_at jobs (place_of unused_state 0 jobs)).state ≡ unused_state = (of_is unused_state 0 _ (place_has unused_state 0 no_job jobs (omega arith))).0 in
        absurd (eq_or (place_of unused_state 0 jobs) i (λ e. u (ap (λ (k : ℕ). (record_at jobs k).state) (sym e) ∙ z)) (λ n. s.first i (place_of unused_state 0 jobs) (omega arith) u z)))
        (λ l. l)

    alone : (i : ℕ) → i < length jobs → (record_at jobs i).state ≡ given_state → place_of given_state (record_at jobs i).member.0 jobs ≡ i
    alone i h g =
        let m : ℕ = (record_at jobs i).member.0 in
        let l = place_least given_state m no_job jobs i h (is_of_lem given_state m (record_at jobs i) g refl) in
        let z = of_is given_state m _ (place_has given_state m no_job jobs (omega arith)) in
        s.alone (place_of given_state m jobs) i z.0 g z.1
