-- A sound list stays sound: when a record is put where it may stand, when a place closes up, and so with every feed.
-- Assumes nothing.
use mathlib.Core.Path.{◌≡◌, refl, sym, ap, ◌∙◌}
use mathlib.Core.Logic.{◌≢◌}
use mathlib.Core.Bool.{true}
use mathlib.Core.List.{List}
use Prim.Native.Nat.{ℕ, zero, suc, ◌+◌, ◌≤◌, ◌<◌}
use native.Mathlib.Omega.{arith}
use borrow.Author.Tests.{lt-ltb, le-leb, ltb-true, ltb-false}
use lib.ListN.{length, drop, set, replicate, length-set, length-drop, length-replicate, get_or-replicate, get_or-eq_default}
use lib.Seq.{drop_at, get_or-set_same, get_or-set_other}
use Rattle.group.specs.Choice.{when◌then◌else◌, ◌<?◌, ◌≤?◌}
use Rattle.group.specs.Limits.{members_most, jobs_most, job_most}
use Rattle.group.specs.declared.MemberNumber.{MemberNumber}
use Rattle.group.proofs.Choice.{when_lt, when_nlt, both_hold, both_then}
use Rattle.group.proofs.Lists.{when_elim, eq_or, le_or}
use Rattle.message.specs.Message.{all_zero}
use Rattle.jobs.specs.Feed.{is_fetch, for_list, refused, add_of, without_place, finish_of, give_of, form_of, feed_of}
use Rattle.jobs.specs.Job.{unused_state, waiting_state, given_state, no_job, no_jobs, waiting_job, given_to, place_of}
use Rattle.jobs.specs.Laws.{Keeps, FeedKeeps}
use Rattle.jobs.specs.Sound.{holder_sound, job_sound, sound_of}
use Rattle.jobs.specs.declared.Job.{Job}
use Rattle.jobs.specs.declared.Outcome.{Outcome}
use Rattle.jobs.proofs.Closing.{without_length, without_before, without_behind}
use Rattle.jobs.proofs.Forms.{for_list_adds, for_list_member}
use Rattle.jobs.proofs.Places.{place_has, place_least}
use Rattle.jobs.proofs.Soundness.{record_at, Sound, no_job_unused, no_job_sound, is_of_lem, of_is, unused_member, given_used, used_inside, sound_of_lem, of_sound}

-- ---- a record is put
module _ (jobs : List Job) (k : ℕ) (job : Job) (inside : k < length jobs) where
  put_here : (i : ℕ) → i ≡ k → record_at (set jobs k job) i ≡ job
  put_here i e = ap (record_at (set jobs k job)) e ∙ get_or-set_same jobs k job no_job inside

  put_else : (i : ℕ) → i ≢ k → record_at (set jobs k job) i ≡ record_at jobs i
  put_else i n = get_or-set_other jobs k i job no_job n

  -- it is used, all before it are, and no other record is given to its member
  put_sound : Sound jobs → job_sound job ≡ true → job.state ≢ unused_state
      → ((j : ℕ) → j < k → (record_at jobs j).state ≢ unused_state)
      → ((i : ℕ) → job.state ≡ given_state → (record_at jobs i).state ≡ given_state → (record_at jobs i).member.0 ≡ job.member.0 → ⊥)
      → Sound (set jobs k job)
  put_sound s sound used before free = record { size = length-set jobs k job ∙ s.size; each = each; first = first; alone = alone }
    where
      state : Job → ℕ
      state = λ r. r.state

      holder : Job → ℕ
      holder = λ r. r.member.0

      each : (i : ℕ) → job_sound (record_at (set jobs k job) i) ≡ true
      each i = eq_or i k (λ e. ap job_sound (put_here i e) ∙ sound) (λ n. ap job_sound (put_else i n) ∙ s.each i)

      first : (i j : ℕ) → j < i → (record_at (set jobs k job) i).state ≢ unused_state → (record_at (set jobs k job) j).state ≢ unused_state
      first i j h u v =
          eq_or j k (λ e. used (sym (ap state (put_here j e)) ∙ v))
          (λ n. eq_or i k (λ e. before j (omega arith) (sym (ap state (put_else j n)) ∙ v))
          (λ o. s.first i j h (λ w. u (ap state (put_else i o) ∙ w)) (sym (ap state (put_else j n)) ∙ v)))

      alone : (i j : ℕ) → (record_at (set jobs k job) i).state ≡ given_state → (record_at (set jobs k job) j).state ≡ given_state
          → (record_at (set jobs k job) i).member.0 ≡ (record_at (set jobs k job) j).member.0 → i ≡ j
      alone i j a b c =
          eq_or i k
          (λ e. eq_or j k (λ f. e ∙ sym f)
          (λ n. absurd (free j (sym (ap state (put_here i e)) ∙ a) (sym (ap state (put_else j n)) ∙ b) (sym (ap holder (put_else j n)) ∙ sym c ∙ ap holder (put_here i e)))))
          (λ n. eq_or j k
          (λ f. absurd (free i (sym (ap state (put_here j f)) ∙ b) (sym (ap state (put_else i n)) ∙ a) (sym (ap holder (put_else i n)) ∙ c ∙ ap holder (put_here j f))))
          (λ o. s.alone i j (sym (ap state (put_else i n)) ∙ a) (sym (ap state (put_else j o)) ∙ b) (sym (ap holder (put_else i n)) ∙ c ∙ ap holder (put_else j o))))

-- ---- the records that are put
zeros_behind : (n k : ℕ) → all_zero (drop n (replicate k 0)) ≡ true
unfolding all_zero when◌then◌else◌
zeros_behind zero zero = refl
zeros_behind zero (suc k) = zeros_behind zero k
zeros_behind (suc n) zero = refl
zeros_behind (suc n) (suc k) = zeros_behind n k

waiting_sound_lem : (bytes : List ℕ) → length bytes ≤ job_most → job_sound (waiting_job bytes) ≡ true
unfolding job_sound holder_sound waiting_job when◌then◌else◌
waiting_sound_lem bytes h =
    both_hold (length bytes ≤? job_most) _ (le-leb (length bytes) job_most h)
    (ap all_zero (drop_at bytes (drop (length bytes) (replicate job_most 0)) (length bytes) refl) ∙ zeros_behind (length bytes) job_most)

held_sound_lem : (m : MemberNumber) (job : Job) → m.0 < members_most → holder_sound (given_to m job) ≡ true
unfolding holder_sound given_to when◌then◌else◌
held_sound_lem m job h = lt-ltb m.0 members_most h

given_sound : (m : MemberNumber) (job : Job) → job_sound job ≡ true → m.0 < members_most → job_sound (given_to m job) ≡ true
unfolding job_sound given_to
given_sound m job e h = both_hold (holder_sound (given_to m job)) _ (held_sound_lem m job h) (both_then (holder_sound job) _ e)

pub add_sound : (jobs : List Job) (bytes : List ℕ) → Sound jobs → length bytes ≤ job_most → Sound (add_of jobs bytes).jobs
unfolding add_of refused waiting_job
add_sound jobs bytes s h =
    when_elim (λ (o : Outcome). Sound o.jobs) (place_of unused_state 0 jobs <? jobs_most)
    (λ t. let k : ℕ = place_of unused_state 0 jobs in
    let l = ltb-true k jobs_most t in
    let inside : k < length jobs = (let n = s.size in omega arith) in
    put_sound jobs k (waiting_job bytes) inside s (waiting_sound_lem bytes h) (λ u. absurd (let z : waiting_state ≡ unused_state = u in omega arith))
    (λ j b u. let z = place_least unused_state 0 no_job jobs j (omega arith) (is_of_lem unused_state 0 (record_at jobs j) u (unused_member (record_at jobs j) (s.each j) u)) in omega arith)
    (λ i g a c. absurd (let z : waiting_state ≡ given_state = g in omega arith)))
    (λ f. s)

-- ---- a place closes up
abbrev skip : ℕ → ℕ → ℕ
skip k i = when i <? k then i else i + 1

skip_or : {B : Type 0} (k i : ℕ) → (i < k → skip k i ≡ i → B) → (k ≤ i → skip k i ≡ i + 1 → B) → B
skip_or k i before behind = le_or k i (λ h. behind h (sym (when_nlt i k (i + 1) i (i + 1) h refl))) (λ h. before h (sym (when_lt i k i i (i + 1) h refl)))

skip_up : (k i j : ℕ) → j < i → skip k j < skip k i
skip_up k i j h =
    skip_or k i (λ a e. skip_or k j (λ b f. omega (arith, e, f)) (λ b f. absurd (omega arith)))
    (λ a e. skip_or k j (λ b f. omega (arith, e, f)) (λ b f. omega (arith, e, f)))

skip_one : (k i j : ℕ) → skip k i ≡ skip k j → i ≡ j
skip_one k i j s =
    skip_or k i (λ a e. skip_or k j (λ b f. omega (arith, e, f, s)) (λ b f. absurd (omega (arith, e, f, s))))
    (λ a e. skip_or k j (λ b f. absurd (omega (arith, e, f, s))) (λ b f. omega (arith, e, f, s)))

skip_past : (k i : ℕ) → skip k i ≢ k
skip_past k i z = skip_or k i (λ a e. omega (arith, e, z)) (λ a e. omega (arith, e, z))

module _ (jobs : List Job) (k : ℕ) (inside : k < length jobs) where
  moved : (i : ℕ) → record_at (without_place k jobs) i ≡ record_at jobs (skip k i)
  moved i =
      skip_or k i (λ a e. without_before k jobs inside i a ∙ ap (record_at jobs) (sym e)) (λ a e. without_behind k jobs inside i a ∙ ap (record_at jobs) (sym e))

  without_sound : Sound jobs → Sound (without_place k jobs)
  without_sound s =
      record {
        size = without_length k jobs inside ∙ s.size;
        each = λ i. ap job_sound (moved i) ∙ s.each (skip k i);
        first = λ i j h u v.
            s.first (skip k i) (skip k j) (skip_up k i j h) (λ w. u (ap (λ (r : Job). r.state) (moved i) ∙ w)) (sym (ap (λ (r : Job). r.state) (moved j)) ∙ v);
        alone = λ i j a b c.
            skip_one k i j
            (s.alone (skip k i) (skip k j) (sym (ap (λ (r : Job). r.state) (moved i)) ∙ a) (sym (ap (λ (r : Job). r.state) (moved j)) ∙ b)
            (sym (ap (λ (r : Job). r.member.0) (moved i)) ∙ c ∙ ap (λ (r : Job). r.member.0) (moved j)));
      }

-- no record is given to a member
abbrev Free : ℕ → List Job → Type 0
Free m jobs = (i : ℕ) → (record_at jobs i).state ≡ given_state → (record_at jobs i).member.0 ≡ m → ⊥

-- after the finishing the list is sound, and no record is given to the member
pub finish_sound : (jobs : List Job) (m : MemberNumber) → Sound jobs → Sound (finish_of jobs m) × Free m.0 (finish_of jobs m)
unfolding finish_of
finish_sound jobs m s =
    when_elim (λ (l : List Job). Sound l × Free m.0 l) (place_of given_state m.0 jobs <? jobs_most)
    (λ t. let k : ℕ = place_of given_state m.0 jobs in
    let l = ltb-true k jobs_most t in
    let inside : k < length jobs = (let n = s.size in omega arith) in
    let z = of_is given_state m.0 (record_at jobs k) (place_has given_state m.0 no_job jobs inside) in (
      without_sound jobs k inside s,
      λ i g e. skip_past k i
          (s.alone (skip k i) k (sym (ap (λ (r : Job). r.state) (moved jobs k inside i)) ∙ g) z.0 (sym (ap (λ (r : Job). r.member.0) (moved jobs k inside i)) ∙ e ∙ sym z.1)),
    ))
    (λ f. (
      s,
      λ i g e.
          let l = ltb-false (place_of given_state m.0 jobs) jobs_most f in
          let b = used_inside jobs i (given_used (record_at jobs i) g) in
          let p = place_least given_state m.0 no_job jobs i b (is_of_lem given_state m.0 (record_at jobs i) g e) in
          let n = s.size in
          omega arith,
    ))

pub give_sound : (jobs : List Job) (m : MemberNumber) → Sound jobs → Free m.0 jobs → m.0 < members_most → Sound (give_of jobs m).jobs
unfolding give_of given_to
give_sound jobs m s free h =
    when_elim (λ (o : Outcome). Sound o.jobs) (place_of waiting_state 0 jobs <? jobs_most)
    (λ t. let k : ℕ = place_of waiting_state 0 jobs in
    let l = ltb-true k jobs_most t in
    let inside : k < length jobs = (let n = s.size in omega arith) in
    let z = of_is waiting_state 0 (record_at jobs k) (place_has waiting_state 0 no_job jobs inside) in
    put_sound jobs k (given_to m (record_at jobs k)) inside s (given_sound m (record_at jobs k) (s.each k) h) (λ u. absurd (let y : given_state ≡ unused_state = u in omega arith))
    (λ j b. s.first k j b (λ u. let y : waiting_state ≡ unused_state = sym z.0 ∙ u in omega arith))
    (λ i g a c. free i a c))
    (λ f. s)

-- ---- a feed
form_sound : (jobs : List Job) (m : MemberNumber) (payload : List ℕ) → Sound jobs → for_list m payload ≡ true → Sound (form_of jobs m payload).jobs
unfolding form_of
form_sound jobs m payload s f =
    when_elim (λ (o : Outcome). Sound o.jobs) (is_fetch payload)
    (λ t. let left = finish_sound jobs m s in give_sound (finish_of jobs m) m left.0 left.1 (for_list_member m payload f))
    (λ n. let a = for_list_adds m payload f n in let d = length-drop 1 payload in add_sound jobs (drop 1 payload) s (omega (arith, a.1, a.2, d)))

pub feed_keeps : FeedKeeps
unfolding feed_of refused
feed_keeps jobs m payload =
    when_elim (Keeps jobs) (sound_of jobs)
    (λ t. when_elim (Keeps jobs) (for_list m payload)
    (λ f. let s = sound_of_lem jobs t in
    let k = form_sound jobs m payload s f in
    record { size = k.size ∙ sym s.size; sound = λ _. of_sound (form_of jobs m payload).jobs k })
    (λ f. record { size = refl; sound = λ h. h }))
    (λ t. record { size = refl; sound = λ h. h })

-- ---- the empty list
pub none_sound : sound_of no_jobs ≡ true
none_sound =
    of_sound no_jobs
    (record {
      size = length-replicate jobs_most no_job;
      each = λ i. ap job_sound (none_read i) ∙ no_job_sound;
      first = λ i j h u. absurd (u (ap (λ (r : Job). r.state) (none_read i) ∙ no_job_unused));
      alone = λ i j a b c. absurd (given_used (record_at no_jobs i) a (ap (λ (r : Job). r.state) (none_read i) ∙ no_job_unused));
    })
  where
    none_read : (i : ℕ) → record_at no_jobs i ≡ no_job
    none_read i =
        le_or (length no_jobs) i (λ h. get_or-eq_default no_jobs no_job h)
        (λ h. get_or-replicate jobs_most i no_job no_job (let n = length-replicate jobs_most no_job in omega (arith, n, h)))
