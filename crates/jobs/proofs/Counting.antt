-- What each step of a feed does to the number of records that wait and that are given: so a feed balances. Assumes nothing.
use mathlib.Core.Path.{◌≡◌, refl, sym, ◌∙◌}
use mathlib.Core.List.{List, [], ◌∷◌, ◌++◌}
use Prim.Native.Nat.{ℕ, zero, suc, ◌+◌, ◌<◌}
use native.Mathlib.Nat.{not-suc-le-zero, le_of_suc-le-suc}
use native.Mathlib.Omega.{arith}
use borrow.Author.Tests.{lt-ltb, le-ltb, ltb-true, ltb-false}
use lib.ListN.{length, drop, set, replicate}
use Rattle.group.specs.Choice.{when◌then◌else◌, ◌<?◌, ◌=?◌}
use Rattle.group.specs.Limits.{jobs_most}
use Rattle.group.specs.declared.MemberNumber.{MemberNumber}
use Rattle.group.proofs.Choice.{when_eq, when_ne, when_true, when_false}
use Rattle.group.proofs.Lists.{when_elim}
use Rattle.jobs.specs.Count.{count_of, waiting_in, given_in, holds, added_by, finished_by}
use Rattle.jobs.specs.Feed.{is_fetch, for_list, refused, add_of, without_place, finish_of, give_of, form_of, feed_of}
use Rattle.jobs.specs.Job.{unused_state, waiting_state, given_state, no_job, no_jobs, waiting_job, given_to, place_of}
use Rattle.jobs.specs.Laws.{Balances, FeedBalances}
use Rattle.jobs.specs.Sound.{sound_of}
use Rattle.jobs.specs.declared.Job.{Job}
use Rattle.jobs.specs.declared.Outcome.{Outcome}
use Rattle.jobs.proofs.Closing.{closed, closed_is}
use Rattle.jobs.proofs.Keeping.{finish_sound}
use Rattle.jobs.proofs.Places.{place_has}
use Rattle.jobs.proofs.Soundness.{record_at, of_is, no_job_unused, sound_of_lem}

-- one for a record with that state
abbrev one : ℕ → Job → ℕ
one state job = when job.state =? state then 1 else 0

counts : (state : ℕ) (job : Job) → job.state ≡ state → ◌≡◌ {A = ℕ} (one state job) 1
counts state job e = sym (when_eq job.state state 1 1 0 e refl)

counts_not : (state other : ℕ) (job : Job) → job.state ≡ other → (other ≡ state → ⊥) → ◌≡◌ {A = ℕ} (one state job) 0
counts_not state other job e n = sym (when_ne job.state state 0 1 0 (λ z. n (sym e ∙ z)) refl)

waits : (bytes : List ℕ) → (waiting_job bytes).state ≡ waiting_state
unfolding waiting_job
waits bytes = refl

gives : (m : MemberNumber) (job : Job) → (given_to m job).state ≡ given_state
unfolding given_to
gives m job = refl

-- a record is put in the place of another
count_put : (state : ℕ) (jobs : List Job) (k : ℕ) (job : Job) → k < length jobs → count_of state (set jobs k job) + one state (record_at jobs k) ≡ count_of state jobs + one state job
unfolding count_of
count_put state [] k job h = absurd (not-suc-le-zero h)
count_put state (x ∷ jobs) zero job h = omega arith
count_put state (x ∷ jobs) (suc k) job h = let z = count_put state jobs k job (le_of_suc-le-suc h) in omega (arith, z)

-- a place closes up
count_more : (state : ℕ) (jobs : List Job) → count_of state (jobs ++ (no_job ∷ [])) ≡ count_of state jobs + one state no_job
unfolding count_of
count_more state [] = omega arith
count_more state (x ∷ jobs) = let z = count_more state jobs in omega (arith, z)

count_closed : (state : ℕ) (jobs : List Job) (k : ℕ) → k < length jobs → count_of state (closed k jobs) + one state (record_at jobs k) ≡ count_of state jobs + one state no_job
unfolding count_of
count_closed state [] k h = absurd (not-suc-le-zero h)
count_closed state (x ∷ jobs) zero h = let z = count_more state jobs in omega (arith, z)
count_closed state (x ∷ jobs) (suc k) h = let z = count_closed state jobs k (le_of_suc-le-suc h) in omega (arith, z)

count_without : (state : ℕ) (jobs : List Job) (k : ℕ) → k < length jobs → count_of state (without_place k jobs) + one state (record_at jobs k) ≡ count_of state jobs + one state no_job
count_without state jobs k h = rw (closed_is k jobs) (count_closed state jobs k h)

count_unused : (state : ℕ) → (unused_state ≡ state → ⊥) → (k : ℕ) → count_of state (replicate k no_job) ≡ 0
unfolding count_of
count_unused state n zero = refl
count_unused state n (suc k) = let a = counts_not state unused_state no_job no_job_unused n in let b = count_unused state n k in omega (arith, a, b)

-- ---- the steps, of a list of 64 records
module _ (jobs : List Job) (size : length jobs ≡ jobs_most) where
  -- an add: one more waits
  add_balances : (m : MemberNumber) (bytes : List ℕ) → Balances jobs m (add_of jobs bytes)
  unfolding add_of refused added_by finished_by
  add_balances m bytes =
      when_elim (Balances jobs m) (place_of unused_state 0 jobs <? jobs_most)
      (λ t. let k : ℕ = place_of unused_state 0 jobs in
      let l = ltb-true k jobs_most t in
      let inside : k < length jobs = omega (arith, size, l) in
      let u = (of_is unused_state 0 (record_at jobs k) (place_has unused_state 0 no_job jobs inside)).0 in
      let w = count_put waiting_state jobs k (waiting_job bytes) inside in
      let g = count_put given_state jobs k (waiting_job bytes) inside in
      let w₀ = counts_not waiting_state unused_state (record_at jobs k) u (λ z. omega arith) in
      let g₀ = counts_not given_state unused_state (record_at jobs k) u (λ z. omega arith) in
      let w₁ = counts waiting_state (waiting_job bytes) (waits bytes) in
      let g₁ = counts_not given_state waiting_state (waiting_job bytes) (waits bytes) (λ z. omega arith) in
      record { balance = omega (arith, w, g, w₀, g₀, w₁, g₁) })
      (λ f. record { balance = refl })

  -- the finishing: one fewer is given, where the member held one
  finish_counts : (m : MemberNumber) → (waiting_in (finish_of jobs m) ≡ waiting_in jobs) × (given_in (finish_of jobs m) + (when holds jobs m then 1 else 0) ≡ given_in jobs)
  unfolding finish_of holds
  finish_counts m =
      when_elim (λ (l : List Job). (waiting_in l ≡ waiting_in jobs) × (given_in l + (when place_of given_state m.0 jobs <? length jobs then 1 else 0) ≡ given_in jobs))
      (place_of given_state m.0 jobs <? jobs_most)
      (λ t. let k : ℕ = place_of given_state m.0 jobs in
      let l = ltb-true k jobs_most t in
      let inside : k < length jobs = omega (arith, size, l) in
      let u = (of_is given_state m.0 (record_at jobs k) (place_has given_state m.0 no_job jobs inside)).0 in
      let w = count_without waiting_state jobs k inside in
      let g = count_without given_state jobs k inside in
      let w₀ = counts_not waiting_state given_state (record_at jobs k) u (λ z. omega arith) in
      let g₀ = counts given_state (record_at jobs k) u in
      let w₁ = counts_not waiting_state unused_state no_job no_job_unused (λ z. omega arith) in
      let g₁ = counts_not given_state unused_state no_job no_job_unused (λ z. omega arith) in
      let h : ◌≡◌ {A = ℕ} (when k <? length jobs then 1 else 0) 1 = sym (when_true (k <? length jobs) 1 1 0 (lt-ltb k (length jobs) inside) refl) in
      (omega (arith, w, w₀, w₁), omega (arith, g, g₀, g₁, h)))
      (λ f. let l = ltb-false (place_of given_state m.0 jobs) jobs_most f in
      let h : ◌≡◌ {A = ℕ} (when place_of given_state m.0 jobs <? length jobs then 1 else 0) 0 =
      sym (when_false (place_of given_state m.0 jobs <? length jobs) 0 1 0 (le-ltb (place_of given_state m.0 jobs) (length jobs) (omega (arith, size, l))) refl) in
      (refl, omega (arith, h)))

  -- the giving: one that waits is given
  give_counts : (m : MemberNumber) → waiting_in (give_of jobs m).jobs + given_in (give_of jobs m).jobs ≡ waiting_in jobs + given_in jobs
  unfolding give_of
  give_counts m =
      when_elim (λ (o : Outcome). waiting_in o.jobs + given_in o.jobs ≡ waiting_in jobs + given_in jobs) (place_of waiting_state 0 jobs <? jobs_most)
      (λ t. let k : ℕ = place_of waiting_state 0 jobs in
      let l = ltb-true k jobs_most t in
      let inside : k < length jobs = omega (arith, size, l) in
      let u = (of_is waiting_state 0 (record_at jobs k) (place_has waiting_state 0 no_job jobs inside)).0 in
      let w = count_put waiting_state jobs k (given_to m (record_at jobs k)) inside in
      let g = count_put given_state jobs k (given_to m (record_at jobs k)) inside in
      let w₀ = counts waiting_state (record_at jobs k) u in
      let g₀ = counts_not given_state waiting_state (record_at jobs k) u (λ z. omega arith) in
      let w₁ = counts_not waiting_state given_state (given_to m (record_at jobs k)) (gives m (record_at jobs k)) (λ z. omega arith) in
      let g₁ = counts given_state (given_to m (record_at jobs k)) (gives m (record_at jobs k)) in
      omega (arith, w, g, w₀, g₀, w₁, g₁))
      (λ f. refl)

-- a fetch that is accepted adds no job, and finishes one if its sender held one
give_answers : (jobs list : List Job) (m : MemberNumber) → (added_by (give_of list m).answer ≡ 0) × (finished_by jobs m (give_of list m).answer ≡ (when holds jobs m then 1 else 0))
unfolding give_of added_by finished_by
give_answers jobs list m =
    when_elim (λ (o : Outcome). (added_by o.answer ≡ 0) × (finished_by jobs m o.answer ≡ (when holds jobs m then 1 else 0))) (place_of waiting_state 0 list <? jobs_most)
    (λ t. (refl, refl)) (λ f. (refl, refl))

pub feed_balances : FeedBalances
unfolding feed_of form_of refused added_by finished_by
feed_balances jobs m payload =
    when_elim (Balances jobs m) (sound_of jobs)
    (λ t. when_elim (Balances jobs m) (for_list m payload)
    (λ f. let s = sound_of_lem jobs t in
    when_elim (Balances jobs m) (is_fetch payload)
    (λ y. let a = finish_counts jobs s.size m in
    let b = give_counts (finish_of jobs m) (finish_sound jobs m s).0.size m in
    let c = give_answers jobs (finish_of jobs m) m in
    record { balance = omega (arith, a.0, a.1, b, c.0, c.1) })
    (λ n. add_balances jobs s.size m (drop 1 payload)))
    (λ f. record { balance = refl }))
    (λ t. record { balance = refl })

-- in the empty list nothing waits and nothing is given
pub count_none : (state : ℕ) → (unused_state ≡ state → ⊥) → count_of state no_jobs ≡ 0
count_none state n = count_unused state n jobs_most
