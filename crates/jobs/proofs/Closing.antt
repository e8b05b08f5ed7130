-- The list without a record: its length, and what is read at each place.
-- Assumes nothing.
use mathlib.Core.Path.{◌≡◌, refl, sym, ap, ◌∙◌}
use mathlib.Core.List.{List, [], ◌∷◌, ◌++◌}
use Prim.Native.Nat.{ℕ, zero, suc, ◌+◌, ◌≤◌, ◌<◌}
use native.Mathlib.Nat.{not-suc-le-zero, le_of_suc-le-suc}
use native.Mathlib.Numerals.{add-one}
use lib.ListN.{length, take, drop, get_or, length-append}
use Rattle.jobs.specs.Feed.{without_place}
use Rattle.jobs.specs.Job.{no_job}
use Rattle.jobs.specs.declared.Job.{Job}

-- the list without the record at k, by k
abbrev pub closed : ℕ → List Job → List Job
closed k jobs = take k jobs ++ (drop (suc k) jobs ++ (no_job ∷ []))

pub closed_is : (k : ℕ) (jobs : List Job) → without_place k jobs ≡ closed k jobs
unfolding without_place
closed_is k jobs = rw add-one

closed_length : (k : ℕ) (jobs : List Job) → k < length jobs → length (closed k jobs) ≡ length jobs
closed_length k [] h = absurd (not-suc-le-zero h)
closed_length zero (x ∷ jobs) h = length-append jobs (no_job ∷ []) ∙ add-one (length jobs)
closed_length (suc k) (x ∷ jobs) h = ap suc (closed_length k jobs (le_of_suc-le-suc h))

-- one unused record more is what is read past the end
more_read : (jobs : List Job) (i : ℕ) → get_or (jobs ++ (no_job ∷ [])) i no_job ≡ get_or jobs i no_job
more_read [] zero = refl
more_read [] (suc i) = refl
more_read (x ∷ jobs) zero = refl
more_read (x ∷ jobs) (suc i) = more_read jobs i

closed_before : (k i : ℕ) (jobs : List Job) → i < k → k < length jobs → get_or (closed k jobs) i no_job ≡ get_or jobs i no_job
closed_before k i [] a h = absurd (not-suc-le-zero h)
closed_before zero i (x ∷ jobs) a h = absurd (not-suc-le-zero a)
closed_before (suc k) zero (x ∷ jobs) a h = refl
closed_before (suc k) (suc i) (x ∷ jobs) a h = closed_before k i jobs (le_of_suc-le-suc a) (le_of_suc-le-suc h)

closed_behind : (k i : ℕ) (jobs : List Job) → k ≤ i → k < length jobs → get_or (closed k jobs) i no_job ≡ get_or jobs (suc i) no_job
closed_behind k i [] a h = absurd (not-suc-le-zero h)
closed_behind zero i (x ∷ jobs) a h = more_read jobs i
closed_behind (suc k) zero (x ∷ jobs) a h = absurd (not-suc-le-zero a)
closed_behind (suc k) (suc i) (x ∷ jobs) a h = closed_behind k i jobs (le_of_suc-le-suc a) (le_of_suc-le-suc h)

module _ (k : ℕ) (jobs : List Job) (inside : k < length jobs) where
  pub without_length : length (without_place k jobs) ≡ length jobs
  without_length = ap length (closed_is k jobs) ∙ closed_length k jobs inside

  pub without_before : (i : ℕ) → i < k → get_or (without_place k jobs) i no_job ≡ get_or jobs i no_job
  without_before i a = ap (λ (l : List Job). get_or l i no_job) (closed_is k jobs) ∙ closed_before k i jobs a inside

  pub without_behind : (i : ℕ) → k ≤ i → get_or (without_place k jobs) i no_job ≡ get_or jobs (i + 1) no_job
  without_behind i a =
      ap (λ (l : List Job). get_or l i no_job) (closed_is k jobs) ∙ closed_behind k i jobs a inside ∙ ap (λ (j : ℕ). get_or jobs j no_job) (sym (add-one i))
