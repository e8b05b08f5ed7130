-- A list laid over the front of another, an element more each turn, until all of it is: its length, what lies behind, and the turn. With them the
-- closing of a record's place, a record at a time. Assumes nothing.
use mathlib.Core.Path.{◌≡◌, sym, ap, ◌∙◌}
use mathlib.Core.List.{List, [], ◌∷◌, ◌++◌, append-nil}
use Prim.Native.Nat.{ℕ, ◌+◌, ◌-◌, ◌≤◌, ◌<◌}
use native.Mathlib.Omega.{arith}
use lib.ListN.{length, take, drop, get_or, set, length-append, length-drop, drop_of_length-le, take-append-drop, get_or-eq_default}
use lib.Seq.{length-take-le, take_at, get_or-drop, get_or-append-add}
use Rattle.message.proofs.Laying.{over, over_all, over_next}
use Rattle.jobs.specs.Feed.{without_place}
use Rattle.jobs.specs.Job.{no_job}
use Rattle.jobs.specs.declared.Job.{Job}
use Rattle.jobs.proofs.Closing.{without_length, without_behind}
use Rattle.jobs.proofs.Places.{read_any}

module _ {A : Type 0} (i : ℕ) (list below : List A) where
  pub over_length : length list ≡ length below → i ≤ length below → length (over i list below) ≡ length below
  over_length e h =
      let t = length-take-le i list (omega arith) in
      let d = length-drop i below in
      length-append (take i list) (drop i below) ∙ omega (arith, t, d)

  pub over_behind : (j : ℕ) (d : A) → i ≤ j → i ≤ length list → get_or (over i list below) j d ≡ get_or below j d
  over_behind j d h k =
      let t = length-take-le i list k in
      let e : j ≡ length (take i list) + (j - i) = omega (arith, t) in
      let f : i + (j - i) ≡ j = omega arith in
      ap (λ (n : ℕ). get_or (over i list below) n d) e
      ∙ get_or-append-add (take i list) (drop i below) (j - i) d
      ∙ get_or-drop i below (j - i) d
      ∙ ap (λ (n : ℕ). get_or below n d) f

  pub over_whole : length list ≡ i → length below ≡ i → over i list below ≡ list
  over_whole e h =
      over_all list below i (sym e) ∙ ap (λ (l : List A). list ++ l) (drop_of_length-le below {i = length list} (omega arith)) ∙ append-nil list

module _ (k : ℕ) (jobs : List Job) (inside : k < length jobs) where
  -- the records moved down one at a time: before the first
  pub moved_first : jobs ≡ over k (without_place k jobs) jobs
  unfolding without_place
  moved_first =
      sym
      (ap (λ (l : List Job). l ++ drop k jobs)
      (take_at (take k jobs) (drop (k + 1) jobs ++ (no_job ∷ [])) k (length-take-le k jobs (omega arith)))
      ∙ take-append-drop k jobs)

  -- a turn
  pub moved_next : (i : ℕ) (all : List Job) (d : Job) → k ≤ i → i + 1 < length jobs → all ≡ over i (without_place k jobs) jobs
      → set all i (get_or all (i + 1) d) ≡ over (i + 1) (without_place k jobs) jobs
  moved_next i all d a h e =
      let w : List Job = without_place k jobs in
      let n : length w ≡ length jobs = without_length k jobs inside in
      let same : get_or all (i + 1) d ≡ get_or jobs (i + 1) d = ap (λ (l : List Job). get_or l (i + 1) d) e ∙ over_behind i w jobs (i + 1) d (omega arith) (omega (arith, n)) in
      let here : get_or w i no_job ≡ get_or all (i + 1) d = without_behind k jobs inside i a ∙ read_any jobs (i + 1) no_job d h ∙ sym same in
      ap (λ (l : List Job). set l i (get_or all (i + 1) d)) e
      ∙ over_next w jobs i (get_or all (i + 1) d) no_job here (omega (arith, n)) (omega arith)

  -- and the last record
  pub moved_last : (i : ℕ) (all : List Job) (job : Job) → k ≤ i → i + 1 ≡ length jobs → all ≡ over i (without_place k jobs) jobs → job ≡ no_job
      → set all i job ≡ without_place k jobs
  moved_last i all job a h e n =
      let w : List Job = without_place k jobs in
      let z : length w ≡ length jobs = without_length k jobs inside in
      let past : get_or jobs (i + 1) no_job ≡ no_job = get_or-eq_default jobs no_job (omega arith) in
      ap (λ (l : List Job). set l i job) e
      ∙ over_next w jobs i job no_job (without_behind k jobs inside i a ∙ past ∙ sym n) (omega (arith, z)) (omega arith)
      ∙ over_whole (i + 1) w jobs (omega (arith, z)) (sym h)
