-- What each step of a feed comes to, by the place that was found. Assumes nothing.
use Rattle.std.proofs.Common.{◌≡◌, refl, ap, true, false, List, ℕ, ◌<◌, length, drop, set, get_or, Ok, Err, arith}
use borrow.Author.Tests.{eqb-true}
use Rattle.group.specs.Choice.{◌=?◌}
use Rattle.group.specs.Limits.{jobs_most}
use Rattle.group.specs.declared.MemberNumber.{MemberNumber}
use Rattle.group.specs.declared.Refusal.{Refusal}
use Rattle.group.proofs.Choice.{when_lt, when_nlt, when_true, when_false, both_first}
use Rattle.jobs.specs.Feed.{is_fetch, for_list, refused, add_of, without_place, finish_of, give_of, with_given, form_of, feed_of}
use Rattle.jobs.specs.Job.{unused_state, waiting_state, given_state, no_job, waiting_job, given_to, place_of}
use Rattle.jobs.specs.Sound.{sound_of}
use Rattle.jobs.specs.declared.Answer.TheVariants.{Added, Given, None}
use Rattle.jobs.specs.declared.Job.{Job}
use Rattle.jobs.specs.declared.Outcome.{Outcome}

module _ (jobs : List Job) (full : length jobs ≡ jobs_most) where
  pub add_room : (bytes : List ℕ) (place : ℕ) → (place ≡ place_of unused_state 0 jobs) × (place < length jobs)
      → record { jobs = set jobs place (waiting_job bytes); answer = Ok Added } ≡ add_of jobs bytes
  unfolding add_of
  add_room bytes place e =
      when_lt (place_of unused_state 0 jobs) jobs_most _ _ _ (omega (arith, e.0, e.1, full))
      (ap (λ (k : ℕ). record { jobs = set jobs k (waiting_job bytes); answer = Ok Added }) e.0)

  pub add_full : (bytes : List ℕ) → place_of unused_state 0 jobs ≡ length jobs → record { jobs = jobs; answer = Err Refusal.ListFull } ≡ add_of jobs bytes
  unfolding add_of refused
  add_full bytes e = when_nlt (place_of unused_state 0 jobs) jobs_most _ _ _ (omega (arith, e, full)) refl

  pub give_found : (m : MemberNumber) (place : ℕ) → (place ≡ place_of waiting_state 0 jobs) × (place < length jobs)
      → record { jobs = set jobs place (given_to m (get_or jobs place no_job)); answer = Ok (Given place) } ≡ give_of jobs m
  unfolding give_of
  give_found m place e =
      when_lt (place_of waiting_state 0 jobs) jobs_most _ _ _ (omega (arith, e.0, e.1, full))
      (ap (λ (k : ℕ). record { jobs = with_given k m jobs; answer = Ok (Given k) }) e.0)

  pub give_none : (m : MemberNumber) → place_of waiting_state 0 jobs ≡ length jobs → record { jobs = jobs; answer = Ok None } ≡ give_of jobs m
  unfolding give_of
  give_none m e = when_nlt (place_of waiting_state 0 jobs) jobs_most _ _ _ (omega (arith, e, full)) refl

  -- the list without the record at the place that was found
  pub closes : (place : ℕ) (m : MemberNumber) → (place ≡ place_of given_state m.0 jobs) × (place < length jobs) → without_place place jobs ≡ finish_of jobs m
  unfolding finish_of
  closes place m e =
      when_lt (place_of given_state m.0 jobs) jobs_most _ _ _ (omega (arith, e.0, e.1, full)) (ap (λ (k : ℕ). without_place k jobs) e.0)

  pub finish_none : (m : MemberNumber) → place_of given_state m.0 jobs ≡ length jobs → jobs ≡ finish_of jobs m
  unfolding finish_of
  finish_none m e = when_nlt (place_of given_state m.0 jobs) jobs_most _ _ _ (omega (arith, e, full)) refl

module _ (jobs : List Job) (m : MemberNumber) (payload : List ℕ) where
  pub sound_size : sound_of jobs ≡ true → length jobs ≡ jobs_most
  unfolding sound_of
  sound_size s = eqb-true (length jobs) jobs_most (both_first (length jobs =? jobs_most) _ s)

  pub feed_unsound : sound_of jobs ≡ false → record { jobs = jobs; answer = Err Refusal.UnsoundState } ≡ feed_of jobs m payload
  unfolding feed_of refused
  feed_unsound s = when_false (sound_of jobs) _ _ _ s refl

  pub feed_other : sound_of jobs ≡ true → for_list m payload ≡ false → record { jobs = jobs; answer = Err Refusal.NotForList } ≡ feed_of jobs m payload
  unfolding feed_of refused
  feed_other s f = when_true (sound_of jobs) _ _ _ s (when_false (for_list m payload) _ _ _ f refl)

  pub feed_fetch : {o : Outcome} → sound_of jobs ≡ true → for_list m payload ≡ true → is_fetch payload ≡ true → o ≡ give_of (finish_of jobs m) m
      → o ≡ feed_of jobs m payload
  unfolding feed_of form_of
  feed_fetch s f t e = when_true (sound_of jobs) _ _ _ s (when_true (for_list m payload) _ _ _ f (when_true (is_fetch payload) _ _ _ t e))

  pub feed_add : {o : Outcome} → sound_of jobs ≡ true → for_list m payload ≡ true → is_fetch payload ≡ false → o ≡ add_of jobs (drop 1 payload)
      → o ≡ feed_of jobs m payload
  unfolding feed_of form_of
  feed_add s f t e = when_true (sound_of jobs) _ _ _ s (when_true (for_list m payload) _ _ _ f (when_false (is_fetch payload) _ _ _ t e))
