-- What the test of question 1 says of a member's state, as facts by name: the test gives the facts, and the facts the test.
-- Assumes nothing.
use mathlib.Core.Path.{◌≡◌}
use mathlib.Core.Bool.{true}
use Prim.Native.Nat.{◌≤◌, ◌<◌}
use borrow.Author.Tests.{le-leb}
use lib.Bits.{bit_and}
use Rattle.group.specs.Fold.{all_above}
use Rattle.group.specs.Limits.{members_most, held_most}
use Rattle.group.specs.Members.{is_in, all_of, group_sound}
use Rattle.group.proofs.Choice.{both_hold, says}
use Rattle.group.proofs.Members.{Standing, standing_of, of_standing, survivor_lt}
use Rattle.window.specs.Sound.{place_sound, waiting_sound, frame_sound}
use Rattle.member.specs.Sound.{sound_of}
use Rattle.member.specs.State.{Member}
use Rattle.window.proofs.Soundness.{WaitingSound, PlacesSound, waiting_of, of_waiting, places_of, of_places}

pub record Sound (m : Member) : Type 0 where
  pub n_pos : 1 ≤ m.group.n
  pub n_most : m.group.n ≤ members_most
  pub resilient : m.group.resilience < m.group.n
  pub within : bit_and m.group.survivors (all_of m.group.n) ≡ m.group.survivors
  pub elected_in : is_in m.group.survivors m.group.elected.0 ≡ true
  pub number_in : is_in m.group.survivors m.number.0 ≡ true
  pub number_lt : m.number.0 < m.group.n
  pub taken_le : m.taken.0 ≤ m.accepted.0
  pub waiting : WaitingSound m.number.0 m.submitted m.waiting m.queue
  pub places : PlacesSound m.group.n m.taken.0 m.held

-- its group's description is sound
pub stands : (m : Member) → Sound m → Standing m.group
stands m f = record { n_least = f.n_pos; n_most = f.n_most; resilient = f.resilient; within = f.within; elected_in = f.elected_in }

pub sound_of_lem : (m : Member) → sound_of m ≡ true → Sound m
unfolding sound_of frame_sound
sound_of_lem m e =
    let w : waiting_sound m.number m.submitted m.waiting m.queue ≡ true = search says in
    let p : all_above (place_sound m.group.n m.held) m.taken.0 held_most ≡ true = search says in
    let group : group_sound m.group ≡ true = search says in
    let stand = standing_of m.group group in
    let inside : is_in m.group.survivors m.number.0 ≡ true = search says in
    record {
      n_pos = stand.n_least;
      n_most = stand.n_most;
      resilient = stand.resilient;
      within = stand.within;
      elected_in = stand.elected_in;
      number_in = inside;
      number_lt = survivor_lt m.group stand m.number.0 inside;
      taken_le = search says;
      waiting = waiting_of m.number m.submitted m.queue m.waiting w;
      places = places_of m.group.n m.held m.taken.0 p;
    }

pub of_sound : (m : Member) → Sound m → sound_of m ≡ true
unfolding sound_of frame_sound
of_sound m s =
    both_hold _ _
    (both_hold (group_sound m.group) _ (of_standing m.group (stands m s)) (both_hold _ _ s.number_in (le-leb _ _ s.taken_le)))
    (both_hold _ _ (of_waiting m.number m.submitted m.queue m.waiting s.waiting)
    (of_places m.group.n m.held m.taken.0 s.places))
