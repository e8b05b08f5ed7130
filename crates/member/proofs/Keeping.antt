-- Each change of a member's state keeps it within its types and sound, the facts that it does not touch as they are; and a fresh
-- state is sound. Assumes nothing.
use mathlib.Core.Path.{◌≡◌, refl}
use mathlib.Core.Bool.{Bool, true, false}
use mathlib.Core.List.{List}
use Prim.Native.Nat.{ℕ, ◌+◌, ◌-◌, ◌≤◌, ◌<◌}
use native.Mathlib.Omega.{arith}
use lib.ListN.{length, set, get_or-replicate, length-replicate}
use Rattle.group.specs.Choice.{when◌then◌else◌}
use Rattle.group.specs.Limits.{held_most, waiting_most, payload_most, largest_number}
use Rattle.group.specs.declared.Group.{Group}
use Rattle.group.specs.declared.MemberNumber.{MemberNumber}
use Rattle.group.proofs.Choice.{says}
use Rattle.group.proofs.Lists.{when_elim}
use Rattle.message.specs.Message.{Message, message_of, empty_message, blank}
use Rattle.message.proofs.Kept.{kept_zero, empty_zero}
use Rattle.member.specs.Calls.{with_waiting, with_accepted, with_held, with_taken, is_own}
use Rattle.member.specs.Laws.{Typed}
use Rattle.window.specs.Places.{place_of, message_at, queue_place}
use Rattle.member.specs.State.{Member, first_count, fresh_member}
use Rattle.window.proofs.Keeping.{empty_none, held_places, taken_places, queue_length, waiting_more, waiting_less}
use Rattle.window.proofs.Missing.{set_length}
use Rattle.window.proofs.Row.{larger_le, le_larger}
use Rattle.window.proofs.Soundness.{HeldSound, WaitingSound}
use Rattle.group.proofs.Members.{Standing, survivor_lt}
use Rattle.group.specs.Members.{is_in}
use Rattle.member.proofs.Soundness.{Sound}

-- a taken message that is the member's own that waits first
pub own_first : (m : Member) (message : Message) → is_own m message ≡ true → (1 ≤ m.waiting) × (message.originator.0 ≡ m.number.0) × (message.count ≡ first_count m)
unfolding is_own
own_first m message e = (search says, search says, search says)

module _ (m : Member) (typed : Typed m) where
  -- a message waits
  pub waiting_typed : (payload : List ℕ) → m.submitted < largest_number → Typed (with_waiting m payload)
  unfolding with_waiting
  waiting_typed payload left = record { group = typed.group; taken = typed.taken; accepted = typed.accepted; submitted = omega arith; queue = queue_length m.queue typed.queue (m.submitted + 1) _; held = typed.held }

  pub waiting_sound_lem : (payload : List ℕ) → length payload ≤ payload_most → m.waiting < waiting_most → Sound m → Sound (with_waiting m payload)
  unfolding with_waiting message_of
  waiting_sound_lem payload short less s =
      record {
        n_pos = s.n_pos;
        n_most = s.n_most;
        resilient = s.resilient;
        within = s.within;
        elected_in = s.elected_in;
        number_in = s.number_in;
        number_lt = s.number_lt;
        taken_le = s.taken_le;
        waiting =
            waiting_more m.number.0 m.submitted m.waiting m.queue typed.queue s.waiting (message_of m.number (m.submitted + 1) payload) less
            (record { originator_is = refl; count_is = refl; short = short; zero_behind_lem = kept_zero m.number (m.submitted + 1) payload });
        places = s.places;
      }

  -- all up to number k are accepted
  module _ (k : ℕ) where
    pub accepted_typed : k ≤ largest_number → Typed (with_accepted m k)
    unfolding with_accepted
    accepted_typed fits =
        record { group = typed.group; taken = typed.taken; accepted = le_larger m.accepted.0 k largest_number typed.accepted fits; submitted = typed.submitted; queue = typed.queue; held = typed.held }

    pub accepted_sound : Sound m → Sound (with_accepted m k)
    unfolding with_accepted
    accepted_sound s =
        record {
          n_pos = s.n_pos;
          n_most = s.n_most;
          resilient = s.resilient;
          within = s.within;
          elected_in = s.elected_in;
          number_in = s.number_in;
          number_lt = s.number_lt;
          taken_le = (let z = (larger_le m.accepted.0 k).0 in let y = s.taken_le in omega arith);
          waiting = s.waiting;
          places = s.places;
        }

  -- a message is held under number k
  module _ (k : ℕ) (x : Message) where
    pub held_typed : Typed (with_held m k x)
    unfolding with_held
    held_typed = record { group = typed.group; taken = typed.taken; accepted = typed.accepted; submitted = typed.submitted; queue = typed.queue; held = set_length m.held typed.held k x }

    pub held_sound_lem : m.taken.0 < k → k ≤ m.taken.0 + held_most → 1 ≤ x.count → HeldSound m.group.n k x → Sound m → Sound (with_held m k x)
    unfolding with_held
    held_sound_lem lo hi some h s =
        record {
          n_pos = s.n_pos;
          n_most = s.n_most;
          resilient = s.resilient;
          within = s.within;
          elected_in = s.elected_in;
          number_in = s.number_in;
          number_lt = s.number_lt;
          taken_le = s.taken_le;
          waiting = s.waiting;
          places = held_places m.group.n m.taken.0 m.held typed.held s.places k x lo hi some h;
        }

  -- number t + 1 is taken
  module _ (message : Message) where
    own_waiting : (own : Bool) → (own ≡ true → 1 ≤ m.waiting) → WaitingSound m.number.0 m.submitted m.waiting m.queue
        → WaitingSound m.number.0 m.submitted (when own then m.waiting - 1 else m.waiting) (when own then set m.queue (queue_place (first_count m)) empty_message else m.queue)
    unfolding when◌then◌else◌
    own_waiting true f w = waiting_less m.number.0 m.submitted m.waiting m.queue typed.queue w (f refl)
    own_waiting false f w = w

    pub taken_typed : m.taken.0 < largest_number → Typed (with_taken m message)
    unfolding with_taken
    taken_typed left =
        record {
          group = typed.group;
          taken = omega arith;
          accepted = typed.accepted;
          submitted = typed.submitted;
          queue =
              when_elim (λ (q : List Message). length q ≡ waiting_most) (is_own m message)
              (λ _. queue_length m.queue typed.queue (first_count m) empty_message)
              (λ _. typed.queue);
          held = set_length m.held typed.held (m.taken.0 + 1) empty_message;
        }

    pub taken_sound : Sound m → m.taken.0 + 1 ≤ m.accepted.0 → Sound (with_taken m message)
    unfolding with_taken
    taken_sound s ready =
        record {
          n_pos = s.n_pos;
          n_most = s.n_most;
          resilient = s.resilient;
          within = s.within;
          elected_in = s.elected_in;
          number_in = s.number_in;
          number_lt = s.number_lt;
          taken_le = ready;
          waiting = own_waiting (is_own m message) (λ e. (own_first m message e).0) s.waiting;
          places = taken_places m.group.n m.taken.0 m.held typed.held s.places;
        }

-- a fresh state
module _ (group : Group) (number : MemberNumber) where
  -- holds nothing
  pub fresh_none : (k : ℕ) → message_at (fresh_member group number).held k ≡ empty_message
  unfolding fresh_member
  fresh_none k = get_or-replicate held_most (place_of k) empty_message blank (omega arith)

  pub fresh_typed : group.number ≤ largest_number → Typed (fresh_member group number)
  unfolding fresh_member
  fresh_typed h = record { group = h; taken = omega arith; accepted = omega arith; submitted = omega arith; queue = length-replicate waiting_most empty_message; held = length-replicate held_most empty_message }

  pub fresh_sound : Standing group → is_in group.survivors number.0 ≡ true → Sound (fresh_member group number)
  unfolding fresh_member
  fresh_sound stand inside =
      record {
        n_pos = stand.n_least;
        n_most = stand.n_most;
        resilient = stand.resilient;
        within = stand.within;
        elected_in = stand.elected_in;
        number_in = inside;
        number_lt = survivor_lt group stand number.0 inside;
        taken_le = omega arith;
        waiting =
            record {
              most = omega arith;
              enough = omega arith;
              waits = λ c lo hi. absurd (omega arith);
              idle = λ c lo hi. rw (get_or-replicate waiting_most (queue_place c) empty_message blank (omega arith)) empty_zero;
            };
        places =
            record {
              holds = λ k a b c. absurd (empty_none (rw (fresh_none k) at c));
              free = λ k a b c. rw (fresh_none k) empty_zero;
            };
      }
