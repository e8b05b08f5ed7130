-- What the steps inside the code promise, in terms of the meaning. No call's promise speaks of these.
use Rattle.std.specs.Prelude.{Bool, true, false, List, ℕ, zero, suc, ◌+◌, ◌-◌, ◌*◌, length, get_or, set, ◌≡◌}
use Rattle.group.specs.Choice.{when◌then◌else◌, ◌and◌, ◌<?◌, ◌≤?◌, ◌=?◌}
use Rattle.group.specs.Fold.{all}
use Rattle.group.specs.Limits.{members_most, places_most, held_most, payload_most, largest_number}
use Rattle.group.specs.Members.{is_in, is_within, all_of}
use Rattle.group.specs.declared.Group.{Group}
use Rattle.message.specs.Message.{Message, blank}
use Rattle.history.specs.State as history
use Rattle.window.specs.Places.{place_of, larger_of, smaller_of}
use Rattle.window.specs.Steps.{row_counted}
use Rattle.sequencer.specs.Sound.{sound_of}
use Rattle.sequencer.specs.State.{Sequencer}
use Rattle.member.specs.Steps.{empty_handed}
use Rattle.member.specs.declared.Head as member
use Rattle.sequencer.specs.declared.Head as sequencer
use Rattle.recovery.specs.Sound.{kept_sound, reset_sound, zero_sequencer}
use Rattle.recovery.specs.State.{Kept}
use Rattle.recovery.specs.View.{reset_in, flags_sound}
use Rattle.recovery.specs.declared.Head.{Head}

-- the counts from n on are zero; who did not reply has no number
abbrev pub highest_sound : ℕ → List ℕ → Bool
highest_sound n highest = all (λ i c. when i <? n then true else c =? 0) 0 highest

abbrev pub replies_sound : ℕ → List ℕ → Bool
replies_sound repliers replies = all (λ i number. when is_in repliers i then true else number =? 0) 0 replies

-- what is not open of a reply is zero; its own invitation is open only with a reply open, itself among the repliers
unfoldable pub idle_sound : Head → Bool
idle_sound head = when head.replied =? 1 then true else (head.attempt =? 0 and head.number.0 =? 0)

unfoldable pub invitation_sound : Head → List ℕ → Bool
invitation_sound head replies =
    when head.inviting =? 1
    then (head.replied =? 1
    and is_in head.repliers head.member.number.0
    and get_or replies head.member.number.0 0 =? head.number.0
    and is_within head.repliers (all_of head.member.group.n))
    else (head.invited =? 0 and head.repliers =? 0)

-- all numbers of a group's description are zero
unfoldable pub group_zero : Group → Bool
group_zero group =
    group.n =? 0
    and group.resilience =? 0
    and group.survivors =? 0
    and group.elected.0 =? 0
    and group.number =? 0

-- the member's end beside the member: flags, what it keeps, and its part in a reset, in a group of at most 16
unfoldable pub beside_sound : Head → Kept → List ℕ → Bool
beside_sound head kept replies =
    flags_sound head
    and head.member.group.n ≤? members_most
    and kept_sound head.member.group.n head.member.taken.0 kept
    and reset_sound (empty_handed head.member) (reset_in head replies)

-- its reach, by the counts of the places
abbrev pub reach_in : Head → List ℕ → ℕ
reach_in head held = row_counted held head.member.taken.0 (smaller_of largest_number (head.member.taken.0 + held_most))

-- its sequencer is its member's group's
abbrev pub serves_in : Head → Bool
serves_in head = head.sequencing =? 1 and head.sequencer.group.number =? head.member.group.number

-- what it replies with, and the member's floor
unfoldable pub reply_in : Head → List ℕ → ℕ
reply_in head held = when serves_in head then head.sequencer.top.0 else reach_in head held

unfoldable pub kept_floor_in : Head → List ℕ → ℕ
kept_floor_in head held = smaller_of (larger_of head.read.0 (reach_in head held - places_most)) (reach_in head held)

-- with a reply open its number is what it would reply now, and its group's sequencer is frozen
unfoldable pub reply_sound_in : Head → List ℕ → Bool
reply_sound_in head held =
    when head.replied =? 1
    then (head.number.0 =? reply_in head held and (when serves_in head then head.frozen =? 1 else true))
    else true

-- the first k members' acknowledgements start at floor, or at zero for who is lost
unfoldable pub starts_of : List ℕ → ℕ → ℕ → ℕ → List ℕ
starts_of taken survivors floor zero = taken
starts_of taken survivors floor (suc k) = set (starts_of taken survivors floor k) k (when is_in survivors k then floor else 0)

-- the message of a number above floor: among those taken up to t, or held
unfoldable pub message_from : List Message → List Message → ℕ → ℕ → Message
message_from past held t number = when number ≤? t then history.message_at past number else get_or held (place_of number) blank

-- a history with those of the k numbers above floor in their places
unfoldable pub filled_of : List Message → List Message → List Message → ℕ → ℕ → ℕ → List Message
filled_of kept past held t floor zero = kept
filled_of kept past held t floor (suc k) =
    set (filled_of kept past held t floor k) (history.place_of (floor + suc k)) (message_from past held t (floor + suc k))

-- the sequencer's end, of a head and of a sequencer
unfoldable pub sequencer_sound_in : Head → Sequencer → Bool
sequencer_sound_in head s =
    when head.sequencing =? 1 then (sound_of s and s.group.n =? head.member.group.n) else
    (zero_sequencer s and (when head.frozen =? 1 then false else true))

-- arrays of the places of what is held
pub record Held (held originators lengths payloads : List ℕ) : Type 0 where
  pub held_size : length held ≡ held_most
  pub originators_size : length originators ≡ held_most
  pub lengths_size : length lengths ≡ held_most
  pub payloads_size : length payloads ≡ held_most * payload_most

-- a head with its member's, or its sequencer's, replaced
abbrev pub with_member_head : Head → member.Head → Head
with_member_head head m =
    record {
      member = m;
      sequencer = head.sequencer;
      read = head.read;
      attempt = head.attempt;
      number = head.number;
      invited = head.invited;
      repliers = head.repliers;
      replied = head.replied;
      inviting = head.inviting;
      sequencing = head.sequencing;
      frozen = head.frozen;
    }

abbrev pub with_sequencer_head : Head → sequencer.Head → Head
with_sequencer_head head s =
    record {
      member = head.member;
      sequencer = s;
      read = head.read;
      attempt = head.attempt;
      number = head.number;
      invited = head.invited;
      repliers = head.repliers;
      replied = head.replied;
      inviting = head.inviting;
      sequencing = head.sequencing;
      frozen = head.frozen;
    }
