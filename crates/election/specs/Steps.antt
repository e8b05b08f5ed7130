-- What the steps inside the code promise, in terms of the meaning. No call's promise speaks of these.
use Rattle.std.specs.Prelude.{◌≡◌, true, false, List, ℕ, ◌-◌, length, replicate}
use Rattle.group.specs.Choice.{when◌then◌else◌, ◌=?◌}
use Rattle.group.specs.Limits.{members_most, places_most, held_most}
use Rattle.group.specs.declared.Group.{Group}
use Rattle.group.specs.declared.SequenceNumber.{SequenceNumber}
use Rattle.message.specs.Message.{empty_message}
use Rattle.store.specs.Places.{messages_in}
use Rattle.history.specs.View.{table_in, listed}
use Rattle.window.specs.Places.{larger_of}
use Rattle.sequencer.specs.View as sequencer
use Rattle.sequencer.specs.declared.Head as sequencerHead
use Rattle.recovery.specs.Begin.{begun, counts_in, dropped_of, elected_sequencer}
use Rattle.recovery.specs.State.{counted_row}
use Rattle.recovery.specs.Steps.{reach_in, kept_floor_in, filled_of}
use Rattle.recovery.specs.View.{whole, terminal_of, flags_sound}
use Rattle.recovery.specs.declared.Head.{Head}

-- what a member begins a group with: its floor, the highest counts up to its reach, and what it has above its floor
pub record FromMember (head : Head) (held held_originators held_lengths held_payloads past past_originators past_lengths past_payloads highest : List ℕ) (floor : SequenceNumber) (counts kept originators lengths payloads : List ℕ) : Type 0 where
  pub floor_is : floor.0 ≡ kept_floor_in head held
  pub highest_size : length highest ≡ members_most
  pub counts_are : counts ≡ counted_row highest (listed held held_originators) head.member.taken.0 (reach_in head held - head.member.taken.0)
  pub history_is : messages_in kept originators lengths payloads ≡ filled_of (replicate places_most empty_message) (messages_in past past_originators past_lengths past_payloads) (messages_in held held_originators held_lengths held_payloads) head.member.taken.0 floor.0 (reach_in head held - floor.0)

-- what the elected terminal's sequencer begins with, whatever the arrays are that it does not begin with
abbrev pub FromTerminal : Head → List ℕ → List ℕ → List ℕ → List ℕ → List ℕ → List ℕ → List ℕ → List ℕ → List ℕ → List ℕ → List ℕ → List ℕ → List ℕ → List ℕ → SequenceNumber → List ℕ → List ℕ → List ℕ → List ℕ → List ℕ → Type 0
FromTerminal head held held_originators held_lengths held_payloads past past_originators past_lengths past_payloads highest counts kept originators lengths payloads floor counts' kept' originators' lengths' payloads' =
    (queued queued_originators queued_lengths queued_payloads replies taken repeats marks : List ℕ) (group : Group) (number : ℕ) → length taken ≡ members_most
    → elected_sequencer (terminal_of (whole head queued held queued_originators queued_lengths held_originators held_lengths queued_payloads held_payloads past past_originators past_lengths past_payloads highest replies taken counts repeats kept marks originators lengths payloads)) group number
    ≡ begun group number floor.0 (counts_in (table_in taken counts' repeats)) (messages_in kept' originators' lengths' payloads')

-- the elected terminal's sequencer
abbrev pub SequencerBegun : Head → List ℕ → List ℕ → List ℕ → List ℕ → List ℕ → List ℕ → List ℕ → List ℕ → List ℕ → List ℕ → List ℕ → List ℕ → List ℕ → List ℕ → List ℕ → List ℕ → List ℕ → Group → SequenceNumber → sequencerHead.Head → List ℕ → List ℕ → List ℕ → List ℕ → List ℕ → List ℕ → List ℕ → List ℕ → Type 0
SequencerBegun head held held_originators held_lengths held_payloads past past_originators past_lengths past_payloads highest taken counts repeats kept marks originators lengths payloads group number begun' taken' counts' repeats' kept' marks' originators' lengths' payloads' =
    (queued queued_originators queued_lengths queued_payloads replies : List ℕ)
    → sequencer.view_of (sequencer.whole begun' taken' counts' repeats' kept' marks' originators' lengths' payloads')
    ≡ elected_sequencer (terminal_of (whole head queued held queued_originators queued_lengths held_originators held_lengths queued_payloads held_payloads past past_originators past_lengths past_payloads highest replies taken counts repeats kept marks originators lengths payloads)) group number.0

-- the head with a sequencer that is there, and not frozen
abbrev pub seated_head : Head → sequencerHead.Head → Head
seated_head head begun' =
    record {
      member = head.member;
      sequencer = begun';
      read = head.read;
      attempt = head.attempt;
      number = head.number;
      invited = head.invited;
      repliers = head.repliers;
      replied = head.replied;
      inviting = head.inviting;
      sequencing = 1;
      frozen = 0;
    }

-- the elected terminal's sequencer begins, another stays in the old group; nothing of the member moves
pub record Seated (head : Head) (held held_originators held_lengths held_payloads past past_originators past_lengths past_payloads highest taken counts repeats kept marks originators lengths payloads : List ℕ) (group : Group) (number : SequenceNumber) (head' : Head) (taken' counts' repeats' kept' marks' originators' lengths' payloads' : List ℕ) : Type 0 where
  pub flags : flags_sound head ≡ true → flags_sound head' ≡ true
  pub member_stays : head'.member ≡ head.member
  pub read_stays : head'.read ≡ head.read
  pub sequencing_is : (head'.sequencing =? 1) ≡ (when group.elected.0 =? head.member.number.0 then true else head.sequencing =? 1)
  pub frozen_is : (head'.frozen =? 1) ≡ (when group.elected.0 =? head.member.number.0 then false else head.frozen =? 1)
  pub sequencer_is : (queued queued_originators queued_lengths queued_payloads replies : List ℕ)
      → sequencer.view_of (sequencer.whole head'.sequencer taken' counts' repeats' kept' marks' originators' lengths' payloads')
      ≡ (when group.elected.0 =? head.member.number.0 then elected_sequencer (terminal_of (whole head queued held queued_originators queued_lengths held_originators held_lengths queued_payloads held_payloads past past_originators past_lengths past_payloads highest replies taken counts repeats kept marks originators lengths payloads)) group number.0 else
      sequencer.view_of (sequencer.whole head.sequencer taken counts repeats kept marks originators lengths payloads))

-- the head of a member in a made group; its reply and its own invitation end
abbrev pub entered_head : Head → Group → SequenceNumber → Head
entered_head head group accepted =
    record {
      member = record {
        group = group;
        number = head.member.number;
        taken = head.member.taken;
        accepted = accepted;
        submitted = head.member.submitted;
        waiting = head.member.waiting;
      };
      sequencer = head.sequencer;
      read = head.read;
      attempt = 0;
      number = record { 0 = 0 };
      invited = 0;
      repliers = 0;
      replied = 0;
      inviting = 0;
      sequencing = head.sequencing;
      frozen = head.frozen;
    }

-- all up to the number and none above are accepted, held ones above are dropped, and no reply is left
pub record MemberEntered (head : Head) (held held_originators held_lengths held_payloads : List ℕ) (group : Group) (number : SequenceNumber) (head' : Head) (held' held_originators' held_lengths' held_payloads' replies' : List ℕ) : Type 0 where
  pub head_is : head' ≡ entered_head head group (record { 0 = larger_of head.member.taken.0 number.0 })
  pub held_are : messages_in held' held_originators' held_lengths' held_payloads' ≡ dropped_of (messages_in held held_originators held_lengths held_payloads) number.0 head.member.taken.0 held_most
  pub replies_are : replies' ≡ replicate members_most 0
