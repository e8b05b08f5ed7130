-- What a terminal holds: its member, what it keeps to begin a group with, its part in a reset, and its sequencer, if it has one.
use Rattle.std.specs.Prelude.{Bool, false, List, ℕ, zero, suc, ◌+◌, ◌-◌, get_or, set, replicate}
use Rattle.group.specs.Choice.{when◌then◌else◌, ◌and◌, ◌≤?◌, ◌=?◌}
use Rattle.group.specs.Limits.{members_most, places_most}
use Rattle.group.specs.declared.SequenceNumber.{SequenceNumber}
use Rattle.message.specs.Message.{Message, empty_message}
use Rattle.history.specs.State as history
use Rattle.window.specs.Places as window
use Rattle.window.specs.Places.{larger_of, smaller_of}
use Rattle.member.specs.State.{Member, reach_of}
use Rattle.sequencer.specs.State.{Sequencer, fresh_sequencer}

-- the highest floor that it read; the last 32 messages that it took, number s in place s modulo 32; each originator's highest count among
-- all that it took
pub record Kept : Type 0 where
  pub read : SequenceNumber
  pub past : List Message
  pub counts : List ℕ

-- whether a reply is open, to which attempt, with which number; whether its own invitation is open, with which number, whose replies
-- came, one bit a member, and each one's number
pub record Reset : Type 0 where
  pub replied : Bool
  pub attempt : ℕ
  pub number : SequenceNumber
  pub inviting : Bool
  pub invited : ℕ
  pub repliers : ℕ
  pub replies : List ℕ

-- a frozen sequencer refuses its group's packets but those of a reset
pub record Terminal : Type 0 where
  pub member : Member
  pub kept : Kept
  pub reset : Reset
  pub sequencing : Bool
  pub frozen : Bool
  pub sequencer : Sequencer

-- no part in a reset
abbrev pub no_reset : Reset
no_reset =
    record {
      replied = false;
      attempt = 0;
      number = record { 0 = 0 };
      inviting = false;
      invited = 0;
      repliers = 0;
      replies = replicate members_most 0;
    }

-- fresh: nothing read, nothing taken
abbrev pub fresh_kept : Kept
fresh_kept = record { read = record { 0 = 0 }; past = replicate places_most empty_message; counts = replicate members_most 0 }

-- a terminal without a sequencer has one that is all zero
abbrev pub no_sequencer : Sequencer
no_sequencer =
    fresh_sequencer (record { n = 0; resilience = 0; survivors = 0; elected = record { 0 = 0 }; number = 0 })

-- its sequencer is its member's group's
abbrev pub serves : Terminal → Bool
serves t = t.sequencing and t.sequencer.group.number =? t.member.group.number

-- what it replies to an invitation with: its group's sequencer with top, else its member with its reach
unfoldable pub reply_number : Terminal → ℕ
reply_number t = when serves t then t.sequencer.top.0 else reach_of t.member

-- the member's floor: the highest it read, but at least reach - 32 and at most reach
unfoldable pub kept_floor : Terminal → ℕ
kept_floor t = smaller_of (larger_of t.kept.read.0 (reach_of t.member - places_most)) (reach_of t.member)

-- the message of a number above its floor, up to its reach: among the last 32 taken, or held
unfoldable pub message_of_number : Terminal → ℕ → Message
message_of_number t number =
    when number ≤? t.member.taken.0 then history.message_at t.kept.past number else
    window.message_at t.member.held number

-- counts with a message's: its originator's is the highest of both
unfoldable pub counted : List ℕ → Message → List ℕ
counted counts m = set counts m.originator.0 (larger_of (get_or counts m.originator.0 0) m.count)

-- and with those of the k held numbers above t
unfoldable pub counted_row : List ℕ → List Message → ℕ → ℕ → List ℕ
counted_row counts held t zero = counts
counted_row counts held t (suc k) = counted (counted_row counts held t k) (window.message_at held (t + suc k))

-- each originator's highest count up to its reach
unfoldable pub counts_of : Terminal → List ℕ
counts_of t = counted_row t.kept.counts t.member.held t.member.taken.0 (reach_of t.member - t.member.taken.0)
