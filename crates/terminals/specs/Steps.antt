-- What the steps inside the code promise, in terms of the meaning. No call's promise speaks of these.
use Rattle.std.specs.Prelude.{Ok, Err}
use Rattle.std.specs.Prelude.{◌≡◌, Bool, false, List, ℕ}
use Rattle.group.specs.Choice.{when◌then◌else◌, ask◌or◌then◌, ◌and◌, ◌=?◌}
use Rattle.group.specs.declared.Group.{Group}
use Rattle.group.specs.declared.Refusal.{Refusal}
use Rattle.group.specs.declared.SequenceNumber.{SequenceNumber}
use Rattle.group.specs.Question.{Verdict}
use Rattle.message.specs.Message.{message_of}
use Rattle.packet.specs.Packet.{content_of, from_elected}
use Rattle.packet.specs.Answers.{Reading}
use Rattle.window.specs.Places.{larger_of}
use Rattle.member.specs.declared.Answer.{Answer}
use Rattle.member.specs.declared.Head as member
use Rattle.recovery.specs.Calls.{call_verdict, kept_took, floor_in, of_reset, is_refusal}
use Rattle.recovery.specs.State.{Kept}
use Rattle.recovery.specs.View.{View, seen, odd, kept_in}
use Rattle.recovery.specs.declared.Head.{Head}

-- what a take's answer and its bytes leave of what is kept
unfoldable pub kept_told : Kept → Answer → List ℕ → Kept
kept_told kept (Answer.Refused refusal) bytes = kept
kept_told kept Answer.Sent bytes = kept
kept_told kept (Answer.Queued count) bytes = kept
kept_told kept Answer.Old bytes = kept
kept_told kept Answer.Kept bytes = kept
kept_told kept Answer.KeptGap bytes = kept
kept_told kept Answer.Beyond bytes = kept
kept_told kept Answer.BeyondGap bytes = kept
kept_told kept Answer.Gap bytes = kept
kept_told kept Answer.Status bytes = kept
kept_told kept Answer.None bytes = kept
kept_told kept Answer.Noted bytes = kept
kept_told kept (Answer.Took number originator count more) bytes = kept_took kept number.0 (message_of originator count bytes)

-- of the arrays, under every head
abbrev pub Remembers : Answer → List ℕ → List ℕ → List ℕ → List ℕ → List ℕ → List ℕ → List ℕ → List ℕ → List ℕ → List ℕ → List ℕ → Type 0
Remembers answer bytes past past_originators past_lengths past_payloads highest past' past_originators' past_lengths' past_payloads' highest' =
    (head : Head)
    → kept_in head past' past_originators' past_lengths' past_payloads' highest' ≡ kept_told (kept_in head past past_originators past_lengths past_payloads highest) answer bytes

-- a packet that was read, of a reset
unfoldable pub resets : Reading → Bool
resets (Ok h) = of_reset (content_of h)
resets (Err refusal) = false

-- what a frozen sequencer refuses a packet with: question 6 of byte 1, then 7 but of a reset, and 8
unfoldable pub frozen_refusal : Group → Reading → Refusal
frozen_refusal group (Ok h) =
    ask from_elected group (content_of h) or Refusal.ForbiddenFields then
    ask h.group =? group.number and of_reset (content_of h) or Refusal.OtherGroup then
    Refusal.OtherEnd
frozen_refusal group (Err refusal) = refusal

-- and a member with a reply open one that is of no reset: question 6 of byte 1, then 7
unfoldable pub closed_refusal : Group → Reading → Refusal
closed_refusal group (Ok h) =
    ask from_elected group (content_of h) or Refusal.ForbiddenFields then
    Refusal.OtherGroup
closed_refusal group (Err refusal) = refusal

-- behind questions 1 and 2
unfoldable pub refusal_after : Verdict → Refusal → Refusal
refusal_after (Ok _) refusal = refusal
refusal_after (Err first) refusal = first

-- the floor that a packet says, once it was read; 0: none
unfoldable pub floor_said : Reading → ℕ
floor_said (Ok h) = floor_in (content_of h)
floor_said (Err refusal) = 0

-- the highest floor read, once a packet was answered
unfoldable pub read_after : SequenceNumber → Answer → Reading → SequenceNumber
read_after read answer reading = when is_refusal answer then read else record { 0 = larger_of read.0 (floor_said reading) }

-- a head with what its member leaves, and the highest floor read
abbrev pub heard_head : Head → member.Head → SequenceNumber → Head
heard_head head m read =
    record {
      member = m;
      sequencer = head.sequencer;
      read = read;
      attempt = head.attempt;
      number = head.number;
      invited = head.invited;
      repliers = head.repliers;
      replied = head.replied;
      inviting = head.inviting;
      sequencing = head.sequencing;
      frozen = head.frozen;
    }

-- questions 1 and 2 of the member's end, of what is seen
unfoldable pub end_verdict : View → ℕ → Verdict
end_verdict (seen t) room = call_verdict t room
end_verdict (odd s) room = Err Refusal.UnsoundState
