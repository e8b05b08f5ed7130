-- What the functions below the calls promise, and what they are owed by the questions before them.
use Rattle.group.specs.Question.{all_yes}
use Rattle.std.specs.Prelude.{◌≡◌, true, List, ℕ, ◌≤◌, ◌<◌, length}
use Rattle.group.specs.Limits.{members_most, header_size, payload_most, longest_packet, largest_number}
use Rattle.group.specs.declared.Refusal.{Refusal}
use Rattle.group.specs.declared.SequenceNumber.{SequenceNumber}
use Rattle.message.specs.Message.{Message}
use Rattle.packet.specs.Packet.{payload_at}
use Rattle.packet.specs.declared.Packet.{Packet}
use Rattle.packet.specs.declared.Packet.TheVariants.{Request, Broadcast, Gap, Status, Poll, Offer, Confirm, Accept, Invitation, Result}
use Rattle.history.specs.Ask.{content_verdict}
use Rattle.sequencer.specs.Calls.{refused, confirm_of, receive_of}
use Rattle.sequencer.specs.Sound.{sound_of}
use Rattle.sequencer.specs.Steps.{accepted_step, confirmation_of}
use Rattle.std.specs.Prelude.{Ok, Err, None}
use Rattle.sequencer.specs.Decided.{Decided}
use Rattle.sequencer.specs.declared.Decision.TheVariants.{Mark, Note}
use Rattle.sequencer.specs.declared.Answer.{Answer}
use Rattle.sequencer.specs.declared.Answer.TheVariants.{Old, Again, Full, Numbered, Noted, Wanted, Sent, Marked}
use Rattle.sequencer.specs.State.{Sequencer}
use Rattle.sequencer.specs.declared.Reply.{Reply}

-- a refusal, which writes nothing
pub record Refuses (refusal : Refusal) (reply : Reply) : Type 0 where
  pub answer : reply ≡ record { answer = Answer.Refused refusal; written = 0 }

-- a message that may go out with a number and a floor
abbrev pub MayBroadcast : SequenceNumber → SequenceNumber → Message → Type 0
MayBroadcast number floor m = (m.length ≤ payload_most) × (1 ≤ m.count) × (floor.0 < number.0)

-- what an answer comes with may be written
abbrev pub MaySend : Answer → SequenceNumber → SequenceNumber → Message → Type 0
MaySend (Answer.Refused refusal) top floor m = Unit {0}
MaySend Old top floor m = Unit {0}
MaySend (Again number) top floor m = MayBroadcast number floor m
MaySend Full top floor m = floor.0 ≤ top.0
MaySend (Numbered number) top floor m = MayBroadcast number floor m
MaySend Noted top floor m = Unit {0}
MaySend (Wanted first last) top floor m = Unit {0}
MaySend Sent top floor m = Unit {0}
MaySend Marked top floor m = Unit {0}
MaySend Answer.Accepted top floor m = Unit {0}

-- of a packet that is to be asked: the state is sound, and payload and lent output have the sizes that a packet wants
pub record Sized (s : Sequencer) (size room : ℕ) : Type 0 where
  pub sound : sound_of s ≡ true
  pub payload : size ≤ payload_most
  pub output : longest_packet ≤ room

-- of a packet that is to be answered: the same, and it was accepted
pub record Due (s : Sequencer) (packet : Packet) (size room : ℕ) : Type 0 where
  pub sizes : Sized s size room
  pub accepted : content_verdict s.group s.acknowledgements s.accepted.0 s.top.0 packet ≡ all_yes

-- what a decision on a packet says: a refusal is the call's; who is to be marked is a member; what is to be noted is due, and lies
-- behind a header
abbrev pub Judged : Sequencer → List ℕ → ℕ → Decided → Type 0
Judged s packet room (Err refusal) = refused s refusal ≡ receive_of s packet room
Judged s packet room (Ok (Mark m number)) =
    (m.0 < members_most) × (longest_packet ≤ room) × (confirm_of s m number ≡ receive_of s packet room)
Judged s packet room (Ok (Note content)) =
    (confirmation_of content ≡ None) × Due s content (length (payload_at packet)) room × (header_size ≤ length packet)
    × (accepted_step s content (payload_at packet) ≡ receive_of s packet room)

-- a next number is left where a request wants one
abbrev pub Left : Packet → ℕ → ℕ → Type 0
Left (Request sender taken count) last top = last < count → top < largest_number
Left (Broadcast originator number count floor) last top = Unit {0}
Left (Gap sender taken first to) last top = Unit {0}
Left (Status sender taken) last top = Unit {0}
Left (Poll elected t floor) last top = Unit {0}
Left (Offer originator number count floor) last top = Unit {0}
Left (Confirm sender number) last top = Unit {0}
Left (Accept elected number) last top = Unit {0}
Left (Invitation sender attempt) last top = Unit {0}
Left (Packet.Reply sender attempt number) last top = Unit {0}
Left (Result sender attempt elected number) last top = Unit {0}
