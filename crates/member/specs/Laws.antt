-- What is proved of the member's meaning. `proofs/` has a proof of each statement.
use Rattle.group.specs.Question.{all_yes}
use Rattle.std.specs.Prelude.{Ok, Err}
use Rattle.std.specs.Prelude.{◌≡◌, Bool, true, false, List, [], ◌∷◌, ◌++◌, ◌⊎◌, ℕ, ◌≤◌, length}
use Rattle.group.specs.Choice.{when◌then◌else◌, ◌<?◌, ◌≤?◌, ◌=?◌}
use Rattle.group.specs.Limits.{held_most, waiting_most, payload_most, longest_packet, largest_number}
use Rattle.group.specs.Question.{Question, first_no}
use Rattle.group.specs.declared.Refusal.{Refusal}
use Rattle.packet.specs.Laws.{read_questions}
use Rattle.packet.specs.Packet.{broadcast_kind, poll_kind, offer_kind, accept_kind, header_of, read_of, content_of, from_elected}
use Rattle.packet.specs.declared.Header.{Header}
use Rattle.member.specs.Calls.{Outcome, refused, submit_of, repeat_of, status_of, take_of, receive_of}
use Rattle.member.specs.Promise.{Told}
use Rattle.member.specs.Sound.{sound_of}
use Rattle.member.specs.declared.Answer.{Answer}
use Rattle.member.specs.declared.Reply.{Reply}
use Rattle.member.specs.State.{Member}

-- questions 1 and 2, of every call
abbrev pub call_questions : Member → ℕ → List Question
call_questions m room =
    record { yes = sound_of m; refusal = Refusal.UnsoundState }
    ∷ record { yes = longest_packet ≤? room; refusal = Refusal.ShortOutput }
    ∷ []

-- questions 6 of byte 1, and 7 to 9, of a packet's fields
abbrev pub fields_questions : Member → Header → List Question
fields_questions m h =
    record { yes = from_elected m.group (content_of h); refusal = Refusal.ForbiddenFields }
    ∷ record { yes = h.group =? m.group.number; refusal = Refusal.OtherGroup }
    ∷ record { yes = when h.kind =? broadcast_kind then true else when h.kind =? poll_kind then true else when h.kind =? offer_kind then true else h.kind =? accept_kind; refusal = Refusal.OtherEnd }
    ∷ record { yes = h.member.0 <? m.group.n; refusal = Refusal.UnknownMember }
    ∷ []

-- the questions of each call, in their order; those of status and take are 1 and 2
abbrev pub receive_questions : Member → List ℕ → ℕ → List Question
receive_questions m packet room = call_questions m room ++ (read_questions packet ++ fields_questions m (header_of packet))

abbrev pub submit_questions : Member → List ℕ → ℕ → List Question
submit_questions m payload room =
    call_questions m room
    ++ (record { yes = length payload ≤? payload_most; refusal = Refusal.LongPayload }
    ∷ record { yes = m.waiting <? waiting_most; refusal = Refusal.AlreadyWaiting }
    ∷ record { yes = m.submitted <? largest_number; refusal = Refusal.NumbersUsedUp }
    ∷ [])

abbrev pub repeat_questions : Member → ℕ → List Question
repeat_questions m room = call_questions m room ++ (record { yes = 1 ≤? m.waiting; refusal = Refusal.NothingWaiting } ∷ [])

-- demand 1: a refusal is answered exactly if some question says no, with the first one's number; then the state is the same
-- and nothing is written. Every other input is accepted
pub record FirstNo (m : Member) (questions : List Question) (o : Outcome) : Type 0 where
  pub refuses : (refusal : Refusal) → first_no questions ≡ Err refusal → o ≡ refused m refusal
  pub accepts : (refusal : Refusal) → first_no questions ≡ all_yes → o.answer ≡ Answer.Refused refusal → ⊥

abbrev pub SubmitFirstNo : Type 0
SubmitFirstNo = (m : Member) (payload : List ℕ) (room : ℕ) → FirstNo m (submit_questions m payload room) (submit_of m payload room)

abbrev pub RepeatFirstNo : Type 0
RepeatFirstNo = (m : Member) (room : ℕ) → FirstNo m (repeat_questions m room) (repeat_of m room)

abbrev pub StatusFirstNo : Type 0
StatusFirstNo = (m : Member) (room : ℕ) → FirstNo m (call_questions m room) (status_of m room)

abbrev pub TakeFirstNo : Type 0
TakeFirstNo = (m : Member) (room : ℕ) → FirstNo m (call_questions m room) (take_of m room)

abbrev pub ReceiveFirstNo : Type 0
ReceiveFirstNo = (m : Member) (packet : List ℕ) (room : ℕ) → FirstNo m (receive_questions m packet room) (receive_of m packet room)

-- a state that its types can hold: its arrays have their lengths, and its numbers are not over the largest
pub record Typed (m : Member) : Type 0 where
  pub group : m.group.number ≤ largest_number
  pub taken : m.taken.0 ≤ largest_number
  pub accepted : m.accepted.0 ≤ largest_number
  pub submitted : m.submitted ≤ largest_number
  pub queue : length m.queue ≡ waiting_most
  pub held : length m.held ≡ held_most

-- a call leaves a state that its types can hold, sound if it was sound
pub record Keeps (m : Member) (o : Outcome) : Type 0 where
  pub typed : Typed o.member
  pub sound : sound_of m ≡ true → sound_of o.member ≡ true

-- it writes nothing or a packet that reading accepts
abbrev pub WritesPacket : Outcome → Type 0
WritesPacket o = (o.bytes ≡ []) ⊎ ((h : Header) × (read_of o.bytes ≡ Ok h))

abbrev pub SubmitKeeps : Type 0
SubmitKeeps = (m : Member) (payload : List ℕ) (room : ℕ) → Typed m → Keeps m (submit_of m payload room) × WritesPacket (submit_of m payload room)

abbrev pub RepeatKeeps : Type 0
RepeatKeeps = (m : Member) (room : ℕ) → Typed m → Keeps m (repeat_of m room) × WritesPacket (repeat_of m room)

abbrev pub StatusKeeps : Type 0
StatusKeeps = (m : Member) (room : ℕ) → Typed m → Keeps m (status_of m room) × WritesPacket (status_of m room)

abbrev pub ReceiveKeeps : Type 0
ReceiveKeeps =
    (m : Member) (packet : List ℕ) (room : ℕ) → (header_of packet).a ≤ largest_number → Typed m
    → Keeps m (receive_of m packet room) × WritesPacket (receive_of m packet room)

-- whether a take handed out a message, and what it says of the next one
unfoldable pub is_took : Answer → Bool
is_took (Answer.Refused refusal) = false
is_took Answer.Sent = false
is_took (Answer.Queued count) = false
is_took Answer.Old = false
is_took Answer.Kept = false
is_took Answer.KeptGap = false
is_took Answer.Beyond = false
is_took Answer.BeyondGap = false
is_took Answer.Gap = false
is_took Answer.Status = false
is_took Answer.None = false
is_took Answer.Noted = false
is_took (Answer.Took number originator count more) = true

unfoldable pub more_of : Answer → Bool
more_of (Answer.Refused refusal) = false
more_of Answer.Sent = false
more_of (Answer.Queued count) = false
more_of Answer.Old = false
more_of Answer.Kept = false
more_of Answer.KeptGap = false
more_of Answer.Beyond = false
more_of Answer.BeyondGap = false
more_of Answer.Gap = false
more_of Answer.Status = false
more_of Answer.None = false
more_of Answer.Noted = false
more_of (Answer.Took number originator count more) = more

-- more says whether a take that follows hands out a message
abbrev pub MoreSays : Type 0
MoreSays = (m : Member) (room : ℕ) → Typed m → more_of (take_of m room).answer ≡ is_took (take_of (take_of m room).member room).answer

-- a take writes a payload: at most the limit's bytes
abbrev pub TakeKeeps : Type 0
TakeKeeps = (m : Member) (room : ℕ) → Typed m → Keeps m (take_of m room) × (length (take_of m room).bytes ≤ payload_most)

-- a repeat and a status leave the state; where they are refused, also the lent output
abbrev pub RepeatLeaves : Type 0
RepeatLeaves =
    (m : Member) (before after : List ℕ) (reply : Reply)
    → ((repeat_of m (length before)).member ≡ m)
    × ((refusal : Refusal) → Told (repeat_of m (length before)) reply before after → reply.answer ≡ Answer.Refused refusal → after ≡ before)

abbrev pub StatusLeaves : Type 0
StatusLeaves =
    (m : Member) (before after : List ℕ) (reply : Reply)
    → ((status_of m (length before)).member ≡ m)
    × ((refusal : Refusal) → Told (status_of m (length before)) reply before after → reply.answer ≡ Answer.Refused refusal → after ≡ before)
