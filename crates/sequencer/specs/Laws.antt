-- What is proved of the sequencer's meaning. `proofs/` has a proof of each statement.
use Rattle.group.specs.Question.{all_yes}
use Rattle.std.specs.Prelude.{Ok, Err}
use Rattle.std.specs.Prelude.{◌≡◌, Bool, true, false, List, [], ◌∷◌, ◌++◌, ◌⊎◌, ℕ, ◌+◌, ◌^◌, ◌≤◌, ◌<◌, length, get_or}
use Rattle.std.specs.Int.Count.{ones}
use Rattle.group.specs.Choice.{when◌then◌else◌, ◌and◌, ◌<?◌, ◌≤?◌, ◌=?◌}
use Rattle.group.specs.Limits.{members_most, places_most, longest_packet, largest_number}
use Rattle.group.specs.Members.{is_in, expected_of, needed_of}
use Rattle.group.specs.Question.{Question, first_no}
use Rattle.group.specs.declared.MemberNumber.{MemberNumber}
use Rattle.group.specs.declared.Refusal.{Refusal}
use Rattle.group.specs.declared.SequenceNumber.{SequenceNumber}
use Rattle.packet.specs.Laws.{read_questions}
use Rattle.packet.specs.Packet.{request_kind, gap_kind, status_kind, confirm_kind, header_of, read_of, content_of, from_elected}
use Rattle.packet.specs.declared.Header.{Header}
use Rattle.history.specs.Marks.{mark_at}
use Rattle.history.specs.Repeat.{one_more, repeats_of}
use Rattle.history.specs.State.{no_acknowledgement}
use Rattle.sequencer.specs.Calls.{Outcome, refused, confirm_of, receive_of, poll_of, copy_of, fresh_of}
use Rattle.sequencer.specs.Sound.{sound_of}
use Rattle.sequencer.specs.State.{Sequencer, last_count}
use Rattle.sequencer.specs.declared.Answer.{Answer}
use Rattle.sequencer.specs.declared.Answer.TheVariants.{Old, Again, Full, Numbered, Noted, Wanted, Sent, Marked}

-- questions 1 and 2, of every call
abbrev pub call_questions : Sequencer → ℕ → List Question
call_questions s room =
    record { yes = sound_of s; refusal = Refusal.UnsoundState }
    ∷ record { yes = longest_packet ≤? room; refusal = Refusal.ShortOutput }
    ∷ []

-- questions 6 of byte 1, 7 to 12, 25 and 16 of a packet's fields
abbrev pub fields_questions : Sequencer → Header → List Question
fields_questions s h =
    record { yes = from_elected s.group (content_of h); refusal = Refusal.ForbiddenFields }
    ∷ record { yes = h.group =? s.group.number; refusal = Refusal.OtherGroup }
    ∷ record { yes = when h.kind =? request_kind then true else when h.kind =? gap_kind then true else when h.kind =? status_kind then true else h.kind =? confirm_kind; refusal = Refusal.OtherEnd }
    ∷ record { yes = is_in s.group.survivors h.member.0; refusal = Refusal.UnknownMember }
    ∷ record { yes = h.a ≤? (when h.kind =? confirm_kind then s.top.0 else s.accepted.0); refusal = Refusal.AcknowledgedAhead }
    ∷ record { yes = when h.kind =? request_kind then h.b ≤? last_count s h.member + 1 else true; refusal = Refusal.CountAhead }
    ∷ record { yes = when h.kind =? gap_kind then h.c ≤? s.top.0 else true; refusal = Refusal.WantedAhead }
    ∷ record { yes = when h.kind =? confirm_kind then (when h.a ≤? s.accepted.0 then true else is_in (expected_of s.group) h.member.0) else true; refusal = Refusal.NotExpected }
    ∷ record { yes = when h.kind =? request_kind and h.b =? last_count s h.member + 1 then s.top.0 <? largest_number else true; refusal = Refusal.NumbersUsedUp }
    ∷ []

-- the questions of each call, in their order
abbrev pub receive_questions : Sequencer → List ℕ → ℕ → List Question
receive_questions s packet room = call_questions s room ++ (read_questions packet ++ fields_questions s (header_of packet))

abbrev pub copy_questions : Sequencer → SequenceNumber → ℕ → List Question
copy_questions s number room =
    call_questions s room
    ++ (record { yes = s.floor.0 <? number.0 and number.0 ≤? s.top.0; refusal = Refusal.NotInHistory } ∷ [])

-- demand 1: a refusal is answered exactly if some question says no, with the first one's number; then the state is the same
-- and nothing is written. Every other input is accepted
pub record FirstNo (s : Sequencer) (questions : List Question) (o : Outcome) : Type 0 where
  pub refuses : (refusal : Refusal) → first_no questions ≡ Err refusal → o ≡ refused s refusal
  pub accepts : (refusal : Refusal) → first_no questions ≡ all_yes → o.answer ≡ Answer.Refused refusal → ⊥

abbrev pub ReceiveFirstNo : Type 0
ReceiveFirstNo = (s : Sequencer) (packet : List ℕ) (room : ℕ) → FirstNo s (receive_questions s packet room) (receive_of s packet room)

abbrev pub PollFirstNo : Type 0
PollFirstNo = (s : Sequencer) (room : ℕ) → FirstNo s (call_questions s room) (poll_of s room)

abbrev pub CopyFirstNo : Type 0
CopyFirstNo = (s : Sequencer) (number : SequenceNumber) (room : ℕ) → FirstNo s (copy_questions s number room) (copy_of s number room)

-- a state that its types can hold: its arrays have their lengths, and its numbers are not over the largest
pub record Typed (s : Sequencer) : Type 0 where
  pub group : s.group.number ≤ largest_number
  pub top : s.top.0 ≤ largest_number
  pub accepted : s.accepted.0 ≤ largest_number
  pub table : length s.acknowledgements ≡ members_most
  pub history : length s.history ≡ places_most
  pub counts : (i : ℕ) → (get_or s.acknowledgements i no_acknowledgement).count ≤ largest_number
  pub repeats : (i : ℕ) → (get_or s.acknowledgements i no_acknowledgement).repeats ≤ largest_number
  pub marks : length s.marks ≡ places_most
  pub masks : (i : ℕ) → get_or s.marks i 0 < 2 ^ members_most

-- a call leaves a state that its types can hold, sound if it was sound, and writes nothing or a packet that reading accepts
pub record Keeps (s : Sequencer) (o : Outcome) : Type 0 where
  pub typed : Typed o.sequencer
  pub sound : sound_of s ≡ true → sound_of o.sequencer ≡ true
  pub bytes : (o.bytes ≡ []) ⊎ ((h : Header) × (read_of o.bytes ≡ Ok h))

abbrev pub ReceiveKeeps : Type 0
ReceiveKeeps =
    (s : Sequencer) (packet : List ℕ) (room : ℕ) → (header_of packet).b ≤ largest_number → Typed s → Keeps s (receive_of s packet room)

abbrev pub PollKeeps : Type 0
PollKeeps = (s : Sequencer) (room : ℕ) → Typed s → Keeps s (poll_of s room)

abbrev pub CopyKeeps : Type 0
CopyKeeps = (s : Sequencer) (number : SequenceNumber) (room : ℕ) → Typed s → Keeps s (copy_of s number room)

-- a confirmation that is accepted by its questions leaves no unaccepted number with enough marks
abbrev pub FewMarks : Type 0
FewMarks =
    (s : Sequencer) (m : MemberNumber) (number : SequenceNumber) → Typed s → sound_of s ≡ true
    → m.0 < s.group.n → is_in (expected_of s.group) m.0 ≡ true → s.accepted.0 < number.0 → number.0 ≤ s.top.0
    → let o : Outcome = confirm_of s m number in
    (k : ℕ) → o.sequencer.accepted.0 < k → k ≤ o.sequencer.top.0 → ones (mark_at o.sequencer.marks k) < needed_of s.group

-- the answers to a request that add 1 to a repeat count
unfoldable pub is_repeat : Answer → Bool
is_repeat (Answer.Refused refusal) = false
is_repeat Old = true
is_repeat (Again number) = true
is_repeat Full = false
is_repeat (Numbered number) = false
is_repeat Noted = false
is_repeat (Wanted first last) = false
is_repeat Sent = false
is_repeat Marked = false
is_repeat Answer.Accepted = false

-- the old count, which is the sum of the members' counts held at the largest number, moves as a single count does: one more for Old
-- and Again to a request, else it stays
abbrev pub OldCount : Sequencer → Bool → Outcome → Type 0
OldCount s request o =
    repeats_of o.sequencer.acknowledgements
    ≡ (when request and is_repeat o.answer then one_more (repeats_of s.acknowledgements) else repeats_of s.acknowledgements)

abbrev pub ReceiveOldCount : Type 0
ReceiveOldCount =
    (s : Sequencer) (packet : List ℕ) (room : ℕ) → Typed s → OldCount s ((header_of packet).kind =? request_kind) (receive_of s packet room)

abbrev pub PollOldCount : Type 0
PollOldCount = (s : Sequencer) (room : ℕ) → OldCount s false (poll_of s room)

abbrev pub CopyOldCount : Type 0
CopyOldCount = (s : Sequencer) (number : SequenceNumber) (room : ℕ) → OldCount s false (copy_of s number room)

-- and it is 0 when fresh
abbrev pub FreshOldCount : Type 0
FreshOldCount = (n number resilience : ℕ) → repeats_of (fresh_of n number resilience).sequencer.acknowledgements ≡ 0

-- a call that only reads has an outcome that leaves the state
abbrev pub PollLeaves : Type 0
PollLeaves = (s : Sequencer) (room : ℕ) → (poll_of s room).sequencer ≡ s

abbrev pub CopyLeaves : Type 0
CopyLeaves = (s : Sequencer) (number : SequenceNumber) (room : ℕ) → (copy_of s number room).sequencer ≡ s
