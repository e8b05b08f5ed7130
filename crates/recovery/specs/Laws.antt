-- What is proved of a terminal's meaning. `proofs/` has a proof of each statement.
use Rattle.group.specs.Question.{all_yes}
use Rattle.std.specs.Prelude.{Err}
use Rattle.std.specs.Prelude.{◌≡◌, Bool, true, false, List, [], ◌∷◌, ◌++◌, ℕ, ◌^◌, ◌≤◌, ◌<◌, length, get_or, drop}
use Rattle.std.specs.Int.Count.{ones}
use Rattle.group.specs.Choice.{when◌then◌else◌, ◌and◌, ◌<?◌, ◌≤?◌, ◌=?◌}
use Rattle.group.specs.Limits.{members_most, places_most, payload_most, waiting_most, longest_packet, largest_number}
use Rattle.group.specs.Members.{is_within, all_of}
use Rattle.group.specs.Question.{Question, first_no}
use Rattle.group.specs.declared.Refusal.{Refusal}
use Rattle.group.specs.declared.SequenceNumber.{SequenceNumber}
use Rattle.packet.specs.Laws.{read_questions, Fits}
use Rattle.packet.specs.Packet.{broadcast_kind, poll_kind, offer_kind, accept_kind, invitation_kind, reply_kind, result_kind, header_of, payload_at, content_of, from_elected, survivors_in}
use Rattle.packet.specs.declared.Header.{Header}
use Rattle.member.specs.Laws as member
use Rattle.member.specs.declared.Answer.{Answer}
use Rattle.sequencer.specs.Calls as calls
use Rattle.sequencer.specs.Laws as sequencer
use Rattle.sequencer.specs.State.{Sequencer}
use Rattle.sequencer.specs.declared.Answer as sequencerAnswer
use Rattle.window.specs.Places.{message_at}
use Rattle.recovery.specs.Calls.{Outcome, SequencerOutcome, refused, ordered, of_reset, order_of, poll_of, copy_of, submit_of, repeat_of, status_of, receive_of, take_of, invite_of, make_of, result_fits}
use Rattle.recovery.specs.Sound.{member_sound, terminal_sound}
use Rattle.recovery.specs.State.{Terminal}

-- questions 1 and 2: of the member's end, and of the whole terminal
abbrev pub call_questions : Terminal → ℕ → List Question
call_questions t room =
    record { yes = member_sound t; refusal = Refusal.UnsoundState }
    ∷ record { yes = longest_packet ≤? room; refusal = Refusal.ShortOutput }
    ∷ []

abbrev pub whole_questions : Terminal → ℕ → List Question
whole_questions t room =
    record { yes = terminal_sound t; refusal = Refusal.UnsoundState }
    ∷ record { yes = longest_packet ≤? room; refusal = Refusal.ShortOutput }
    ∷ []

-- making: then 27, an invitation is open, and 26, the survivors are as many as the call demands
abbrev pub make_questions : Terminal → ℕ → ℕ → List Question
make_questions t demand room =
    whole_questions t room
    ++ (record { yes = t.reset.inviting; refusal = Refusal.NotOfAttempt }
    ∷ record { yes = demand ≤? ones t.reset.repliers; refusal = Refusal.FewSurvivors }
    ∷ [])

-- the kinds of a reset
abbrev pub is_reset : ℕ → Bool
is_reset kind = invitation_kind ≤? kind

-- question 27 of a packet's fields: of a reply and of a result
abbrev pub attempt_fits : Terminal → Header → List ℕ → Bool
attempt_fits t h payload =
    when h.kind =? reply_kind then (t.reset.inviting and t.reset.invited =? h.a) else
    when h.kind =? result_kind then result_fits t h.a (record { 0 = h.b }) (record { 0 = h.c }) (survivors_in payload) else
    true

-- questions 6 of byte 1, of a reset 1 of the whole terminal, 7 to 9, and 27, of a packet's fields
abbrev pub fields_questions : Terminal → Header → List ℕ → List Question
fields_questions t h payload =
    record { yes = from_elected t.member.group (content_of h); refusal = Refusal.ForbiddenFields }
    ∷ record { yes = when is_reset h.kind then terminal_sound t else true; refusal = Refusal.UnsoundState }
    ∷ record { yes = when is_reset h.kind then h.group =? t.member.group.number else (h.group =? t.member.group.number and (when t.reset.replied then false else true)); refusal = Refusal.OtherGroup }
    ∷ record { yes = when h.kind =? broadcast_kind then true else when h.kind =? poll_kind then true else when h.kind =? offer_kind then true else accept_kind ≤? h.kind; refusal = Refusal.OtherEnd }
    ∷ record { yes = when h.kind =? result_kind then (h.member.0 <? t.member.group.n and is_within (survivors_in payload) (all_of t.member.group.n)) else h.member.0 <? t.member.group.n; refusal = Refusal.UnknownMember }
    ∷ record { yes = attempt_fits t h payload; refusal = Refusal.NotOfAttempt }
    ∷ []

abbrev pub receive_questions : Terminal → List ℕ → ℕ → List Question
receive_questions t packet room = call_questions t room ++ (read_questions packet ++ fields_questions t (header_of packet) (payload_at packet))

-- demand 1: a refusal is answered exactly if some question says no, with the first one's number; then the state is the same
-- and nothing is written. Every other input is accepted
pub record FirstNo (t : Terminal) (questions : List Question) (o : Outcome) : Type 0 where
  pub refuses : (refusal : Refusal) → first_no questions ≡ Err refusal → o ≡ refused t refusal
  pub accepts : (refusal : Refusal) → first_no questions ≡ all_yes → o.answer ≡ Answer.Refused refusal → ⊥

abbrev pub ReceiveFirstNo : Type 0
ReceiveFirstNo = (t : Terminal) (packet : List ℕ) (room : ℕ) → FirstNo t (receive_questions t packet room) (receive_of t packet room)

-- submit, repeat and status: then those of the member
abbrev pub submit_questions : Terminal → List ℕ → ℕ → List Question
submit_questions t payload room =
    call_questions t room
    ++ (record { yes = length payload ≤? payload_most; refusal = Refusal.LongPayload }
    ∷ record { yes = t.member.waiting <? waiting_most; refusal = Refusal.AlreadyWaiting }
    ∷ record { yes = t.member.submitted <? largest_number; refusal = Refusal.NumbersUsedUp }
    ∷ [])

abbrev pub repeat_questions : Terminal → ℕ → List Question
repeat_questions t room = call_questions t room ++ (record { yes = 1 ≤? t.member.waiting; refusal = Refusal.NothingWaiting } ∷ [])

abbrev pub SubmitFirstNo : Type 0
SubmitFirstNo = (t : Terminal) (payload : List ℕ) (room : ℕ) → FirstNo t (submit_questions t payload room) (submit_of t payload room)

abbrev pub RepeatFirstNo : Type 0
RepeatFirstNo = (t : Terminal) (room : ℕ) → FirstNo t (repeat_questions t room) (repeat_of t room)

abbrev pub StatusFirstNo : Type 0
StatusFirstNo = (t : Terminal) (room : ℕ) → FirstNo t (call_questions t room) (status_of t room)

abbrev pub TakeFirstNo : Type 0
TakeFirstNo = (t : Terminal) (room : ℕ) → FirstNo t (call_questions t room) (take_of t room)

abbrev pub InviteFirstNo : Type 0
InviteFirstNo = (t : Terminal) (number room : ℕ) → FirstNo t (whole_questions t room) (invite_of t number room)

abbrev pub MakeFirstNo : Type 0
MakeFirstNo = (t : Terminal) (demand room : ℕ) → FirstNo t (make_questions t demand room) (make_of t demand room)

-- the sequencer's call for packets: question 7 says no to a frozen one's group's packets but those of a reset
abbrev pub order_questions : Terminal → List ℕ → ℕ → List Question
order_questions t packet room =
    let s : Sequencer = t.sequencer in
    let h : Header = header_of packet in
    sequencer.call_questions s room
    ++ (read_questions packet
    ++ (record { yes = from_elected s.group (content_of h); refusal = Refusal.ForbiddenFields }
    ∷ record { yes = h.group =? s.group.number and (when t.frozen then of_reset (content_of h) else true); refusal = Refusal.OtherGroup }
    ∷ drop 2 (sequencer.fields_questions s h)))

pub record OrderFirst (t : Terminal) (questions : List Question) (o : SequencerOutcome) : Type 0 where
  pub refuses : (refusal : Refusal) → first_no questions ≡ Err refusal → o ≡ ordered t (calls.refused t.sequencer refusal)
  pub accepts : (refusal : Refusal) → first_no questions ≡ all_yes → o.answer ≡ sequencerAnswer.Answer.Refused refusal → ⊥

abbrev pub OrderFirstNo : Type 0
OrderFirstNo = (t : Terminal) (packet : List ℕ) (room : ℕ) → OrderFirst t (order_questions t packet room) (order_of t packet room)

-- its poll and copy call ask the sequencer's questions
abbrev pub PollFirstNo : Type 0
PollFirstNo = (t : Terminal) (room : ℕ) → OrderFirst t (sequencer.call_questions t.sequencer room) (poll_of t room)

abbrev pub CopyFirstNo : Type 0
CopyFirstNo = (t : Terminal) (number : SequenceNumber) (room : ℕ) → OrderFirst t (sequencer.copy_questions t.sequencer number room) (copy_of t number room)

-- both ends are such that their types can hold them, and the arrays have their lengths
pub record Typed (t : Terminal) : Type 0 where
  pub member : member.Typed t.member
  pub sequencer : sequencer.Typed t.sequencer
  pub past : length t.kept.past ≡ places_most
  pub counts : length t.kept.counts ≡ members_most
  pub replies : length t.reset.replies ≡ members_most

-- a call leaves a sound terminal sound
abbrev pub SubmitKeeps : Type 0
SubmitKeeps =
    (t : Terminal) (payload : List ℕ) (room : ℕ) → Typed t → terminal_sound t ≡ true → terminal_sound (submit_of t payload room).terminal ≡ true

abbrev pub RepeatKeeps : Type 0
RepeatKeeps = (t : Terminal) (room : ℕ) → Typed t → terminal_sound t ≡ true → terminal_sound (repeat_of t room).terminal ≡ true

abbrev pub StatusKeeps : Type 0
StatusKeeps = (t : Terminal) (room : ℕ) → Typed t → terminal_sound t ≡ true → terminal_sound (status_of t room).terminal ≡ true

abbrev pub TakeKeeps : Type 0
TakeKeeps = (t : Terminal) (room : ℕ) → Typed t → terminal_sound t ≡ true → terminal_sound (take_of t room).terminal ≡ true

abbrev pub ReceiveKeeps : Type 0
ReceiveKeeps =
    (t : Terminal) (packet : List ℕ) (room : ℕ) → (header_of packet).a ≤ largest_number → Typed t → terminal_sound t ≡ true
    → terminal_sound (receive_of t packet room).terminal ≡ true

abbrev pub InviteKeeps : Type 0
InviteKeeps = (t : Terminal) (number room : ℕ) → Typed t → terminal_sound t ≡ true → terminal_sound (invite_of t number room).terminal ≡ true

abbrev pub MakeKeeps : Type 0
MakeKeeps = (t : Terminal) (demand room : ℕ) → Typed t → terminal_sound t ≡ true → terminal_sound (make_of t demand room).terminal ≡ true

-- and so does its sequencer's call for packets
abbrev pub OrderKeeps : Type 0
OrderKeeps =
    (t : Terminal) (packet : List ℕ) (room : ℕ) → (header_of packet).b ≤ largest_number → Typed t → t.sequencing ≡ true → terminal_sound t ≡ true
    → terminal_sound (order_of t packet room).terminal ≡ true

-- its poll and copy call
abbrev pub PollKeeps : Type 0
PollKeeps = (t : Terminal) (room : ℕ) → terminal_sound t ≡ true → terminal_sound (poll_of t room).terminal ≡ true

abbrev pub CopyKeeps : Type 0
CopyKeeps = (t : Terminal) (number : SequenceNumber) (room : ℕ) → terminal_sound t ≡ true → terminal_sound (copy_of t number room).terminal ≡ true

-- a terminal whose numbers, too, its types can hold: the highest floor read, counts, those of what is held, and its part in a reset
pub record Holds (t : Terminal) : Type 0 where
  pub typed : Typed t
  pub read : t.kept.read.0 ≤ largest_number
  pub counted : (i : ℕ) → get_or t.kept.counts i 0 ≤ largest_number
  pub held : (s : ℕ) → (message_at t.member.held s).count ≤ largest_number
  pub attempt : t.reset.attempt ≤ largest_number
  pub number : t.reset.number.0 ≤ largest_number
  pub invited : t.reset.invited ≤ largest_number
  pub repliers : t.reset.repliers < 2 ^ members_most
  pub replied : (i : ℕ) → get_or t.reset.replies i 0 ≤ largest_number

-- a call leaves such a terminal so
abbrev pub SubmitHolds : Type 0
SubmitHolds = (t : Terminal) (payload : List ℕ) (room : ℕ) → Holds t → Holds (submit_of t payload room).terminal

abbrev pub RepeatHolds : Type 0
RepeatHolds = (t : Terminal) (room : ℕ) → Holds t → Holds (repeat_of t room).terminal

abbrev pub StatusHolds : Type 0
StatusHolds = (t : Terminal) (room : ℕ) → Holds t → Holds (status_of t room).terminal

abbrev pub TakeHolds : Type 0
TakeHolds = (t : Terminal) (room : ℕ) → Holds t → Holds (take_of t room).terminal

abbrev pub ReceiveHolds : Type 0
ReceiveHolds = (t : Terminal) (packet : List ℕ) (room : ℕ) → Fits (header_of packet) → Holds t → terminal_sound t ≡ true → Holds (receive_of t packet room).terminal

abbrev pub InviteHolds : Type 0
InviteHolds = (t : Terminal) (number room : ℕ) → number ≤ largest_number → Holds t → terminal_sound t ≡ true → Holds (invite_of t number room).terminal

abbrev pub MakeHolds : Type 0
MakeHolds = (t : Terminal) (demand room : ℕ) → Holds t → terminal_sound t ≡ true → Holds (make_of t demand room).terminal

abbrev pub OrderHolds : Type 0
OrderHolds = (t : Terminal) (packet : List ℕ) (room : ℕ) → (header_of packet).b ≤ largest_number → Holds t → Holds (order_of t packet room).terminal

abbrev pub PollHolds : Type 0
PollHolds = (t : Terminal) (room : ℕ) → Holds t → Holds (poll_of t room).terminal

abbrev pub CopyHolds : Type 0
CopyHolds = (t : Terminal) (number : SequenceNumber) (room : ℕ) → Holds t → Holds (copy_of t number room).terminal
