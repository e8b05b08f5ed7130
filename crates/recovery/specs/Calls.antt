-- A terminal's calls: the member's, the sequencer's, inviting and making. Each goes down its questions in their order, and then takes its
-- step.
use Rattle.group.specs.Question.{all_yes}
use Rattle.std.specs.Prelude.{Ok, Err}
use Rattle.std.specs.Prelude.{Bool, true, false, List, [], ℕ, ◌+◌, set, replicate}
use Rattle.std.specs.Int.Bits.{bit_or}
use Rattle.std.specs.Int.Count.{ones}
use Rattle.group.specs.Choice.{when◌then◌else◌, ask◌or◌then◌, ◌and◌, ◌<?◌, ◌≤?◌, ◌=?◌}
use Rattle.group.specs.Limits.{members_most, longest_packet}
use Rattle.group.specs.Members.{only_of, is_in, is_within, all_of}
use Rattle.group.specs.Question.{judged}
use Rattle.group.specs.declared.MemberNumber.{MemberNumber}
use Rattle.group.specs.declared.SequenceNumber.{SequenceNumber}
use Rattle.group.specs.declared.Refusal.{Refusal}
use Rattle.group.specs.Question.{Verdict}
use Rattle.message.specs.Message.{Message}
use Rattle.big_endian.specs.Number.{bytes_of}
use Rattle.packet.specs.Packet.{content_of, fields_of, packet_of, payload_at, read_of, from_elected, survivors_in, survivors_size}
use Rattle.packet.specs.declared.Packet.{Packet}
use Rattle.packet.specs.Answers.{Reading}
use Rattle.history.specs.State as history
use Rattle.window.specs.Places as window
use Rattle.window.specs.Places.{larger_of}
use Rattle.member.specs.Calls as member
use Rattle.member.specs.State.{Member}
use Rattle.member.specs.declared.Answer.{Answer}
use Rattle.sequencer.specs.Calls as sequencer
use Rattle.sequencer.specs.State.{Sequencer}
use Rattle.sequencer.specs.declared.Answer as sequencerAnswer
use Rattle.recovery.specs.Begin.{cut_of, chosen_of, result_of}
use Rattle.recovery.specs.Sound.{member_sound, terminal_sound}
use Rattle.recovery.specs.State.{Kept, Reset, Terminal, fresh_kept, no_reset, no_sequencer, serves, reply_number, counted}

-- terminal i of a fresh group of n: its member is fresh, and member 0's terminal has the sequencer
abbrev pub fresh_terminal : ℕ → ℕ → ℕ → ℕ → Terminal
fresh_terminal n number resilience i =
    record {
      member = (member.fresh_of n (record { 0 = i }) number resilience).member;
      kept = fresh_kept;
      reset = no_reset;
      sequencing = i =? 0;
      frozen = false;
      sequencer = when i =? 0 then (sequencer.fresh_of n number resilience).sequencer else no_sequencer;
    }

-- what a call of the member's end comes to, and one of the sequencer's
pub record Outcome : Type 0 where
  pub terminal : Terminal
  pub answer : Answer
  pub bytes : List ℕ

pub record SequencerOutcome : Type 0 where
  pub terminal : Terminal
  pub answer : sequencerAnswer.Answer
  pub bytes : List ℕ

-- a no: the state is the same and nothing is written
unfoldable pub refused : Terminal → Refusal → Outcome
refused t refusal = record { terminal = t; answer = Answer.Refused refusal; bytes = [] }

-- parts of a terminal replaced
abbrev pub with_member : Terminal → Member → Kept → Terminal
with_member t m kept =
    record { member = m; kept = kept; reset = t.reset; sequencing = t.sequencing; frozen = t.frozen; sequencer = t.sequencer }

abbrev pub with_reset : Terminal → Reset → Bool → Terminal
with_reset t reset frozen =
    record { member = t.member; kept = t.kept; reset = reset; sequencing = t.sequencing; frozen = frozen; sequencer = t.sequencer }

abbrev pub with_sequencer : Terminal → Sequencer → Terminal
with_sequencer t s =
    record { member = t.member; kept = t.kept; reset = t.reset; sequencing = t.sequencing; frozen = t.frozen; sequencer = s }

-- what the member came to
abbrev pub carried : Terminal → Kept → member.Outcome → Outcome
carried t kept o = record { terminal = with_member t o.member kept; answer = o.answer; bytes = o.bytes }

-- questions 1 and 2: of the member's end, and of the whole terminal
unfoldable pub call_verdict : Terminal → ℕ → Verdict
call_verdict t room =
    ask member_sound t or Err Refusal.UnsoundState then
    ask longest_packet ≤? room or Err Refusal.ShortOutput then
    all_yes

unfoldable pub whole_verdict : Terminal → ℕ → Verdict
whole_verdict t room =
    ask terminal_sound t or Err Refusal.UnsoundState then
    ask longest_packet ≤? room or Err Refusal.ShortOutput then
    all_yes

-- submit, repeat and status are the member's
unfoldable pub submit_of : Terminal → List ℕ → ℕ → Outcome
submit_of t payload room = judged (call_verdict t room) (refused t) (carried t t.kept (member.submit_of t.member payload room))

unfoldable pub repeat_of : Terminal → ℕ → Outcome
repeat_of t room = judged (call_verdict t room) (refused t) (carried t t.kept (member.repeat_of t.member room))

unfoldable pub status_of : Terminal → ℕ → Outcome
status_of t room = judged (call_verdict t room) (refused t) (carried t t.kept (member.status_of t.member room))

-- what was taken is kept among the last 32, and its count
unfoldable pub kept_took : Kept → ℕ → Message → Kept
kept_took kept number message =
    record {
      read = kept.read;
      past = set kept.past (history.place_of number) message;
      counts = counted kept.counts message;
    }

-- take is the member's, and what it hands out is kept
unfoldable pub take_of : Terminal → ℕ → Outcome
take_of t room =
    let next : ℕ = t.member.taken.0 + 1 in
    judged (call_verdict t room) (refused t)
    (carried t
    (when member.is_ready t.member next then kept_took t.kept next (window.message_at t.member.held next) else t.kept)
    (member.take_of t.member room))

-- the floor that a packet says; 0: none
unfoldable pub floor_in : Packet → ℕ
floor_in (Packet.Request sender taken count) = 0
floor_in (Packet.Broadcast originator number count floor) = floor.0
floor_in (Packet.Gap sender taken first last) = 0
floor_in (Packet.Status sender taken) = 0
floor_in (Packet.Poll elected top floor) = floor.0
floor_in (Packet.Offer originator number count floor) = floor.0
floor_in (Packet.Confirm sender number) = 0
floor_in (Packet.Accept elected number) = 0
floor_in (Packet.Invitation sender attempt) = 0
floor_in (Packet.Reply sender attempt number) = 0
floor_in (Packet.Result sender attempt elected number) = 0

-- a packet of a reset
unfoldable pub of_reset : Packet → Bool
of_reset (Packet.Request sender taken count) = false
of_reset (Packet.Broadcast originator number count floor) = false
of_reset (Packet.Gap sender taken first last) = false
of_reset (Packet.Status sender taken) = false
of_reset (Packet.Poll elected top floor) = false
of_reset (Packet.Offer originator number count floor) = false
of_reset (Packet.Confirm sender number) = false
of_reset (Packet.Accept elected number) = false
of_reset (Packet.Invitation sender attempt) = true
of_reset (Packet.Reply sender attempt number) = true
of_reset (Packet.Result sender attempt elected number) = true

-- an answer that is a refusal
unfoldable pub is_refusal : Answer → Bool
is_refusal (Answer.Refused refusal) = true
is_refusal Answer.Sent = false
is_refusal (Answer.Queued count) = false
is_refusal Answer.Old = false
is_refusal Answer.Kept = false
is_refusal Answer.KeptGap = false
is_refusal Answer.Beyond = false
is_refusal Answer.BeyondGap = false
is_refusal Answer.Gap = false
is_refusal Answer.Status = false
is_refusal Answer.None = false
is_refusal Answer.Noted = false
is_refusal (Answer.Took number originator count more) = false

-- the highest floor read: of a packet that no question refused
unfoldable pub kept_read : Kept → Answer → ℕ → Kept
kept_read kept answer floor =
    when is_refusal answer then kept else
    record { read = record { 0 = larger_of kept.read.0 floor }; past = kept.past; counts = kept.counts }

-- what a packet of our group says to the member
unfoldable pub heard_of : Terminal → Packet → List ℕ → Outcome
heard_of t content payload =
    carried t (kept_read t.kept (member.content_step t.member content payload).answer (floor_in content))
    (member.content_step t.member content payload)

-- replying: from then on both ends refuse the old group's packets
abbrev pub replied : Terminal → ℕ → Reset
replied t attempt =
    record {
      replied = true;
      attempt = attempt;
      number = record { 0 = reply_number t };
      inviting = t.reset.inviting;
      invited = t.reset.invited;
      repliers = t.reset.repliers;
      replies = t.reset.replies;
    }

-- without an invitation of its own
abbrev pub uninvited : Reset → Reset
uninvited r =
    record {
      replied = r.replied;
      attempt = r.attempt;
      number = r.number;
      inviting = false;
      invited = 0;
      repliers = 0;
      replies = replicate members_most 0;
    }

-- inviting: it counts as replying
abbrev pub invitation : Terminal → ℕ → Reset
invitation t attempt =
    record {
      replied = true;
      attempt = attempt;
      number = record { 0 = reply_number t };
      inviting = true;
      invited = attempt;
      repliers = only_of t.member.number;
      replies = set (replicate members_most 0) t.member.number.0 (reply_number t);
    }

-- its group's sequencer is frozen with a reply
abbrev pub freezes : Terminal → Bool
freezes t = when serves t then true else t.frozen

-- one reply more; each one's first counts
unfoldable pub with_reply : Reset → MemberNumber → ℕ → Reset
with_reply r sender number =
    when is_in r.repliers sender.0 then r else
    record {
      replied = r.replied;
      attempt = r.attempt;
      number = r.number;
      inviting = r.inviting;
      invited = r.invited;
      repliers = bit_or r.repliers (only_of sender);
      replies = set r.replies sender.0 number;
    }

abbrev pub noted : Terminal → List ℕ → Outcome
noted t bytes = record { terminal = t; answer = Answer.Noted; bytes = bytes }

-- an invitation is answered with a reply; another's closes one's own
unfoldable pub invited_of : Terminal → MemberNumber → ℕ → Outcome
invited_of t sender attempt =
    noted
    (with_reset t (when sender.0 =? t.member.number.0 then replied t attempt else uninvited (replied t attempt)) (freezes t))
    (packet_of (fields_of t.member.group.number (Packet.Reply t.member.number attempt (record { 0 = reply_number t }))) [])

-- a result is of the last invitation replied to, with the receiver among its survivors, not below its reply, and, if it is elected, not
-- above it
unfoldable pub result_fits : Terminal → ℕ → MemberNumber → SequenceNumber → ℕ → Bool
result_fits t attempt elected number survivors =
    t.reset.replied
    and t.reset.attempt =? attempt
    and is_in survivors t.member.number.0
    and t.reset.number.0 ≤? number.0
    and (when elected.0 =? t.member.number.0 then number.0 ≤? t.reset.number.0 else true)

-- a packet of a reset under our group's number: questions 9 and 27
unfoldable pub reset_step : Terminal → Packet → List ℕ → Outcome
reset_step t (Packet.Request sender taken count) payload = refused t Refusal.OtherEnd
reset_step t (Packet.Broadcast originator number count floor) payload = refused t Refusal.OtherEnd
reset_step t (Packet.Gap sender taken first last) payload = refused t Refusal.OtherEnd
reset_step t (Packet.Status sender taken) payload = refused t Refusal.OtherEnd
reset_step t (Packet.Poll elected top floor) payload = refused t Refusal.OtherEnd
reset_step t (Packet.Offer originator number count floor) payload = refused t Refusal.OtherEnd
reset_step t (Packet.Confirm sender number) payload = refused t Refusal.OtherEnd
reset_step t (Packet.Accept elected number) payload = refused t Refusal.OtherEnd
reset_step t (Packet.Invitation sender attempt) payload =
    ask sender.0 <? t.member.group.n or refused t Refusal.UnknownMember then
    invited_of t sender attempt
reset_step t (Packet.Reply sender attempt number) payload =
    ask sender.0 <? t.member.group.n or refused t Refusal.UnknownMember then
    ask t.reset.inviting and t.reset.invited =? attempt or refused t Refusal.NotOfAttempt then
    noted (with_reset t (with_reply t.reset sender number.0) t.frozen) []
reset_step t (Packet.Result sender attempt elected number) payload =
    ask sender.0 <? t.member.group.n and is_within (survivors_in payload) (all_of t.member.group.n) or refused t Refusal.UnknownMember then
    ask result_fits t attempt elected number (survivors_in payload) or refused t Refusal.NotOfAttempt then
    noted (result_of t attempt elected number (survivors_in payload)) []

-- a packet that was read: question 6 of byte 1; of a reset question 1 of the whole terminal; 7, with no reply open but for a reset
unfoldable pub read_step : Terminal → Reading → List ℕ → Outcome
read_step t (Ok h) payload =
    ask from_elected t.member.group (content_of h) or refused t Refusal.ForbiddenFields then
    (when of_reset (content_of h)
    then (ask terminal_sound t or refused t Refusal.UnsoundState then
    ask h.group =? t.member.group.number or refused t Refusal.OtherGroup then
    reset_step t (content_of h) payload)
    else (ask (h.group =? t.member.group.number and (when t.reset.replied then false else true)) or refused t Refusal.OtherGroup then
    heard_of t (content_of h) payload))
read_step t (Err refusal) payload = refused t refusal

-- the member's call for packets
unfoldable pub receive_of : Terminal → List ℕ → ℕ → Outcome
receive_of t packet room = judged (call_verdict t room) (refused t) (read_step t (read_of packet) (payload_at packet))

-- inviting with a group number
unfoldable pub invite_of : Terminal → ℕ → ℕ → Outcome
invite_of t attempt room =
    judged (whole_verdict t room) (refused t)
    (record {
      terminal = with_reset t (invitation t attempt) (freezes t);
      answer = Answer.Sent;
      bytes = packet_of (fields_of t.member.group.number (Packet.Invitation t.member.number attempt)) [];
    })

-- making the group of all whose replies came, if they are as many as the call demands: questions 27, 26. The initiator has the result
unfoldable pub make_of : Terminal → ℕ → ℕ → Outcome
make_of t demand room =
    let r : Reset = t.reset in
    judged (whole_verdict t room) (refused t)
    (ask r.inviting or refused t Refusal.NotOfAttempt then
    ask demand ≤? ones r.repliers or refused t Refusal.FewSurvivors then
    record {
      terminal = result_of t r.invited (chosen_of r) (record { 0 = cut_of r }) r.repliers;
      answer = Answer.Sent;
      bytes =
          packet_of
          (fields_of t.member.group.number (Packet.Result t.member.number r.invited (chosen_of r) (record { 0 = cut_of r })))
          (bytes_of survivors_size r.repliers);
    })

-- the sequencer's calls: what it came to, and a no
abbrev pub ordered : Terminal → sequencer.Outcome → SequencerOutcome
ordered t o = record { terminal = with_sequencer t o.sequencer; answer = o.answer; bytes = o.bytes }

-- a packet that was read: question 6 of byte 1, then 7, of a frozen sequencer a no but for a reset
unfoldable pub ordered_step : Terminal → Reading → List ℕ → sequencer.Outcome
ordered_step t (Ok h) payload =
    let s : Sequencer = t.sequencer in
    ask from_elected s.group (content_of h) or sequencer.refused s Refusal.ForbiddenFields then
    ask (h.group =? s.group.number and (when t.frozen then of_reset (content_of h) else true)) or sequencer.refused s Refusal.OtherGroup then
    sequencer.content_step s (content_of h) payload
ordered_step t (Err refusal) payload = sequencer.refused t.sequencer refusal

unfoldable pub order_of : Terminal → List ℕ → ℕ → SequencerOutcome
order_of t packet room =
    ordered t (judged (sequencer.call_verdict t.sequencer room) (sequencer.refused t.sequencer) (ordered_step t (read_of packet) (payload_at packet)))

unfoldable pub poll_of : Terminal → ℕ → SequencerOutcome
poll_of t room = ordered t (sequencer.poll_of t.sequencer room)

unfoldable pub copy_of : Terminal → SequenceNumber → ℕ → SequencerOutcome
copy_of t number room = ordered t (sequencer.copy_of t.sequencer number room)
