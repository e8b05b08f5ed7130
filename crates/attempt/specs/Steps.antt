-- What the steps inside the code promise, in terms of the meaning. No call's promise speaks of these.
use Rattle.group.specs.Question.{all_yes}
use Rattle.std.specs.Prelude.{Err}
use Rattle.std.specs.Prelude.{◌≡◌, Bool, true, List, [], ℕ, length, set, replicate}
use Rattle.std.specs.Int.Bits.{bit_or}
use Rattle.std.specs.Int.Count.{ones}
use Rattle.group.specs.Choice.{when◌then◌else◌, ask◌or◌then◌, ◌and◌, ◌<?◌, ◌≤?◌, ◌=?◌}
use Rattle.group.specs.Lent.{front}
use Rattle.group.specs.Limits.{members_most, longest_packet}
use Rattle.group.specs.Members.{only_of, is_in, is_within, all_of}
use Rattle.group.specs.declared.MemberNumber.{MemberNumber}
use Rattle.group.specs.declared.Refusal.{Refusal}
use Rattle.group.specs.declared.SequenceNumber.{SequenceNumber}
use Rattle.group.specs.Question.{Verdict}
use Rattle.big_endian.specs.Number.{bytes_of}
use Rattle.packet.specs.Packet.{invitation_kind, fields_of, packet_of, survivors_size}
use Rattle.packet.specs.declared.Header.{Header}
use Rattle.packet.specs.declared.Packet.{Packet}
use Rattle.member.specs.declared.Answer.{Answer}
use Rattle.recovery.specs.Begin.{cut_of, chosen_of, result_of}
use Rattle.recovery.specs.Calls.{Outcome, reset_step}
use Rattle.recovery.specs.Promise.{called, Changed}
use Rattle.recovery.specs.State.{Reset, Terminal}
use Rattle.recovery.specs.Steps.{serves_in, reply_in}
use Rattle.recovery.specs.View.{whole, view_of}
use Rattle.recovery.specs.declared.Head.{Head}
use Rattle.attempt.specs.declared.Done.{Done}

-- what a step comes to that changes the head and the replies alone
pub record Step : Type 0 where
  pub head : Head
  pub replies : List ℕ
  pub answer : Answer
  pub bytes : List ℕ

-- the code's: its result, the replies and the lent output that it leaves
pub record Takes (x : Step) (done : Done) (left before after : List ℕ) : Type 0 where
  pub result : done ≡ record { head = x.head; reply = record { answer = x.answer; written = length x.bytes } }
  pub replies_are : left ≡ x.replies
  pub lent : after ≡ front x.bytes before

-- nothing is written
abbrev pub Tells : Step → Done → List ℕ → Type 0
Tells x done left = (out : List ℕ) → Takes x done left out out

-- a no
abbrev pub declined_step : Head → List ℕ → Refusal → Step
declined_step head replies refusal = record { head = head; replies = replies; answer = Answer.Refused refusal; bytes = [] }

-- a reply is open to an attempt, with a number, and its group's sequencer is frozen
abbrev pub replied_head : Head → ℕ → SequenceNumber → Head
replied_head head attempt number =
    record {
      member = head.member;
      sequencer = head.sequencer;
      read = head.read;
      attempt = attempt;
      number = number;
      invited = head.invited;
      repliers = head.repliers;
      replied = 1;
      inviting = head.inviting;
      sequencing = head.sequencing;
      frozen = when serves_in head then 1 else head.frozen;
    }

-- whether its own invitation is open, with which number, and whose replies came
abbrev pub invitation_head : Head → ℕ → ℕ → ℕ → Head
invitation_head head inviting invited repliers =
    record {
      member = head.member;
      sequencer = head.sequencer;
      read = head.read;
      attempt = head.attempt;
      number = head.number;
      invited = invited;
      repliers = repliers;
      replied = head.replied;
      inviting = inviting;
      sequencing = head.sequencing;
      frozen = head.frozen;
    }

-- inviting: it counts as replying
unfoldable pub invite_step : Head → List ℕ → ℕ → Step
invite_step head held attempt =
    record {
      head = invitation_head (replied_head head attempt (record { 0 = reply_in head held })) 1 attempt (only_of head.member.number);
      replies = set (replicate members_most 0) head.member.number.0 (reply_in head held);
      answer = Answer.Sent;
      bytes = packet_of (fields_of head.member.group.number (Packet.Invitation head.member.number attempt)) [];
    }

-- an invitation is answered with a reply: question 9. Another's closes one's own
abbrev pub reply_packet : Head → List ℕ → ℕ → List ℕ
reply_packet head held attempt =
    packet_of (fields_of head.member.group.number (Packet.Reply head.member.number attempt (record { 0 = reply_in head held }))) []

unfoldable pub reply_step : Head → List ℕ → List ℕ → MemberNumber → ℕ → Step
reply_step head held replies sender attempt =
    let next : Head = replied_head head attempt (record { 0 = reply_in head held }) in
    ask sender.0 <? head.member.group.n or declined_step head replies Refusal.UnknownMember then
    (when sender.0 =? head.member.number.0
    then record { head = next; replies = replies; answer = Answer.Noted; bytes = reply_packet head held attempt }
    else record { head = invitation_head next 0 0 0; replies = replicate members_most 0; answer = Answer.Noted; bytes = reply_packet head held attempt })

-- its invitation is open with that number
unfoldable pub awaits_in : Head → ℕ → Bool
awaits_in head attempt = head.inviting =? 1 and head.invited =? attempt

-- a reply to its invitation is noted, each one's first: questions 9 and 27
unfoldable pub note_step : Head → List ℕ → MemberNumber → ℕ → ℕ → Step
note_step head replies sender attempt number =
    ask sender.0 <? head.member.group.n or declined_step head replies Refusal.UnknownMember then
    ask awaits_in head attempt or declined_step head replies Refusal.NotOfAttempt then
    (when is_in head.repliers sender.0
    then record { head = head; replies = replies; answer = Answer.Noted; bytes = [] }
    else record {
      head = invitation_head head head.inviting head.invited (bit_or head.repliers (only_of sender));
      replies = set replies sender.0 number;
      answer = Answer.Noted;
      bytes = [];
    })

-- a packet of kind 9 or 10
unfoldable pub answer_step : Head → List ℕ → List ℕ → Header → Step
answer_step head held replies h =
    when h.kind =? invitation_kind then reply_step head held replies h.member h.a else note_step head replies h.member h.a h.b

-- a result is of the last invitation replied to, with the terminal among its survivors, not below its reply, and, if it is elected, not above
-- it
unfoldable pub fits_in : Head → ℕ → MemberNumber → SequenceNumber → ℕ → Bool
fits_in head attempt elected number survivors =
    head.replied =? 1
    and head.attempt =? attempt
    and is_in survivors head.member.number.0
    and head.number.0 ≤? number.0
    and (when elected.0 =? head.member.number.0 then number.0 ≤? head.number.0 else true)

-- questions 9 and 27 of a result
unfoldable pub result_verdict : Head → MemberNumber → ℕ → MemberNumber → SequenceNumber → ℕ → Verdict
result_verdict head sender attempt elected number survivors =
    ask sender.0 <? head.member.group.n and is_within survivors (all_of head.member.group.n) or Err Refusal.UnknownMember then
    ask fits_in head attempt elected number survivors or Err Refusal.NotOfAttempt then
    all_yes

-- what a result comes to, whatever the waiting messages are: nothing is written
abbrev pub Results : Head → List ℕ → List ℕ → List ℕ → List ℕ → List ℕ → List ℕ → List ℕ → List ℕ → List ℕ → List ℕ → List ℕ → List ℕ → List ℕ → List ℕ → List ℕ → List ℕ → List ℕ → List ℕ → Header → List ℕ → Done → List ℕ → List ℕ → List ℕ → List ℕ → List ℕ → List ℕ → List ℕ → List ℕ → List ℕ → List ℕ → List ℕ → List ℕ → List ℕ → Type 0
Results head held held_originators held_lengths held_payloads past past_originators past_lengths past_payloads highest replies taken counts repeats kept marks originators lengths payloads h payload done held' held_originators' held_lengths' held_payloads' replies' taken' counts' repeats' kept' marks' originators' lengths' payloads' =
    (queued queued_originators queued_lengths queued_payloads before : List ℕ)
    → Changed (called (λ t. reset_step t (Packet.Result h.member h.a (record { 0 = h.b }) (record { 0 = h.c })) payload) (view_of (whole head queued held queued_originators queued_lengths held_originators held_lengths queued_payloads held_payloads past past_originators past_lengths past_payloads highest replies taken counts repeats kept marks originators lengths payloads))) done.reply (whole done.head queued held' queued_originators queued_lengths held_originators' held_lengths' queued_payloads held_payloads' past past_originators past_lengths past_payloads highest replies' taken' counts' repeats' kept' marks' originators' lengths' payloads') before before

-- questions 2, 27 and 26 of making
unfoldable pub make_verdict : Head → ℕ → ℕ → Verdict
make_verdict head demand room =
    ask longest_packet ≤? room or Err Refusal.ShortOutput then
    ask head.inviting =? 1 or Err Refusal.NotOfAttempt then
    ask demand ≤? ones head.repliers or Err Refusal.FewSurvivors then
    all_yes

-- making, behind its questions
unfoldable pub made_of : Terminal → Outcome
made_of t =
    let r : Reset = t.reset in
    record {
      terminal = result_of t r.invited (chosen_of r) (record { 0 = cut_of r }) r.repliers;
      answer = Answer.Sent;
      bytes =
          packet_of
          (fields_of t.member.group.number (Packet.Result t.member.number r.invited (chosen_of r) (record { 0 = cut_of r })))
          (bytes_of survivors_size r.repliers);
    }

abbrev pub Makes : Head → List ℕ → List ℕ → List ℕ → List ℕ → List ℕ → List ℕ → List ℕ → List ℕ → List ℕ → List ℕ → List ℕ → List ℕ → List ℕ → List ℕ → List ℕ → List ℕ → List ℕ → List ℕ → Done → List ℕ → List ℕ → List ℕ → List ℕ → List ℕ → List ℕ → List ℕ → List ℕ → List ℕ → List ℕ → List ℕ → List ℕ → List ℕ → List ℕ → List ℕ → Type 0
Makes head held held_originators held_lengths held_payloads past past_originators past_lengths past_payloads highest replies taken counts repeats kept marks originators lengths payloads done held' held_originators' held_lengths' held_payloads' replies' taken' counts' repeats' kept' marks' originators' lengths' payloads' before after =
    (queued queued_originators queued_lengths queued_payloads : List ℕ)
    → Changed (called made_of (view_of (whole head queued held queued_originators queued_lengths held_originators held_lengths queued_payloads held_payloads past past_originators past_lengths past_payloads highest replies taken counts repeats kept marks originators lengths payloads))) done.reply (whole done.head queued held' queued_originators queued_lengths held_originators' held_lengths' queued_payloads held_payloads' past past_originators past_lengths past_payloads highest replies' taken' counts' repeats' kept' marks' originators' lengths' payloads') before after
