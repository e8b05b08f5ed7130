-- The old count moves as a single count does: Old and Again put the sender's entry back with one repeat more, and every other
-- answer comes with entries that keep their own. Assumes nothing.
use Rattle.group.specs.Question.{all_yes}
use Rattle.std.specs.Prelude.{Ok, Err}
use mathlib.Core.Path.{◌≡◌, refl, sym, ap, ◌∙◌, subst}
use mathlib.Core.Bool.{Bool, true, false}
use mathlib.Core.List.{List}
use Prim.Native.Nat.{ℕ, ◌-◌, ◌<◌}
use native.Mathlib.Omega.{arith}
use lib.ListN.{length}
use Rattle.group.proofs.Choice.{when_was}
use Rattle.group.proofs.Lists.{when_elim, judged_elim}
use Rattle.group.proofs.Question.{accepted≢}
use Rattle.group.specs.Choice.{when◌then◌else◌, ◌and◌, ◌<?◌, ◌≤?◌, ◌=?◌}
use Rattle.group.specs.Limits.{members_most, places_most}
use Rattle.group.specs.Opening.{open_of}
use Rattle.group.specs.declared.MemberNumber.{MemberNumber}
use Rattle.group.specs.Opening.{Opened}
use Rattle.group.specs.declared.Refusal.{Refusal}
use Rattle.group.specs.declared.Refusal.TheVariants.{UnsoundState, ForbiddenFields, OtherGroup}
use Rattle.group.specs.declared.SequenceNumber.{SequenceNumber}
use Rattle.packet.proofs.Verdicts.{readable}
use Rattle.packet.specs.Packet.{request_kind, broadcast_kind, gap_kind, status_kind, poll_kind, offer_kind, confirm_kind, accept_kind, invitation_kind, reply_kind, from_elected, header_of, payload_at, read_of, content_of}
use Rattle.packet.specs.declared.Header.{Header}
use Rattle.packet.specs.declared.Packet.{Packet}
use Rattle.packet.specs.declared.Packet.TheVariants.{Request, Broadcast, Gap, Status, Poll, Offer, Confirm, Accept, Invitation, Result}
use Rattle.packet.specs.Answers.{Reading}
use Rattle.history.proofs.Repeating.{repeats_same, repeats_more, repeats_none}
use Rattle.history.specs.Ask.{sender_verdict, count_verdict, wanted_verdict, expected_verdict}
use Rattle.history.specs.Note.{table_noted}
use Rattle.history.specs.Repeat.{one_more, repeats_of}
use Rattle.sequencer.specs.Calls.{Outcome, answered, refused, repeated_of, old_of, again_of, full_of, with_message, numbered_of, request_of, gap_of, with_mark, with_accepted, enough_in, settled_of, confirm_of, content_step, read_step, call_verdict, receive_of, poll_of, copy_of, opened_of, fresh_of}
use Rattle.sequencer.specs.Laws.{Typed, is_repeat, OldCount, ReceiveOldCount, PollOldCount, CopyOldCount, FreshOldCount}
use Rattle.sequencer.specs.Note.{with_table, note_of}
use Rattle.sequencer.specs.Sound.{sound_of}
use Rattle.sequencer.specs.State.{Sequencer, last_count, fresh_sequencer}
use Rattle.sequencer.specs.declared.Answer.TheVariants.{Noted}
use Rattle.sequencer.proofs.Keeping.{sender_in}
use Rattle.sequencer.proofs.Noting.{noted_length}
use Rattle.sequencer.proofs.Soundness.{Sound, sound_of_lem}

module _ (s : Sequencer) (m : MemberNumber) (inside : m.0 < length s.acknowledgements) where
  repeated_more : repeats_of (repeated_of s m).acknowledgements ≡ one_more (repeats_of s.acknowledgements)
  unfolding repeated_of
  repeated_more = repeats_more s.acknowledgements m.0 _ inside refl

  numbered_same : (count : ℕ) (payload : List ℕ) → repeats_of (with_message s m count payload).acknowledgements ≡ repeats_of s.acknowledgements
  unfolding with_message
  numbered_same count payload = repeats_same s.acknowledgements m.0 _ inside refl

  noted_same : (taken : SequenceNumber) → repeats_of (note_of s m taken).acknowledgements ≡ repeats_of s.acknowledgements
  unfolding note_of with_table table_noted
  noted_same taken = repeats_same s.acknowledgements m.0 _ inside refl

  again_count : (number : ℕ) → OldCount s true (again_of s m number)
  unfolding again_of old_of answered is_repeat when◌then◌else◌
  again_count number = when_elim (OldCount s true) (number =? 0) (λ t. repeated_more) (λ t. repeated_more)

  -- a request, once A is noted
  request_count : (count : ℕ) (payload : List ℕ) → OldCount s true (request_of s m count payload)
  unfolding request_of old_of answered full_of numbered_of is_repeat when◌then◌else◌
  request_count count payload =
      when_elim (OldCount s true) (count <? last_count s m) (λ a. repeated_more)
      (λ a. when_elim (OldCount s true) (count =? last_count s m) (λ b. again_count _)
      (λ b. when_elim (OldCount s true) (s.top.0 - s.floor.0 =? places_most) (λ c. refl) (λ c. numbered_same count payload)))

  -- what moves the old count of the noted state so moves that of the state
  noted_count : (taken : SequenceNumber) (request : Bool) (o : Outcome) → OldCount (note_of s m taken) request o → OldCount s request o
  noted_count taken request o =
      subst (λ (k : ℕ). repeats_of o.sequencer.acknowledgements ≡ (when request and is_repeat o.answer then one_more k else k)) (noted_same taken)

gap_count : (s : Sequencer) (first last : SequenceNumber) → OldCount s false (gap_of s first last)
unfolding gap_of answered is_repeat when◌then◌else◌
gap_count s first last = when_elim (OldCount s false) (last.0 ≤? s.floor.0) (λ t. refl) (λ t. refl)

-- a confirmation notes nothing
confirm_count : (s : Sequencer) (m : MemberNumber) (number : SequenceNumber) → OldCount s false (confirm_of s m number)
unfolding confirm_of settled_of with_mark with_accepted answered is_repeat when◌then◌else◌
confirm_count s m number =
    when_elim (OldCount s false) (number.0 ≤? s.accepted.0) (λ t. refl)
    (λ t. when_elim (OldCount s false) (enough_in (with_mark s m number) =? 0) (λ e. refl) (λ e. refl))

-- a refusal changes nothing
refused_count : (s : Sequencer) (request : Bool) (refusal : Refusal) → OldCount s request (refused s refusal)
unfolding answered is_repeat when◌then◌else◌
refused_count s true refusal = refl
refused_count s false refusal = refl

-- what a packet says is a request, or it is not
abbrev is_request : Packet → Bool
is_request (Request sender taken count) = true
is_request (Broadcast originator number count floor) = false
is_request (Gap sender taken first last) = false
is_request (Status sender taken) = false
is_request (Poll elected top floor) = false
is_request (Offer originator number count floor) = false
is_request (Confirm sender number) = false
is_request (Accept elected number) = false
is_request (Invitation sender attempt) = false
is_request (Packet.Reply sender attempt number) = false
is_request (Result sender attempt elected number) = false

request_kind_lem : (h : Header) → is_request (content_of h) ≡ (h.kind =? request_kind)
unfolding content_of
request_kind_lem h =
    let P : Packet → Type 0 = λ p. is_request p ≡ (h.kind =? request_kind) in
    when_elim P (h.kind =? request_kind) (λ a. sym a)
    (λ a. when_elim P (h.kind =? broadcast_kind) (λ b. sym a)
    (λ b. when_elim P (h.kind =? gap_kind) (λ c. sym a)
    (λ c. when_elim P (h.kind =? status_kind) (λ d. sym a)
    (λ d. when_elim P (h.kind =? poll_kind) (λ e. sym a)
    (λ e. when_elim P (h.kind =? offer_kind) (λ f. sym a)
    (λ f. when_elim P (h.kind =? confirm_kind) (λ g. sym a)
    (λ g. when_elim P (h.kind =? accept_kind) (λ i. sym a)
    (λ i. when_elim P (h.kind =? invitation_kind) (λ j. sym a)
    (λ j. when_elim P (h.kind =? reply_kind) (λ k. sym a) (λ k. sym a))))))))))

module _ (s : Sequencer) (typed : Typed s) (sound : Sound s) where
  -- an accepted sender has an entry, in the noted table too
  module _ (sender : MemberNumber) (taken : SequenceNumber) (e : sender_verdict s.group.survivors s.accepted.0 sender taken ≡ all_yes) where
    inside : sender.0 < length s.acknowledgements
    inside = let a = sender_in s sound s.accepted.0 sender taken e in omega arith

    inside' : sender.0 < length (note_of s sender taken).acknowledgements
    unfolding note_of with_table
    inside' =
        let a = sender_in s sound s.accepted.0 sender taken e in
        let l = noted_length s sender taken typed.table sound a.0 in
        omega arith

    once_noted : (request : Bool) (o : Outcome) → OldCount (note_of s sender taken) request o → OldCount s request o
    once_noted = noted_count s sender inside taken

  content_count : (packet : Packet) (payload : List ℕ) → OldCount s (is_request packet) (content_step s packet payload)
  unfolding content_step answered is_repeat when◌then◌else◌
  content_count (Request sender taken count) payload =
      judged_elim (OldCount s true) (sender_verdict s.group.survivors s.accepted.0 sender taken) (λ r e. refl)
      (λ e. judged_elim (OldCount s true) (count_verdict (last_count s sender) s.top.0 count) (λ r f. refl)
      (λ f. once_noted sender taken e true (request_of (note_of s sender taken) sender count payload)
      (request_count (note_of s sender taken) sender (inside' sender taken e) count payload)))
  content_count (Broadcast originator number count floor) payload = refl
  content_count (Gap sender taken first last) payload =
      judged_elim (OldCount s false) (sender_verdict s.group.survivors s.accepted.0 sender taken) (λ r e. refl)
      (λ e. judged_elim (OldCount s false) (wanted_verdict s.top.0 last) (λ r f. refl)
      (λ f. once_noted sender taken e false (gap_of (note_of s sender taken) first last) (gap_count (note_of s sender taken) first last)))
  content_count (Status sender taken) payload =
      judged_elim (OldCount s false) (sender_verdict s.group.survivors s.accepted.0 sender taken) (λ r e. refl)
      (λ e. once_noted sender taken e false (answered (note_of s sender taken) Noted) refl)
  content_count (Poll elected top floor) payload = refl
  content_count (Offer originator number count floor) payload = refl
  content_count (Confirm sender number) payload =
      judged_elim (OldCount s false) (sender_verdict s.group.survivors s.top.0 sender number) (λ r e. refl)
      (λ e. judged_elim (OldCount s false) (expected_verdict s.group s.accepted.0 sender number) (λ r f. refl)
      (λ f. confirm_count s sender number))
  content_count (Accept elected number) payload = refl
  content_count (Invitation sender attempt) payload = refl
  content_count (Packet.Reply sender attempt number) payload = refl
  content_count (Result sender attempt elected number) payload = refl

  read_count : (p : List ℕ) (reading : Reading) → read_of p ≡ reading → OldCount s ((header_of p).kind =? request_kind) (read_step s reading (payload_at p))
  unfolding read_step
  read_count p (Ok h) e =
      let request = (header_of p).kind =? request_kind in
      let same : is_request (content_of h) ≡ request = request_kind_lem h ∙ ap (λ (x : Header). x.kind =? request_kind) (readable p h e).header in
      when_elim (OldCount s request) (from_elected s.group (content_of h))
      (λ u. when_elim (OldCount s request) (h.group =? s.group.number)
      (λ t. subst (λ (b : Bool). OldCount s b (content_step s (content_of h) (payload_at p))) same (content_count (content_of h) (payload_at p)))
      (λ t. refused_count s request OtherGroup))
      (λ u. refused_count s request ForbiddenFields)
  read_count p (Err refusal) e = refused_count s ((header_of p).kind =? request_kind) refusal

pub receive_old_count : ReceiveOldCount
unfolding receive_of call_verdict
receive_old_count s packet room typed =
    let request = (header_of packet).kind =? request_kind in
    judged_elim (OldCount s request) (call_verdict s room) (λ r e. refused_count s request r)
    (λ e.
    let sound = sound_of_lem s (when_was (sound_of s) _ _ all_yes e (accepted≢ UnsoundState)).0 in
    read_count s typed sound packet (read_of packet) refl)

pub poll_old_count : PollOldCount
unfolding poll_of answered is_repeat when◌then◌else◌
poll_old_count s room = judged_elim (OldCount s false) (call_verdict s room) (λ r e. refl) (λ e. refl)

pub copy_old_count : CopyOldCount
unfolding copy_of answered is_repeat when◌then◌else◌
copy_old_count s number room =
    judged_elim (OldCount s false) (call_verdict s room) (λ r e. refl)
    (λ e. when_elim (OldCount s false) (s.floor.0 <? number.0 and number.0 ≤? s.top.0) (λ t. refl) (λ t. refl))

opened_none : (opened : Opened) → repeats_of (opened_of opened).sequencer.acknowledgements ≡ 0
unfolding opened_of fresh_sequencer
opened_none (Ok group) = repeats_none members_most
opened_none (Err refusal) = repeats_none members_most

pub fresh_old_count : FreshOldCount
unfolding fresh_of
fresh_old_count n number resilience = opened_none (open_of n number resilience)
