-- Every call of a member keeps the state within its types and sound, and writes nothing or a packet that reading accepts: the
-- call's text, a choice at a time. Assumes nothing.
use Rattle.group.specs.Question.{all_yes}
use Rattle.std.specs.Prelude.{Ok}
use mathlib.Core.Path.{◌≡◌, refl, ap, ◌∙◌}
use mathlib.Core.Bool.{true}
use mathlib.Core.List.{List, [], ◌∷◌}
use mathlib.Core.Logic.{◌⊎◌, inl, inr}
use Prim.Native.Nat.{ℕ, ◌+◌, ◌-◌, ◌≤◌, ◌<◌}
use native.Mathlib.Omega.{arith}
use borrow.Author.Tests.{leb-true, ltb-true}
use lib.ListN.{length}
use Rattle.group.specs.Choice.{when◌then◌else◌, ◌<?◌, ◌≤?◌, ◌=?◌}
use Rattle.group.specs.Limits.{header_size, payload_most, waiting_most, largest_number}
use Rattle.group.specs.Members.{needed_of}
use Rattle.group.specs.declared.MemberNumber.{MemberNumber}
use Rattle.group.specs.declared.Refusal.{Refusal}
use Rattle.group.proofs.Choice.{when_was, both_first, both_then, says}
use Rattle.group.proofs.Question.{accepted≢}
use Rattle.group.proofs.Lists.{when_elim, judged_elim, All}
use Rattle.message.specs.Message.{message_of, payload_of}
use Rattle.message.proofs.Kept.{kept_zero, payload_short}
use Rattle.packet.specs.Laws.{Allowed}
use Rattle.packet.specs.Packet.{header_of, obeys, content_of, fields_of, packet_of, payload_at, read_of, written}
use Rattle.packet.specs.declared.Header.{Header}
use Rattle.packet.specs.declared.Packet.{Packet}
use Rattle.packet.specs.declared.Packet.TheVariants.{Request, Broadcast, Gap, Status, Poll, Offer, Confirm, Accept, Invitation, Result}
use Rattle.packet.proofs.Facts.{KnownBy}
use Rattle.packet.proofs.Laws.{read_written, fields_content}
use Rattle.packet.proofs.Verdicts.{readable, askable}
use Rattle.member.specs.Calls.{Outcome, answered, first_waiting, request_packet, status_packet, call_verdict, submit_verdict, with_waiting, submit_of, repeat_of, status_of, read_step, receive_of, with_accepted, with_taken, is_ready, took_of, take_of}
use Rattle.member.specs.Laws.{Typed, Keeps, WritesPacket, SubmitKeeps, RepeatKeeps, StatusKeeps, ReceiveKeeps, TakeKeeps}
use Rattle.member.specs.Sound.{sound_of}
use Rattle.window.specs.Places.{message_at, is_held}
use Rattle.member.specs.State.{Member, acknowledged_of, first_count}
use Rattle.member.specs.declared.Answer.{Answer}
use Rattle.member.proofs.Keeping.{waiting_typed, waiting_sound_lem, accepted_typed, accepted_sound, held_typed, held_sound_lem, taken_typed, taken_sound}
use Rattle.member.proofs.Invariant.{voice_with}
use Rattle.member.proofs.Receiving.{Holdable, Keepable, read_heard}
use Rattle.member.proofs.Soundness.{Sound, sound_of_lem, of_sound}
use Rattle.member.proofs.Writes.{Own, request_allowed, status_allowed}

-- what a call that goes past questions 1 and 2 was asked
pub call_sound : (m : Member) (room : ℕ) → call_verdict m room ≡ all_yes → sound_of m ≡ true
unfolding call_verdict
call_sound m room e = (when_was (sound_of m) _ _ all_yes e (accepted≢ Refusal.UnsoundState)).0

-- what a submission that is accepted was asked
pub record Submittable (m : Member) (size : ℕ) : Type 0 where
  pub short : size ≤ payload_most
  pub less : m.waiting < waiting_most
  pub left : m.submitted < largest_number

pub submittable : (m : Member) (size : ℕ) → submit_verdict m size ≡ all_yes → Submittable m size
unfolding submit_verdict
submittable m size e =
    let a = when_was (size ≤? payload_most) _ _ all_yes e (accepted≢ Refusal.LongPayload) in
    let b = when_was (m.waiting <? waiting_most) _ _ all_yes a.1 (accepted≢ Refusal.AlreadyWaiting) in
    let c = when_was (m.submitted <? largest_number) _ _ all_yes b.1 (accepted≢ Refusal.NumbersUsedUp) in
    record { short = leb-true size payload_most a.0; less = ltb-true m.waiting waiting_most b.0; left = ltb-true m.submitted largest_number c.0 }

module _ (m : Member) (typed : Typed m) where
  -- a sound state within its types, left by a call
  kept : (m' : Member) (answer : Answer) (bytes : List ℕ) → Typed m' → Sound m' → Keeps m (record { member = m'; answer = answer; bytes = bytes })
  kept m' answer bytes t s = record { typed = t; sound = λ _. of_sound m' s }

  same : (answer : Answer) (bytes : List ℕ) → Keeps m (record { member = m; answer = answer; bytes = bytes })
  same answer bytes = record { typed = typed; sound = λ e. e }

  abbrev Good : Outcome → Type 0
  Good o = Keeps m o × WritesPacket o

  quiet : (answer : Answer) → Good (answered m answer)
  unfolding answered
  quiet answer = (same answer [], inl refl)

writes : (bytes : List ℕ) (g : ℕ) (content : Packet) (payload : List ℕ) → bytes ≡ packet_of (fields_of g content) payload → Allowed (fields_of g content) payload
    → (bytes ≡ []) ⊎ ((h : Header) × (read_of bytes ≡ Ok h))
writes bytes g content payload e a = inr (fields_of g content, ap read_of e ∙ (read_written (fields_of g content) payload a).0)

request_writes : (m : Member) (answer : Answer) → Typed m → Sound m → 1 ≤ m.waiting → WritesPacket (record { member = m; answer = answer; bytes = request_packet m })
unfolding request_packet
request_writes m answer typed s waits =
    writes _ m.group.number (Request m.number (acknowledged_of m) (first_count m)) (payload_of (first_waiting m)) refl (request_allowed m typed s waits)

pub submit_keeps : SubmitKeeps
unfolding submit_of with_waiting answered
submit_keeps m payload room typed =
    judged_elim (Good m typed) (call_verdict m room) (λ r _. quiet m typed (Answer.Refused r))
    (λ e. judged_elim (Good m typed) (submit_verdict m (length payload)) (λ r _. quiet m typed (Answer.Refused r))
    (λ f. let a = submittable m (length payload) f in
    let s = waiting_sound_lem m typed payload a.short a.less (sound_of_lem m (call_sound m room e)) in
    let t = waiting_typed m typed payload a.left in
    when_elim (Good m typed) (m.waiting =? 0)
    (λ _. (kept m typed (with_waiting m payload) Answer.Sent _ t s, request_writes (with_waiting m payload) Answer.Sent t s (omega arith)))
    (λ _. (kept m typed (with_waiting m payload) _ _ t s, inl refl))))

pub repeat_keeps : RepeatKeeps
unfolding repeat_of
repeat_keeps m room typed =
    judged_elim (Good m typed) (call_verdict m room) (λ r _. quiet m typed (Answer.Refused r))
    (λ e. when_elim (Good m typed) (1 ≤? m.waiting)
    (λ f. let s = sound_of_lem m (call_sound m room e) in
    (same m typed Answer.Sent _, request_writes m Answer.Sent typed s (leb-true 1 m.waiting f)))
    (λ _. quiet m typed (Answer.Refused Refusal.NothingWaiting)))

pub status_keeps : StatusKeeps
unfolding status_of status_packet
status_keeps m room typed =
    judged_elim (Good m typed) (call_verdict m room) (λ r _. quiet m typed (Answer.Refused r))
    (λ e. (
      same m typed Answer.Sent _,
      writes _ m.group.number (Status m.number (acknowledged_of m)) [] refl (status_allowed m typed (sound_of_lem m (call_sound m room e))),
    ))

pub take_keeps : TakeKeeps
unfolding take_of is_ready took_of answered
take_keeps m room typed =
    judged_elim Took (call_verdict m room) (λ r _. none (Answer.Refused r))
    (λ e. when_elim Took (is_ready m (m.taken.0 + 1))
    (λ t. let f = both_first (is_held m.held (m.taken.0 + 1)) _ t in
    let ready = leb-true (m.taken.0 + 1) m.accepted.0 (both_then (is_held m.held (m.taken.0 + 1)) _ t) in
    let s = sound_of_lem m (call_sound m room e) in
    let x = message_at m.held (m.taken.0 + 1) in
    let h = s.places.holds (m.taken.0 + 1) (omega arith) (omega arith) (ltb-true 0 x.count f) in
    (kept m typed (with_taken m x) _ _ (taken_typed m typed x (let z = h.number_le in omega arith)) (taken_sound m typed x s ready), payload_short x h.short))
    (λ _. none Answer.None))
  where
    Took : Outcome → Type 0
    Took o = Keeps m o × (length o.bytes ≤ payload_most)

    none : (answer : Answer) → Took (answered m answer)
    none answer = ((quiet m typed answer).0, omega arith)

-- the state of a packet call: within its types, and sound
abbrev pub Right : Member → Type 0
Right m = Typed m × Sound m

-- a message that was read may be held
holdable : (m : Member) (originator : MemberNumber) (number count : ℕ) (payload : List ℕ) → 1 ≤ count → number ≤ largest_number → length payload ≤ payload_most → Right m
    → Holdable Right m originator number count payload
unfolding message_of
holdable m originator number count payload least most short (typed, s) =
    λ a lo hi _. (
      held_typed m typed number (message_of originator count payload),
      held_sound_lem m typed number (message_of originator count payload) lo hi least
          (record { originator_lt = a; short = short; zero_behind_lem = kept_zero originator count payload; number_le = most }) s,
    )

-- and all up to a number that was read may be accepted
acceptable : (m : Member) (number : ℕ) → number ≤ largest_number → Right m → Right (with_accepted m number)
acceptable m number most (typed, s) = (accepted_typed m typed number most, accepted_sound m typed number s)

keepable : (m : Member) (g : ℕ) (content : Packet) (payload : List ℕ) → obeys (fields_of g content) payload ≡ true → (fields_of g content).a ≤ largest_number
    → length payload ≤ payload_most → Right m → Keepable Right m content payload
unfolding fields_of obeys when◌then◌else◌
keepable m g (Request sender taken count) payload obey most short right = tt
keepable m g (Broadcast originator number count floor) payload obey most short right =
    let right' = acceptable m number.0 most right in
    (right', holdable (with_accepted m number.0) originator number.0 count payload (search says) most short right')
keepable m g (Gap sender taken first last) payload obey most short right = tt
keepable m g (Status sender taken) payload obey most short right = tt
keepable m g (Poll elected top floor) payload obey most short right = tt
keepable m g (Offer originator number count floor) payload obey most short right =
    (search says, holdable m originator number.0 count payload (search says) most short right)
keepable m g (Confirm sender number) payload obey most short right = tt
keepable m g (Accept elected number) payload obey most short right = acceptable m number.0 most right
keepable m g (Invitation sender attempt) payload obey most short right = tt
keepable m g (Packet.Reply sender attempt number) payload obey most short right = tt
keepable m g (Result sender attempt elected number) payload obey most short right = tt

-- packets that a member wrote are packets that reading accepts
own_writes : (o : Outcome) → Own [] o → WritesPacket o
unfolding written
own_writes o = go o.bytes refl
  where
    go : (bytes : List ℕ) → o.bytes ≡ bytes → All (KnownBy o.member.group.number (needed_of o.member.group) o.member.number.0 (voice_with o.member [])) (written bytes) → WritesPacket o
    go [] e k = inl e
    go (b ∷ rest) e (k, _) = writes o.bytes o.member.group.number k.content k.payload (e ∙ k.bytes_are) k.allowed

-- what was read of a packet may be held, if it is a message
pub read_keepable : (m : Member) (packet : List ℕ) → (header_of packet).a ≤ largest_number → Right m → (h : Header) → read_of packet ≡ Ok h
    → ((fields_of h.group (content_of h)).a ≤ largest_number) × Keepable Right m (content_of h) (payload_at packet)
read_keepable m packet most right h e =
    let r = readable packet h e in
    let f = fields_content h (length packet - header_size) (payload_at packet) r.fields in
    let a : (fields_of h.group (content_of h)).a ≤ largest_number = rw (f, r.header) most in
    let o : obeys (fields_of h.group (content_of h)) (payload_at packet) ≡ true = rw f (askable h _ _ r.fields).obey in
    (a, keepable m h.group (content_of h) (payload_at packet) o a r.payload right)

pub receive_keeps : ReceiveKeeps
unfolding receive_of
receive_keeps m packet room most typed =
    judged_elim (Good m typed) (call_verdict m room) (λ r _. quiet m typed (Answer.Refused r))
    (λ e. let s = sound_of_lem m (call_sound m room e) in
    let h = read_heard Right (λ m r. r.0) (λ m r. r.1) m (typed, s) (read_of packet) (payload_at packet) (read_keepable m packet most (typed, s)) in
    (record { typed = h.state.0; sound = λ _. of_sound _ h.state.1 }, own_writes (read_step m (read_of packet) (payload_at packet)) (h.own [])))
