-- A call of a member keeps the description of its group and its number: the call's text, a choice at a time. Assumes nothing.
use Rattle.std.specs.Prelude.{Ok, Err}
use mathlib.Core.Path.{◌≡◌, refl}
use mathlib.Core.List.{List}
use Prim.Native.Nat.{ℕ, ◌+◌, ◌-◌}
use Rattle.group.proofs.Lists.{when_elim, judged_elim}
use Rattle.group.specs.Choice.{◌and◌, ◌<?◌, ◌≤?◌, ◌=?◌}
use Rattle.group.specs.Limits.{held_most}
use Rattle.group.specs.Members.{is_in, expected_of}
use Rattle.group.specs.declared.MemberNumber.{MemberNumber}
use Rattle.member.specs.Calls.{Outcome, answered, call_verdict, submit_verdict, with_waiting, submit_of, repeat_of, status_of, with_accepted, with_held, gap_up_to, kept_of, message_step, broadcast_of, confirms, none_missing, confirmed_of, offer_of, poll_of, content_step, read_step, receive_of, with_taken, is_ready, took_of, take_of}
use Rattle.member.specs.State.{Member}
use Rattle.member.specs.declared.Answer.{Answer}
use Rattle.message.specs.Message.{message_of}
use Rattle.packet.specs.Packet.{content_of, payload_at, read_of, from_elected}
use Rattle.packet.specs.declared.Packet.{Packet}
use Rattle.packet.specs.declared.Packet.TheVariants.{Request, Broadcast, Gap, Status, Poll, Offer, Confirm, Accept, Invitation, Reply, Result}
use Rattle.packet.specs.Answers.{Reading}
use Rattle.simulator.specs.Steps.{outcome_of}
use Rattle.simulator.specs.declared.MemberCall.{MemberCall}
use Rattle.simulator.specs.declared.MemberCall.TheVariants as call
use Rattle.window.specs.Places.{is_held, lowest_missing}

-- the member that a call leaves is of that group, with that number
abbrev pub Has : Member → Outcome → Type 0
Has m o = (o.member.group ≡ m.group) × (o.member.number ≡ m.number)

module _ (m : Member) where
  submit_has : (payload : List ℕ) (room : ℕ) → Has m (submit_of m payload room)
  unfolding submit_of answered with_waiting
  submit_has payload room =
      judged_elim (Has m) (call_verdict m room) (λ _ _. (refl, refl))
      (λ _. judged_elim (Has m) (submit_verdict m _) (λ _ _. (refl, refl))
      (λ _. when_elim (Has m) (m.waiting =? 0) (λ _. (refl, refl)) (λ _. (refl, refl))))

  repeat_has : (room : ℕ) → Has m (repeat_of m room)
  unfolding repeat_of answered
  repeat_has room =
      judged_elim (Has m) (call_verdict m room) (λ _ _. (refl, refl))
      (λ _. when_elim (Has m) (1 ≤? m.waiting) (λ _. (refl, refl)) (λ _. (refl, refl)))

  status_has : (room : ℕ) → Has m (status_of m room)
  unfolding status_of answered
  status_has room = judged_elim (Has m) (call_verdict m room) (λ _ _. (refl, refl)) (λ _. (refl, refl))

  take_has : (room : ℕ) → Has m (take_of m room)
  unfolding take_of took_of with_taken answered
  take_has room =
      judged_elim (Has m) (call_verdict m room) (λ _ _. (refl, refl))
      (λ _. when_elim (Has m) (is_ready m (m.taken.0 + 1)) (λ _. (refl, refl)) (λ _. (refl, refl)))

  -- where a number is missing below, a gap is written; what is left is the same
  gap_has : (m' : Member) (last : ℕ) (gapped : Answer) (whole : Outcome) → (m'.group ≡ m.group) × (m'.number ≡ m.number) → Has m whole → Has m (gap_up_to m' last gapped whole)
  unfolding gap_up_to
  gap_has m' last gapped whole s w = when_elim (Has m) (lowest_missing m'.held m'.taken.0 (last - m'.taken.0) =? 0) (λ _. w) (λ _. s)

  message_has : (m' : Member) (originator : MemberNumber) (number count : ℕ) (payload : List ℕ) → (m'.group ≡ m.group) × (m'.number ≡ m.number) → Has m (message_step m' originator number count payload)
  unfolding message_step kept_of answered with_held
  message_has m' originator number count payload s =
      when_elim (Has m) (number ≤? m'.taken.0) (λ _. s)
      (λ _. when_elim (Has m) (number ≤? m'.taken.0 + held_most)
      (λ _. when_elim (Has m) (is_held m'.held number) (λ _. s)
      (λ _. gap_has (with_held m' number (message_of originator count payload)) (number - 1) Answer.KeptGap _ s s))
      (λ _. gap_has m' (m'.taken.0 + held_most) Answer.BeyondGap _ s s))

  -- a message of a broadcast is accepted, that of an offer may be confirmed
  broadcast_has : (originator : MemberNumber) (number count : ℕ) (payload : List ℕ) → Has m (broadcast_of m originator number count payload)
  unfolding broadcast_of with_accepted
  broadcast_has originator number count payload = message_has (with_accepted m number) originator number count payload (refl, refl)

  confirmed_has : (o : Outcome) (number : ℕ) → Has m o → Has m (confirmed_of o number)
  unfolding confirmed_of
  confirmed_has o number h =
      when_elim (Has m) (confirms o.answer and none_missing o.member number and is_in (expected_of o.member.group) o.member.number.0) (λ _. h) (λ _. h)

  offer_has : (originator : MemberNumber) (number count : ℕ) (payload : List ℕ) → Has m (offer_of m originator number count payload)
  unfolding offer_of
  offer_has originator number count payload = confirmed_has (message_step m originator number count payload) number (message_has m originator number count payload (refl, refl))

  content_has : (packet : Packet) (payload : List ℕ) → Has m (content_step m packet payload)
  unfolding content_step answered poll_of with_accepted
  content_has (Request sender taken count) payload = (refl, refl)
  content_has (Broadcast originator number count floor) payload =
      when_elim (Has m) (originator.0 <? m.group.n) (λ _. broadcast_has originator number.0 count payload) (λ _. (refl, refl))
  content_has (Gap sender taken first last) payload = (refl, refl)
  content_has (Status sender taken) payload = (refl, refl)
  content_has (Poll elected top floor) payload = gap_has m _ Answer.Gap _ (refl, refl) (refl, refl)
  content_has (Offer originator number count floor) payload =
      when_elim (Has m) (originator.0 <? m.group.n) (λ _. offer_has originator number.0 count payload) (λ _. (refl, refl))
  content_has (Confirm sender number) payload = (refl, refl)
  content_has (Accept elected number) payload = (refl, refl)
  content_has (Invitation sender attempt) payload = (refl, refl)
  content_has (Reply sender attempt number) payload = (refl, refl)
  content_has (Result sender attempt elected number) payload = (refl, refl)

  read_has : (reading : Reading) (payload : List ℕ) → Has m (read_step m reading payload)
  unfolding read_step answered
  read_has (Ok h) payload =
      when_elim (Has m) (from_elected m.group (content_of h))
      (λ _. when_elim (Has m) (h.group =? m.group.number) (λ _. content_has (content_of h) payload) (λ _. (refl, refl)))
      (λ _. (refl, refl))
  read_has (Err refusal) payload = (refl, refl)

  receive_has : (packet : List ℕ) (room : ℕ) → Has m (receive_of m packet room)
  unfolding receive_of answered
  receive_has packet room = judged_elim (Has m) (call_verdict m room) (λ _ _. (refl, refl)) (λ _. read_has (read_of packet) (payload_at packet))

  pub outcome_has : (call : MemberCall) (bytes : List ℕ) (room : ℕ) → Has m (outcome_of call bytes room m)
  unfolding outcome_of
  outcome_has call.Submit bytes room = submit_has bytes room
  outcome_has call.Repeat bytes room = repeat_has room
  outcome_has call.Take bytes room = take_has room
  outcome_has call.Status bytes room = status_has room
  outcome_has call.Receive bytes room = receive_has bytes room
