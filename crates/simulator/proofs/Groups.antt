-- A call of the sequencer keeps the description of its group: the call's text, a choice at a time. Assumes nothing.
use Rattle.std.specs.Prelude.{Ok, Err}
use mathlib.Core.Path.{◌≡◌, refl}
use mathlib.Core.List.{List}
use Prim.Native.Nat.{ℕ, ◌-◌}
use Rattle.group.proofs.Lists.{when_elim, judged_elim}
use Rattle.group.specs.Choice.{◌<?◌, ◌≤?◌, ◌=?◌}
use Rattle.group.specs.Limits.{places_most}
use Rattle.group.specs.declared.Group.{Group}
use Rattle.group.specs.declared.MemberNumber.{MemberNumber}
use Rattle.group.specs.declared.SequenceNumber.{SequenceNumber}
use Rattle.packet.specs.Packet.{content_of, payload_at, read_of, from_elected}
use Rattle.packet.specs.declared.Packet.{Packet}
use Rattle.packet.specs.declared.Packet.TheVariants.{Request, Broadcast, Gap, Status, Poll, Offer, Confirm, Accept, Invitation, Reply, Result}
use Rattle.packet.specs.Answers.{Reading}
use Rattle.history.specs.Ask.{sender_verdict, count_verdict, wanted_verdict, expected_verdict}
use Rattle.sequencer.proofs.Leaving.{poll_leaves, copy_leaves}
use Rattle.sequencer.specs.Calls.{Outcome, answered, repeated_of, old_of, again_of, full_of, with_message, numbered_of, request_of, gap_of, with_mark, with_accepted, enough_in, settled_of, confirm_of, content_step, read_step, call_verdict, receive_of}
use Rattle.sequencer.specs.Note.{with_table, note_of}
use Rattle.sequencer.specs.State.{Sequencer, last_count}
use Rattle.simulator.specs.Steps.{outcome_here}
use Rattle.simulator.specs.declared.SequencerCall.{SequencerCall}
use Rattle.simulator.specs.declared.SequencerCall.TheVariants as call

-- the sequencer that a call leaves has that description
abbrev pub Has : Group → Outcome → Type 0
Has group o = o.sequencer.group ≡ group

module _ (s : Sequencer) where
  abbrev own : Group
  own = s.group

  again_has : (m : MemberNumber) (number : ℕ) → Has own (again_of s m number)
  unfolding again_of old_of answered repeated_of
  again_has m number = when_elim (Has own) (number =? 0) (λ _. refl) (λ _. refl)

  request_has : (m : MemberNumber) (count : ℕ) (payload : List ℕ) → Has own (request_of s m count payload)
  unfolding request_of old_of answered repeated_of full_of numbered_of with_message
  request_has m count payload =
      when_elim (Has own) (count <? last_count s m) (λ _. refl)
      (λ _. when_elim (Has own) (count =? last_count s m) (λ _. again_has m _)
      (λ _. when_elim (Has own) (s.top.0 - s.floor.0 =? places_most) (λ _. refl) (λ _. refl)))

  gap_has : (first last : SequenceNumber) → Has own (gap_of s first last)
  unfolding gap_of answered
  gap_has first last = when_elim (Has own) (last.0 ≤? s.floor.0) (λ _. refl) (λ _. refl)

  settled_has : (number : ℕ) → Has own (settled_of s number)
  unfolding settled_of answered with_accepted
  settled_has number = when_elim (Has own) (number =? 0) (λ _. refl) (λ _. refl)

module _ (s : Sequencer) where
  confirm_has : (m : MemberNumber) (number : SequenceNumber) → Has s.group (confirm_of s m number)
  unfolding confirm_of answered with_mark
  confirm_has m number =
      when_elim (Has s.group) (number.0 ≤? s.accepted.0) (λ _. refl) (λ _. settled_has (with_mark s m number) (enough_in (with_mark s m number)))

  content_has : (packet : Packet) (payload : List ℕ) → Has s.group (content_step s packet payload)
  unfolding content_step answered note_of with_table
  content_has (Request sender taken count) payload =
      judged_elim (Has s.group) (sender_verdict s.group.survivors s.accepted.0 sender taken) (λ _ _. refl)
      (λ _. judged_elim (Has s.group) (count_verdict (last_count s sender) s.top.0 count) (λ _ _. refl)
      (λ _. request_has (note_of s sender taken) sender count payload))
  content_has (Broadcast originator number count floor) payload = refl
  content_has (Gap sender taken first last) payload =
      judged_elim (Has s.group) (sender_verdict s.group.survivors s.accepted.0 sender taken) (λ _ _. refl)
      (λ _. judged_elim (Has s.group) (wanted_verdict s.top.0 last) (λ _ _. refl)
      (λ _. gap_has (note_of s sender taken) first last))
  content_has (Status sender taken) payload =
      judged_elim (Has s.group) (sender_verdict s.group.survivors s.accepted.0 sender taken) (λ _ _. refl) (λ _. refl)
  content_has (Poll elected top floor) payload = refl
  content_has (Offer originator number count floor) payload = refl
  content_has (Confirm sender number) payload =
      judged_elim (Has s.group) (sender_verdict s.group.survivors s.top.0 sender number) (λ _ _. refl)
      (λ _. judged_elim (Has s.group) (expected_verdict s.group s.accepted.0 sender number) (λ _ _. refl) (λ _. confirm_has sender number))
  content_has (Accept elected number) payload = refl
  content_has (Invitation sender attempt) payload = refl
  content_has (Reply sender attempt number) payload = refl
  content_has (Result sender attempt elected number) payload = refl

  read_has : (reading : Reading) (payload : List ℕ) → Has s.group (read_step s reading payload)
  unfolding read_step answered
  read_has (Ok h) payload =
      when_elim (Has s.group) (from_elected s.group (content_of h))
      (λ _. when_elim (Has s.group) (h.group =? s.group.number) (λ _. content_has (content_of h) payload) (λ _. refl))
      (λ _. refl)
  read_has (Err refusal) payload = refl

  receive_has : (packet : List ℕ) (room : ℕ) → Has s.group (receive_of s packet room)
  unfolding receive_of answered
  receive_has packet room =
      judged_elim (Has s.group) (call_verdict s room) (λ _ _. refl) (λ _. read_has (read_of packet) (payload_at packet))

  pub outcome_has : (call : SequencerCall) (bytes : List ℕ) (room : ℕ) → Has s.group (outcome_here call bytes room s)
  unfolding outcome_here
  outcome_has call.Receive bytes room = receive_has bytes room
  outcome_has call.Poll bytes room = rw (poll_leaves s room)
  outcome_has (call.Copy number) bytes room = rw (copy_leaves s number room)
