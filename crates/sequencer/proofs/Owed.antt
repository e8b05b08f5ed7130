-- What an accepted question says, in the form that the functions behind it ask for. Assumes nothing.
use Rattle.group.specs.Question.{all_yes}
use mathlib.Core.Path.{◌≡◌, refl}
use mathlib.Core.Bool.{true}
use mathlib.Core.List.{List}
use Prim.Native.Nat.{ℕ, ◌≤◌}
use native.Mathlib.Omega.{arith}
use borrow.Author.Tests.{leb-true}
use Rattle.group.specs.Choice.{◌≤?◌}
use Rattle.group.specs.Limits.{longest_packet}
use Rattle.group.specs.Members.{is_in}
use Rattle.group.specs.declared.Group.{Group}
use Rattle.group.specs.declared.Refusal.TheVariants.{UnsoundState, ShortOutput, OtherEnd}
use Rattle.group.specs.declared.SequenceNumber.{SequenceNumber}
use Rattle.group.proofs.Choice.{when_was}
use Rattle.group.proofs.Question.{accepted≢}
use Rattle.packet.specs.declared.Packet.{Packet}
use Rattle.packet.specs.declared.Packet.TheVariants.{Request, Broadcast, Gap, Status, Poll, Offer, Confirm, Accept, Invitation, Result}
use Rattle.history.specs.Ask.{request_verdict, gap_verdict, confirm_verdict, sender_of, content_verdict}
use Rattle.history.specs.Note.{with_taken, table_noted}
use Rattle.history.specs.State.{Acknowledgement, acknowledgement_of}
use Rattle.history.proofs.Asking.{sender_was, count_was, judged_was}
use Rattle.history.proofs.Sizes.{set_count}
use Rattle.sequencer.specs.Calls.{call_verdict}
use Rattle.sequencer.specs.Owed.{Left}
use Rattle.sequencer.specs.Sound.{sound_of}
use Rattle.sequencer.specs.State.{Sequencer}

-- questions 1 and 2
pub call_asked : (s : Sequencer) (room : ℕ) → call_verdict s room ≡ all_yes → (sound_of s ≡ true) × (longest_packet ≤ room)
unfolding call_verdict
call_asked s room e =
    let a = when_was (sound_of s) _ _ all_yes e (accepted≢ UnsoundState) in
    let b = when_was (longest_packet ≤? room) _ _ all_yes a.1 (accepted≢ ShortOutput) in
    (a.0, leb-true longest_packet room b.0)

-- questions 9, 10, 11 and 16, of a packet that was accepted: its sender is a survivor, which has taken a number up to the last accepted,
-- and a next number is left where it wants one
module _ (group : Group) (table : List Acknowledgement) (accepted top : ℕ) where
  pub accepted_sender : (packet : Packet) → content_verdict group table accepted top packet ≡ all_yes
      → (is_in group.survivors (sender_of packet).member.0 ≡ true) × ((sender_of packet).taken.0 ≤ accepted)
  unfolding content_verdict sender_of request_verdict gap_verdict confirm_verdict
  accepted_sender (Request sender taken count) e = sender_was group.survivors accepted sender taken (judged_was _ _ e).0
  accepted_sender (Broadcast originator number count floor) e = absurd (accepted≢ OtherEnd e)
  accepted_sender (Gap sender taken first last) e = sender_was group.survivors accepted sender taken (judged_was _ _ e).0
  accepted_sender (Status sender taken) e = sender_was group.survivors accepted sender taken e
  accepted_sender (Poll elected t floor) e = absurd (accepted≢ OtherEnd e)
  accepted_sender (Offer originator number count floor) e = absurd (accepted≢ OtherEnd e)
  accepted_sender (Confirm sender number) e = ((sender_was group.survivors top sender number (judged_was _ _ e).0).0, omega arith)
  accepted_sender (Accept elected number) e = absurd (accepted≢ OtherEnd e)
  accepted_sender (Invitation sender attempt) e = absurd (accepted≢ OtherEnd e)
  accepted_sender (Packet.Reply sender attempt number) e = absurd (accepted≢ OtherEnd e)
  accepted_sender (Result sender attempt elected number) e = absurd (accepted≢ OtherEnd e)

  pub accepted_left : (packet : Packet) (taken : SequenceNumber) → content_verdict group table accepted top packet ≡ all_yes
      → Left packet (acknowledgement_of (table_noted table (sender_of packet).member taken) (sender_of packet).member).count top
  unfolding content_verdict sender_of request_verdict table_noted
  accepted_left (Request sender t count) taken e =
      let same = set_count table sender.0 (with_taken (acknowledgement_of table sender) taken) refl in
      λ h. (count_was (acknowledgement_of table sender).count top count (judged_was _ _ e).1).1 (rw same at h)
  accepted_left (Broadcast originator number count floor) taken e = tt
  accepted_left (Gap sender t first last) taken e = tt
  accepted_left (Status sender t) taken e = tt
  accepted_left (Poll elected t floor) taken e = tt
  accepted_left (Offer originator number count floor) taken e = tt
  accepted_left (Confirm sender number) taken e = tt
  accepted_left (Accept elected number) taken e = tt
  accepted_left (Invitation sender attempt) taken e = tt
  accepted_left (Packet.Reply sender attempt number) taken e = tt
  accepted_left (Result sender attempt elected number) taken e = tt
