-- What the answer to an accepted packet comes with may be written: a number that is found, or given next, lies above floor, and its
-- message is kept soundly, by the soundness of the noted state. Assumes nothing.
use Rattle.group.specs.Question.{all_yes}
use mathlib.Core.Path.{◌≡◌}
use mathlib.Core.Logic.{◌≢◌}
use mathlib.Core.Bool.{true}
use mathlib.Core.List.{List}
use Prim.Native.Nat.{ℕ, ◌+◌, ◌-◌, ◌≤◌, ◌<◌}
use native.Mathlib.Nat.{le_trans}
use native.Mathlib.Omega.{arith}
use borrow.Author.Tests.{leb-true, leb-false, ltb-false, eqb-false}
use lib.ListN.{length}
use Rattle.group.proofs.Lists.{when_elim}
use Rattle.group.proofs.Members.{survivor_lt}
use Rattle.group.specs.Choice.{◌<?◌, ◌≤?◌, ◌=?◌}
use Rattle.group.specs.Limits.{members_most, places_most, payload_most}
use Rattle.group.specs.declared.MemberNumber.{MemberNumber}
use Rattle.message.specs.Message.{Message, message_of}
use Rattle.packet.specs.declared.Packet.{Packet}
use Rattle.packet.specs.declared.Packet.TheVariants.{Request, Broadcast, Gap, Status, Poll, Offer, Confirm, Accept, Invitation, Result}
use Rattle.history.proofs.Finding.{found_in}
use Rattle.history.specs.Ask.{sender_of, content_verdict}
use Rattle.history.specs.Repeat.{find_of}
use Rattle.sequencer.specs.Owed.{MayBroadcast, MaySend}
use Rattle.sequencer.specs.Note.{note_of}
use Rattle.sequencer.specs.Sound.{sound_of}
use Rattle.sequencer.specs.Steps.{quiet, again_change, request_change, gap_answer, change_of, laid_of}
use Rattle.sequencer.specs.declared.Answer.{Answer}
use Rattle.sequencer.specs.declared.Change.{Change}
use Rattle.sequencer.specs.State.{Sequencer}
use Rattle.sequencer.proofs.Noting.{note_sound}
use Rattle.sequencer.proofs.Owed.{accepted_sender}
use Rattle.sequencer.proofs.Soundness.{stands, Sound, sound_of_lem}

module _ (s : Sequencer) (sound : Sound s) (m : MemberNumber) (payload : List ℕ) (short : length payload ≤ payload_most) where
  -- what a change's answer comes with, in a sound state
  abbrev Sends : Change → Type 0
  Sends c = MaySend c.answer c.top s.floor (laid_of s m c payload)

  again_sends : (number last repeats : ℕ) → (number ≢ 0 → (s.floor.0 < number) × (number ≤ s.floor.0 + (s.top.0 - s.floor.0)))
      → Sends (again_change number last s.top s.accepted repeats)
  unfolding again_change laid_of
  again_sends number last repeats found =
      when_elim Sends (number =? 0) (λ t. tt)
      (λ t.
      let f = found (eqb-false number 0 t) in
      let g = sound.floor_le in
      let h = sound.accepted_le in
      let k = sound.kept number f.0 (omega arith) in
      when_elim (λ (x : Message). MayBroadcast (record { 0 = number }) s.floor x) (number ≤? s.top.0) (λ u. (k.short, k.count_least, f.0))
      (λ u. let z = leb-false number s.top.0 u in absurd (omega arith)))

  request_sends : (sender : MemberNumber) (count last needed repeats : ℕ)
      → Sends (request_change s.history sender count last s.floor.0 s.top s.accepted needed repeats)
  unfolding request_change laid_of message_of
  request_sends sender count last needed repeats =
      let wide = s.top.0 - s.floor.0 in
      when_elim Sends (count <? last) (λ a. tt)
      (λ a. when_elim Sends (count =? last)
      (λ b. again_sends (find_of s.history sender count s.floor.0 wide) last repeats (found_in s.history sender count s.floor.0 wide))
      (λ b. when_elim Sends (wide =? places_most) (λ c. le_trans sound.floor_le sound.accepted_le)
      (λ c.
      let p = ltb-false count last a in
      let q = eqb-false count last b in
      let g = sound.floor_le in
      let h = sound.accepted_le in
      when_elim (λ (x : Message). MayBroadcast (record { 0 = s.top.0 + 1 }) s.floor x) (s.top.0 + 1 ≤? s.top.0)
      (λ u. let z = leb-true (s.top.0 + 1) s.top.0 u in absurd (omega arith))
      (λ u. (short, omega arith, omega arith)))))

  pub change_sends : (packet : Packet) (last needed repeats : ℕ)
      → Sends (change_of s.history packet last s.floor.0 s.top s.accepted needed repeats)
  unfolding change_of gap_answer
  change_sends (Request sender taken count) last needed repeats = request_sends sender count last needed repeats
  change_sends (Broadcast originator number count floor) last needed repeats = tt
  change_sends (Gap sender taken first to) last needed repeats =
      when_elim (λ (answer : Answer). Sends (quiet last s.top s.accepted repeats answer)) (to.0 ≤? s.floor.0) (λ t. tt) (λ t. tt)
  change_sends (Status sender taken) last needed repeats = tt
  change_sends (Poll elected top floor) last needed repeats = tt
  change_sends (Offer originator number count floor) last needed repeats = tt
  change_sends (Confirm sender number) last needed repeats = tt
  change_sends (Accept elected number) last needed repeats = tt
  change_sends (Invitation sender attempt) last needed repeats = tt
  change_sends (Packet.Reply sender attempt number) last needed repeats = tt
  change_sends (Result sender attempt elected number) last needed repeats = tt

-- a sound state that notes the sender of an accepted packet is sound
pub noted_sound : (s : Sequencer) (packet : Packet) → sound_of s ≡ true → length s.acknowledgements ≡ members_most → length s.history ≡ places_most
    → content_verdict s.group s.acknowledgements s.accepted.0 s.top.0 packet ≡ all_yes
    → Sound (note_of s (sender_of packet).member (sender_of packet).taken)
noted_sound s packet sound table history e =
    let a = accepted_sender s.group s.acknowledgements s.accepted.0 s.top.0 packet e in
    let f = sound_of_lem s sound in
    note_sound s (sender_of packet).member (sender_of packet).taken table f (survivor_lt s.group (stands s f) (sender_of packet).member.0 a.0) a.1 a.0 history
