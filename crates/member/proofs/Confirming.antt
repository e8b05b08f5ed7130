-- An offer: what the code asks of its answer, its head and the counts of the places is what the definition asks of the outcome, and of an
-- answer that is confirmed nothing was written before.
-- Assumes nothing.
use mathlib.Core.Path.{◌≡◌, refl, sym, ap, ◌∙◌, subst}
use mathlib.Core.Bool.{Bool, true, false}
use mathlib.Core.List.{List, []}
use Prim.Native.Nat.{ℕ, ◌+◌, ◌-◌, ◌≤◌}
use native.Mathlib.Omega.{arith}
use Rattle.group.specs.Choice.{when◌then◌else◌, ◌and◌, ◌≤?◌, ◌=?◌}
use Rattle.group.specs.Lent.{front, Laid}
use Rattle.group.specs.Limits.{held_most}
use Rattle.group.specs.Members.{is_in, expected_of}
use Rattle.group.specs.declared.MemberNumber.{MemberNumber}
use Rattle.group.specs.declared.SequenceNumber.{SequenceNumber}
use Rattle.group.proofs.Choice.{when_true, when_false, both_first, says}
use Rattle.group.proofs.Lists.{when_elim}
use Rattle.message.specs.Message.{Message}
use Rattle.packet.specs.Packet.{obeys, fields_of}
use Rattle.packet.specs.declared.Packet.{Packet}
use Rattle.window.specs.Places.{is_held, lowest_missing}
use Rattle.window.specs.Steps.{Counted}
use Rattle.window.proofs.Scan.{uncounted}
use Rattle.member.specs.Calls.{Outcome, answered, confirm_packet, gap_up_to, kept_of, message_step, confirms, none_missing, confirmed_of}
use Rattle.member.specs.State.{Member}
use Rattle.member.specs.Steps.{Replied, member_of, confirms_by}
use Rattle.member.specs.declared.Answer.{Answer}
use Rattle.member.specs.declared.Head.{Head}
use Rattle.member.specs.declared.Reply.{Reply}
use Rattle.member.proofs.Outcomes.{replied_as}

-- where an answer is confirmed, nothing was written
abbrev Silent : Outcome → Type 0
Silent o = confirms o.answer ≡ true → o.bytes ≡ []

gap_silent : (m : Member) (last : ℕ) (gapped : Answer) (whole : Outcome) → confirms gapped ≡ false → Silent whole → Silent (gap_up_to m last gapped whole)
unfolding gap_up_to
gap_silent m last gapped whole silent rest =
    when_elim Silent (lowest_missing m.held m.taken.0 (last - m.taken.0) =? 0) (λ _. rest) (λ _ e. let z : ◌≡◌ {A = ℕ} 0 1 = cc in absurd (omega arith))

pub message_silent : (m : Member) (originator : MemberNumber) (number count : ℕ) (payload : List ℕ) → Silent (message_step m originator number count payload)
unfolding message_step kept_of answered confirms
message_silent m originator number count payload =
    when_elim Silent (number ≤? m.taken.0) (λ _ _. refl)
    (λ _. when_elim Silent (number ≤? m.taken.0 + held_most)
    (λ _. when_elim Silent (is_held m.held number) (λ _ _. refl) (λ _. gap_silent _ (number - 1) Answer.KeptGap _ refl (λ _. refl)))
    (λ _. gap_silent m (m.taken.0 + held_most) Answer.BeyondGap _ refl (λ _. refl)))

-- what the message of an offer came to, by the code
module _ (head : Head) (counts : List ℕ) (queue held : List Message) (c : Counted counts held) (number : ℕ) {o : Outcome} {r : Reply} {x y : List ℕ} (d : Replied (member_of head queue held) o r x y) where
  test_is : confirms_by head counts number r.answer ≡ (confirms o.answer and none_missing o.member number and is_in (expected_of o.member.group) o.member.number.0)
  unfolding confirms_by
  test_is =
      let none = uncounted counts held c head.taken.0 (number - head.taken.0) ∙ ap (λ (m : Member). lowest_missing m.held m.taken.0 (number - m.taken.0)) (sym d.same) in
      λ i. confirms (d.spoken.answer_is i) and none i =? 0 and is_in (expected_of (sym d.same i).group) (sym d.same i).number.0

  -- it is not confirmed
  pub confirms_not : (b : Bool) → b ≡ confirms_by head counts number r.answer → b ≡ false → Replied (member_of head queue held) (confirmed_of o number) r x y
  unfolding confirmed_of
  confirms_not b t e = replied_as (when_false _ o _ o (sym test_is ∙ sym t ∙ e) refl) d

  -- it is confirmed
  pub confirms_so : Silent o → (b : Bool) → b ≡ confirms_by head counts number r.answer → b ≡ true → {written : ℕ} {z : List ℕ} → Laid (confirm_packet (member_of head queue held) number) written y z
      → Replied (member_of head queue held) (confirmed_of o number) (record { answer = r.answer; written = written }) x z
  unfolding confirmed_of
  confirms_so silent b t e {written} {z} l =
      let so = sym test_is ∙ sym t ∙ e in
      let none : y ≡ x = subst (λ (bytes : List ℕ). y ≡ front bytes x) (silent (both_first _ _ so)) d.spoken.lent in
      let laid : Laid (confirm_packet o.member number) written x z = subst (λ (m : Member). Laid (confirm_packet m number) written x z) (sym d.same) (subst (λ (before : List ℕ). Laid (confirm_packet (member_of head queue held) number) written before z) none l) in
      let p : Outcome = record { member = o.member; answer = o.answer; bytes = confirm_packet o.member number } in
      replied_as {o = p} (when_true _ p p o so refl)
      (record { same = d.same; spoken = record { answer_is = d.spoken.answer_is; written_is = laid.size; lent = laid.lent } })

-- the number of an offer that obeys its kind
pub offer_number : (g : ℕ) (originator : MemberNumber) (number : SequenceNumber) (count : ℕ) (floor : SequenceNumber) (payload : List ℕ) → obeys (fields_of g (Packet.Offer originator number count floor)) payload ≡ true → 1 ≤ number.0
unfolding fields_of obeys when◌then◌else◌
offer_number g originator number count floor payload e = search says
