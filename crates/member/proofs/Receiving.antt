-- What a packet call comes to, whatever is to be kept of the member's state: the state is the same, more is accepted or a message is held
-- in it, and what is written is the member's own gap, status or confirmation. Its proof is the call's text, a choice at a time. Assumes
-- nothing.
use Rattle.std.specs.Prelude.{Ok, Err}
use mathlib.Core.Path.{◌≡◌, refl}
use mathlib.Core.Bool.{true, false}
use mathlib.Core.List.{List}
use Prim.Native.Nat.{ℕ, ◌+◌, ◌-◌, ◌≤◌, ◌<◌}
use native.Mathlib.Omega.{arith}
use borrow.Author.Tests.{leb-true, leb-false, ltb-true, ltb-false, eqb-true, eqb-false}
use Rattle.group.specs.Choice.{◌and◌, ◌<?◌, ◌≤?◌, ◌=?◌}
use Rattle.group.specs.Limits.{held_most, largest_number}
use Rattle.group.specs.Members.{is_in, expected_of}
use Rattle.group.specs.declared.MemberNumber.{MemberNumber}
use Rattle.group.specs.declared.SequenceNumber.{SequenceNumber}
use Rattle.group.specs.declared.Refusal.{Refusal}
use Rattle.group.proofs.Choice.{both_first, both_then}
use Rattle.group.proofs.Lists.{when_elim}
use Rattle.group.proofs.Members.{none_expected}
use Rattle.message.specs.Message.{message_of}
use Rattle.packet.specs.Packet.{content_of, fields_of, written, from_elected}
use Rattle.packet.specs.declared.Header.{Header}
use Rattle.packet.specs.declared.Packet.{Packet}
use Rattle.packet.specs.declared.Packet.TheVariants.{Request, Broadcast, Gap, Status, Poll, Offer, Confirm, Accept, Invitation, Result}
use Rattle.packet.specs.Answers.{Reading}
use Rattle.window.specs.Places.{smaller_of, is_held, lowest_missing}
use Rattle.member.specs.Calls.{Outcome, answered, with_accepted, with_held, gap_up_to, kept_of, message_step, broadcast_of, confirms, none_missing, confirmed_of, offer_of, poll_of, content_step, read_step}
use Rattle.member.specs.Laws.{Typed}
use Rattle.member.specs.State.{Member}
use Rattle.member.specs.declared.Answer.{Answer}
use Rattle.window.proofs.Missing.{lowest_is}
use Rattle.member.proofs.Acknowledged.{Up, up_refl, up_trans, up_accepted, up_held, reach_none, acknowledged_missing}
use Rattle.member.proofs.Soundness.{Sound}
use Rattle.member.proofs.Writes.{Own, gap_own, status_own, confirm_own}

-- `S` holds of the state that is left, in which nothing is lowered, and what is written is the member's own
pub record Heard (S : Member → Type 0) (m : Member) (o : Outcome) : Type 0 where
  pub state : S o.member
  pub up : Up m o.member
  pub own : (requested : List (List ℕ)) → Own requested o

-- `S` holds of a state with a message held in it, if it is one of the eight numbers above t, was not held, and its originator is a member
abbrev pub Holdable : (Member → Type 0) → Member → MemberNumber → ℕ → ℕ → List ℕ → Type 0
Holdable S m originator number count payload =
    originator.0 < m.group.n → m.taken.0 < number → number ≤ m.taken.0 + held_most → is_held m.held number ≡ false
    → S (with_held m number (message_of originator count payload))

-- of a broadcast `S` holds of the state in which it is accepted, also with it held; of an offer with it held; of an acceptance of the
-- state in which its number is accepted
abbrev pub Keepable : (Member → Type 0) → Member → Packet → List ℕ → Type 0
Keepable S m (Request sender taken count) payload = Unit {0}
Keepable S m (Broadcast originator number count floor) payload =
    S (with_accepted m number.0) × Holdable S (with_accepted m number.0) originator number.0 count payload
Keepable S m (Gap sender taken first last) payload = Unit {0}
Keepable S m (Status sender taken) payload = Unit {0}
Keepable S m (Poll elected top floor) payload = Unit {0}
Keepable S m (Offer originator number count floor) payload = (1 ≤ number.0) × Holdable S m originator number.0 count payload
Keepable S m (Confirm sender number) payload = Unit {0}
Keepable S m (Accept elected number) payload = S (with_accepted m number.0)
Keepable S m (Invitation sender attempt) payload = Unit {0}
Keepable S m (Packet.Reply sender attempt number) payload = Unit {0}
Keepable S m (Result sender attempt elected number) payload = Unit {0}

module _ (S : Member → Type 0) (typed-of : (m : Member) → S m → Typed m) (sound_of_lem : (m : Member) → S m → Sound m) (before : Member) where
  module _ (m : Member) (s : S m) (up : Up before m) where
    quiet : (answer : Answer) → Heard S before (answered m answer)
    unfolding answered written
    quiet answer = record { state = s; up = up; own = λ _. tt }

    gap_heard : (last : ℕ) (gapped : Answer) {whole : Outcome} → last ≤ largest_number → Heard S before whole → Heard S before (gap_up_to m last gapped whole)
    unfolding gap_up_to
    gap_heard last gapped most rest =
        when_elim (Heard S before) (low =? 0)
        (λ _. rest)
        (λ e. let l = lowest_is m.held m.taken.0 (last - m.taken.0) (eqb-false low 0 e) in
        record { state = s; up = up; own = λ requested. gap_own m (typed-of m s) (sound_of_lem m s) requested low last gapped (acknowledged_missing m l) (omega arith) most })
      where
        low : ℕ
        low = lowest_missing m.held m.taken.0 (last - m.taken.0)

  module _ (m : Member) (s : S m) (up : Up before m) where
    message_heard : (originator : MemberNumber) (number count : ℕ) (payload : List ℕ) → number ≤ largest_number → originator.0 < m.group.n → Holdable S m originator number count payload
        → Heard S before (message_step m originator number count payload)
    unfolding message_step kept_of
    message_heard originator number count payload most member keep =
        when_elim (Heard S before) (number ≤? m.taken.0) (λ _. quiet m s up Answer.Old)
        (λ a. when_elim (Heard S before) (number ≤? m.taken.0 + held_most)
        (λ b. when_elim (Heard S before) (is_held m.held number) (λ _. quiet m s up Answer.Old)
        (λ c. let lo = leb-false number _ a in
        let hi = leb-true number _ b in
        let x = message_of originator count payload in
        let k = keep member lo hi c in
        let up' = up_trans up (up_held m number x lo hi c) in
        gap_heard (with_held m number x) k up' (number - 1) Answer.KeptGap (omega arith) (quiet (with_held m number x) k up' Answer.Kept)))
        (λ b. gap_heard m s up (m.taken.0 + held_most) Answer.BeyondGap (let z = leb-false number (m.taken.0 + held_most) b in omega arith) (quiet m s up Answer.Beyond)))

    -- what is answered Kept or Old is at most t + 8
    abbrev Near : ℕ → Outcome → Type 0
    Near number o = confirms o.answer ≡ true → number ≤ o.member.taken.0 + held_most

    gap_near : (number : ℕ) (m' : Member) (last : ℕ) (gapped : Answer) (whole : Outcome) → confirms gapped ≡ false → Near number whole → Near number (gap_up_to m' last gapped whole)
    unfolding gap_up_to
    gap_near number m' last gapped whole silent rest =
        when_elim (Near number) (lowest_missing m'.held m'.taken.0 (last - m'.taken.0) =? 0) (λ _. rest)
        (λ _ e. let z : ◌≡◌ {A = ℕ} 0 1 = cc in absurd (omega arith))

    message_near : (originator : MemberNumber) (number count : ℕ) (payload : List ℕ) → Near number (message_step m originator number count payload)
    unfolding message_step kept_of with_held answered confirms
    message_near originator number count payload =
        when_elim (Near number) (number ≤? m.taken.0) (λ a _. let z = leb-true number m.taken.0 a in omega arith)
        (λ a. when_elim (Near number) (number ≤? m.taken.0 + held_most)
        (λ b. let near = leb-true number (m.taken.0 + held_most) b in
        when_elim (Near number) (is_held m.held number) (λ _ _. near) (λ _. gap_near number _ (number - 1) Answer.KeptGap _ refl (λ _. near)))
        (λ b. gap_near number m (m.taken.0 + held_most) Answer.BeyondGap (answered m Answer.Beyond) refl (λ e. let z : false ≡ true = e in let y : ◌≡◌ {A = ℕ} 0 1 = cc in absurd (omega arith))))

    -- an offer, whose message came to `o`
    confirmed_heard : (number : ℕ) (o : Outcome) → 1 ≤ number → number ≤ largest_number → Near number o → Heard S before o → Heard S before (confirmed_of o number)
    unfolding confirmed_of
    confirmed_heard number o least most near h =
        let said = confirms o.answer in
        let whole = none_missing o.member number in
        let expected = is_in (expected_of o.member.group) o.member.number.0 in
        when_elim (Heard S before) (said and whole and expected)
        (λ t.
        let a = both_first said _ t in
        let b = both_first whole _ (both_then said _ t) in
        let c = both_then whole expected (both_then said _ t) in
        record {
          state = h.state;
          up = h.up;
          own = λ requested.
              confirm_own o.member (typed-of o.member h.state) (sound_of_lem o.member h.state) requested number o.answer least most
              (reach_none o.member number most (near a) (eqb-true _ 0 b))
              (none_expected o.member.group o.member.number.0 c);
        })
        (λ _. h)

    poll_heard : (top : SequenceNumber) → top.0 ≤ largest_number → Heard S before (poll_of m top)
    unfolding poll_of smaller_of
    poll_heard top most =
        gap_heard m s up _ Answer.Gap
        (when_elim (λ (k : ℕ). k ≤ largest_number) (top.0 <? m.taken.0 + held_most) (λ _. most) (λ a. let z = ltb-false top.0 (m.taken.0 + held_most) a in omega arith))
        (record { state = s; up = up; own = λ requested. status_own m (typed-of m s) (sound_of_lem m s) requested Answer.Status })

module _ (S : Member → Type 0) (typed-of : (m : Member) → S m → Typed m) (sound_of_lem : (m : Member) → S m → Sound m) (m : Member) (s : S m) where
  same : (answer : Answer) → Heard S m (answered m answer)
  same = quiet S typed-of sound_of_lem m m s (up_refl m)

  content_heard : (g : ℕ) (content : Packet) (payload : List ℕ) → (fields_of g content).a ≤ largest_number → Keepable S m content payload
      → Heard S m (content_step m content payload)
  unfolding content_step fields_of broadcast_of offer_of with_accepted
  content_heard g (Request sender taken count) payload most keep = same (Answer.Refused Refusal.OtherEnd)
  content_heard g (Broadcast originator number count floor) payload most keep =
      when_elim (Heard S m) (originator.0 <? m.group.n)
      (λ a. message_heard S typed-of sound_of_lem m (with_accepted m number.0) keep.0 (up_accepted m number.0) originator number.0 count payload most
      (ltb-true originator.0 m.group.n a) keep.1)
      (λ _. same (Answer.Refused Refusal.UnknownMember))
  content_heard g (Gap sender taken first last) payload most keep = same (Answer.Refused Refusal.OtherEnd)
  content_heard g (Status sender taken) payload most keep = same (Answer.Refused Refusal.OtherEnd)
  content_heard g (Poll elected top floor) payload most keep = poll_heard S typed-of sound_of_lem m m s (up_refl m) top most
  content_heard g (Offer originator number count floor) payload most keep =
      when_elim (Heard S m) (originator.0 <? m.group.n)
      (λ a. confirmed_heard S typed-of sound_of_lem m m s (up_refl m) number.0 (message_step m originator number.0 count payload) keep.0 most
      (message_near S typed-of sound_of_lem m m s (up_refl m) originator number.0 count payload)
      (message_heard S typed-of sound_of_lem m m s (up_refl m) originator number.0 count payload most (ltb-true originator.0 m.group.n a) keep.1))
      (λ _. same (Answer.Refused Refusal.UnknownMember))
  content_heard g (Confirm sender number) payload most keep = same (Answer.Refused Refusal.OtherEnd)
  content_heard g (Accept elected number) payload most keep = quiet S typed-of sound_of_lem m (with_accepted m number.0) keep (up_accepted m number.0) Answer.Noted
  content_heard g (Invitation sender attempt) payload most keep = same (Answer.Refused Refusal.OtherEnd)
  content_heard g (Packet.Reply sender attempt number) payload most keep = same (Answer.Refused Refusal.OtherEnd)
  content_heard g (Result sender attempt elected number) payload most keep = same (Answer.Refused Refusal.OtherEnd)

  pub read_heard : (reading : Reading) (payload : List ℕ)
      → ((h : Header) → reading ≡ Ok h → ((fields_of h.group (content_of h)).a ≤ largest_number) × Keepable S m (content_of h) payload)
      → Heard S m (read_step m reading payload)
  unfolding read_step
  read_heard (Ok h) payload keep =
      let k = keep h refl in
      when_elim (Heard S m) (from_elected m.group (content_of h))
      (λ _. when_elim (Heard S m) (h.group =? m.group.number)
      (λ _. content_heard h.group (content_of h) payload k.0 k.1)
      (λ _. same (Answer.Refused Refusal.OtherGroup)))
      (λ _. same (Answer.Refused Refusal.ForbiddenFields))
  read_heard (Err refusal) payload keep = same (Answer.Refused refusal)
