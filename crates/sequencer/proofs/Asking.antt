-- The questions that a packet's fields meet at the sequencer, kind by kind, are the list of `specs/Laws.antt`: a question that
-- does not fit the kind says yes. What follows them never refuses. Assumes nothing.
use Rattle.std.specs.Prelude.{Ok}
use mathlib.Core.Path.{◌≡◌, ap, ◌∙◌}
use mathlib.Core.Bool.{true, false}
use mathlib.Core.List.{List, [], ◌∷◌, ◌++◌}
use Prim.Native.Nat.{ℕ, zero, suc, ◌+◌, ◌-◌, ◌≤◌}
use native.Mathlib.Omega.{arith}
use borrow.Author.Tests.{le-leb, lt-leb, eq-eqb, ne_eqb}
use Rattle.group.proofs.Choice.{says}
use Rattle.group.proofs.Lists.{when_elim, eq_or, le_or}
use Rattle.group.proofs.Question.{judged_ask, judged_append}
use Rattle.group.specs.Choice.{when◌then◌else◌, ◌<?◌, ◌≤?◌, ◌=?◌}
use Rattle.group.specs.Limits.{places_most, largest_number}
use Rattle.group.specs.Members.{is_in, expected_of}
use Rattle.group.specs.Question.{Question, first_no, judged}
use Rattle.group.specs.declared.MemberNumber.{MemberNumber}
use Rattle.group.specs.declared.Refusal.{Refusal}
use Rattle.group.specs.declared.SequenceNumber.{SequenceNumber}
use Rattle.group.specs.Question.{Verdict}
use Rattle.packet.specs.Packet.{known_kind, content_of, from_elected}
use Rattle.packet.specs.declared.Header.{Header}
use Rattle.packet.specs.declared.Packet.{Packet}
use Rattle.packet.specs.declared.Packet.TheVariants.{Request, Broadcast, Gap, Status, Poll, Offer, Confirm, Accept, Invitation, Result}
use Rattle.history.specs.Ask.{sender_verdict, count_verdict, wanted_verdict, expected_verdict}
use Rattle.history.specs.Repeat.{find_of}
use Rattle.sequencer.specs.Calls.{Outcome, answered, refused, old_of, again_of, full_of, numbered_of, request_of, gap_of, with_mark, enough_in, settled_of, confirm_of, content_step, read_step}
use Rattle.sequencer.specs.Laws.{fields_questions}
use Rattle.sequencer.specs.Note.{note_of}
use Rattle.sequencer.specs.State.{Sequencer, last_count}
use Rattle.sequencer.specs.Steps.{accepted_step}
use Rattle.sequencer.specs.declared.Answer.{Answer}
use Rattle.sequencer.specs.declared.Answer.TheVariants.{Old, Again, Full, Numbered, Noted, Wanted, Sent, Marked}

-- an answer that is no refusal
abbrev pub Answers : Answer → Type 0
Answers (Answer.Refused refusal) = ⊥
Answers Old = Unit {0}
Answers (Again number) = Unit {0}
Answers Full = Unit {0}
Answers (Numbered number) = Unit {0}
Answers Noted = Unit {0}
Answers (Wanted first last) = Unit {0}
Answers Sent = Unit {0}
Answers Marked = Unit {0}
Answers Answer.Accepted = Unit {0}

request_answers : (s : Sequencer) (m : MemberNumber) (count : ℕ) (payload : List ℕ) → Answers (request_of s m count payload).answer
unfolding request_of old_of again_of full_of numbered_of answered
request_answers s m count payload =
    let P : Outcome → Type 0 = λ o. Answers o.answer in
    when_elim P (count <? last_count s m) (λ a. tt)
    (λ a. when_elim P (count =? last_count s m) (λ b. when_elim P (find_of s.history m count s.floor.0 (s.top.0 - s.floor.0) =? 0) (λ c. tt) (λ c. tt))
    (λ b. when_elim P (s.top.0 - s.floor.0 =? places_most) (λ c. tt) (λ c. tt)))

confirm_answers : (s : Sequencer) (m : MemberNumber) (number : SequenceNumber) → Answers (confirm_of s m number).answer
unfolding confirm_of settled_of answered
confirm_answers s m number =
    let P : Outcome → Type 0 = λ o. Answers o.answer in
    when_elim P (number.0 ≤? s.accepted.0) (λ a. tt) (λ a. when_elim P (enough_in (with_mark s m number) =? 0) (λ b. tt) (λ b. tt))

pub accepted_answers : (s : Sequencer) (content : Packet) (payload : List ℕ) → Answers (accepted_step s content payload).answer
unfolding accepted_step gap_of answered
accepted_answers s (Request sender taken count) payload = request_answers (note_of s sender taken) sender count payload
accepted_answers s (Broadcast originator number count floor) payload = tt
accepted_answers s (Gap sender taken first last) payload =
    when_elim (λ (o : Outcome). Answers o.answer) (last.0 ≤? (note_of s sender taken).floor.0) (λ t. tt) (λ t. tt)
accepted_answers s (Status sender taken) payload = tt
accepted_answers s (Poll elected top floor) payload = tt
accepted_answers s (Offer originator number count floor) payload = tt
accepted_answers s (Confirm sender number) payload = confirm_answers s sender number
accepted_answers s (Accept elected number) payload = tt
accepted_answers s (Invitation sender attempt) payload = tt
accepted_answers s (Packet.Reply sender attempt number) payload = tt
accepted_answers s (Result sender attempt elected number) payload = tt

-- the two questions on a request's count, as they are listed
abbrev count_questions : ℕ → ℕ → ℕ → List Question
count_questions last top count =
    record { yes = count ≤? last + 1; refusal = Refusal.CountAhead }
    ∷ record { yes = when count =? last + 1 then top <? largest_number else true; refusal = Refusal.NumbersUsedUp }
    ∷ []

count_asked : (last top count : ℕ) → count_verdict last top count ≡ first_no (count_questions last top count)
unfolding count_verdict first_no when◌then◌else◌
count_asked last top count =
    le_or count last
    (λ h. rw (le-leb count last h, le-leb count (last + 1) (omega arith), ne_eqb count (last + 1) (omega arith)))
    (λ h. eq_or count (last + 1) (λ q. rw (lt-leb count last h, eq-eqb count (last + 1) q))
    (λ q. rw (lt-leb count (last + 1) (omega arith))))

-- those on its sender
abbrev sender_questions : ℕ → ℕ → MemberNumber → ℕ → List Question
sender_questions survivors top sender taken =
    record { yes = is_in survivors sender.0; refusal = Refusal.UnknownMember }
    ∷ record { yes = taken ≤? top; refusal = Refusal.AcknowledgedAhead }
    ∷ []

-- and that on its kind, where it says no
abbrev other_end : List Question
other_end = record { yes = false; refusal = Refusal.OtherEnd } ∷ []

module _ (s : Sequencer) (payload : List ℕ) where
  -- of a poll and an acceptance byte 1 is asked first
  by_elected : (member group : ℕ)
      → (when member =? s.group.elected.0 then (when group =? s.group.number then refused s Refusal.OtherEnd else refused s Refusal.OtherGroup) else refused s Refusal.ForbiddenFields)
      ≡ judged (first_no (record { yes = member =? s.group.elected.0; refusal = Refusal.ForbiddenFields } ∷ record { yes = group =? s.group.number; refusal = Refusal.OtherGroup } ∷ other_end)) (refused s) (answered s Noted)
  unfolding first_no judged when◌then◌else◌
  by_elected member group =
      ap (λ (o : Outcome). when member =? s.group.elected.0 then o else refused s Refusal.ForbiddenFields)
      (judged_ask (refused s) (answered s Noted) (group =? s.group.number) Refusal.OtherGroup other_end)
      ∙ judged_ask (refused s) (answered s Noted) (member =? s.group.elected.0) Refusal.ForbiddenFields
      (record { yes = group =? s.group.number; refusal = Refusal.OtherGroup } ∷ other_end)

  -- kind by kind
  asked : (kind member group a b c : ℕ) → let h : Header = record { kind = kind; member = record { 0 = member }; group = group; a = a; b = b; c = c } in
      known_kind kind ≡ true → read_step s (Ok h) payload ≡ judged (first_no (fields_questions s h)) (refused s) (accepted_step s (content_of h) payload)
  unfolding read_step from_elected content_of content_step accepted_step sender_verdict wanted_verdict expected_verdict known_kind first_no judged when◌then◌else◌
  asked zero member group a b c k = let z : false ≡ true = k in cc
  asked (suc zero) member group a b c k =
      let m : MemberNumber = record { 0 = member } in
      let step = request_of (note_of s m (record { 0 = a })) m b payload in
      let sender = sender_questions s.group.survivors s.accepted.0 m a in
      let count = count_questions (last_count s m) s.top.0 b in
      ap (λ (o : Outcome). when group =? s.group.number then o else refused s Refusal.OtherGroup)
      (ap (λ (v : Verdict). judged (first_no sender) (refused s) (judged v (refused s) step)) (count_asked (last_count s m) s.top.0 b)
      ∙ judged_append (refused s) step sender count)
      ∙ judged_ask (refused s) step (group =? s.group.number) Refusal.OtherGroup (sender ++ count)
  asked (suc (suc zero)) member group a b c k = judged_ask (refused s) (answered s Noted) (group =? s.group.number) Refusal.OtherGroup other_end
  asked (suc (suc (suc zero))) member group a b c k =
      let m : MemberNumber = record { 0 = member } in
      let step = gap_of (note_of s m (record { 0 = a })) (record { 0 = b }) (record { 0 = c }) in
      let sender = sender_questions s.group.survivors s.accepted.0 m a in
      let wanted : List Question = record { yes = c ≤? s.top.0; refusal = Refusal.WantedAhead } ∷ [] in
      ap (λ (o : Outcome). when group =? s.group.number then o else refused s Refusal.OtherGroup) (judged_append (refused s) step sender wanted)
      ∙ judged_ask (refused s) step (group =? s.group.number) Refusal.OtherGroup (sender ++ wanted)
  asked (suc (suc (suc (suc zero)))) member group a b c k =
      let m : MemberNumber = record { 0 = member } in
      let step = answered (note_of s m (record { 0 = a })) Noted in
      judged_ask (refused s) step (group =? s.group.number) Refusal.OtherGroup (sender_questions s.group.survivors s.accepted.0 m a)
  asked (suc (suc (suc (suc (suc zero))))) member group a b c k = by_elected member group
  asked (suc (suc (suc (suc (suc (suc zero)))))) member group a b c k = judged_ask (refused s) (answered s Noted) (group =? s.group.number) Refusal.OtherGroup other_end
  asked (suc (suc (suc (suc (suc (suc (suc zero))))))) member group a b c k =
      let m : MemberNumber = record { 0 = member } in
      let step = confirm_of s m (record { 0 = a }) in
      let sender = sender_questions s.group.survivors s.top.0 m a in
      let expected : List Question = record { yes = when a ≤? s.accepted.0 then true else is_in (expected_of s.group) member; refusal = Refusal.NotExpected } ∷ [] in
      ap (λ (o : Outcome). when group =? s.group.number then o else refused s Refusal.OtherGroup) (judged_append (refused s) step sender expected)
      ∙ judged_ask (refused s) step (group =? s.group.number) Refusal.OtherGroup (sender ++ expected)
  asked (suc (suc (suc (suc (suc (suc (suc (suc zero)))))))) member group a b c k = by_elected member group
  asked (suc (suc (suc (suc (suc (suc (suc (suc (suc zero))))))))) member group a b c k = judged_ask (refused s) (answered s Noted) (group =? s.group.number) Refusal.OtherGroup other_end
  asked (suc (suc (suc (suc (suc (suc (suc (suc (suc (suc zero)))))))))) member group a b c k = judged_ask (refused s) (answered s Noted) (group =? s.group.number) Refusal.OtherGroup other_end
  asked (suc (suc (suc (suc (suc (suc (suc (suc (suc (suc (suc zero))))))))))) member group a b c k = judged_ask (refused s) (answered s Noted) (group =? s.group.number) Refusal.OtherGroup other_end
  asked (suc (suc (suc (suc (suc (suc (suc (suc (suc (suc (suc (suc kind)))))))))))) member group a b c k =
      let z : suc (suc (suc (suc (suc (suc (suc (suc (suc (suc (suc (suc kind))))))))))) ≤ 11 = search says in
      absurd (omega arith)

  pub fields_asked : (h : Header) → known_kind h.kind ≡ true
      → read_step s (Ok h) payload ≡ judged (first_no (fields_questions s h)) (refused s) (accepted_step s (content_of h) payload)
  fields_asked h = asked h.kind h.member.0 h.group h.a h.b h.c
