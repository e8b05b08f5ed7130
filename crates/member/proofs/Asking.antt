-- Every call of a member answers the first no of its questions, or a step that is no refusal: the call is what its questions come
-- to, before that step. Assumes nothing.
use Rattle.group.specs.Question.{all_yes}
use Rattle.std.specs.Prelude.{Ok, Err}
use mathlib.Core.Path.{◌≡◌, refl, sym, ap, ◌∙◌}
use mathlib.Core.Bool.{Bool, true, false}
use mathlib.Core.List.{List, [], ◌∷◌, ◌++◌}
use Prim.Native.Nat.{ℕ, zero, suc, ◌+◌, ◌-◌, ◌≤◌, ◌<◌}
use native.Mathlib.Omega.{arith}
use borrow.Author.Tests.{lt-ltb, eqb-true}
use lib.ListN.{length}
use Rattle.group.specs.Choice.{when◌then◌else◌, ask◌or◌then◌, ◌and◌, ◌<?◌, ◌≤?◌, ◌=?◌}
use Rattle.group.specs.Limits.{held_most, waiting_most, payload_most, largest_number}
use Rattle.group.specs.Members.{is_in, expected_of}
use Rattle.group.specs.Question.{Question, first_no, judged}
use Rattle.group.specs.declared.MemberNumber.{MemberNumber}
use Rattle.group.specs.declared.Refusal.{Refusal}
use Rattle.group.specs.Question.{Verdict}
use Rattle.group.proofs.Choice.{says}
use Rattle.group.proofs.Lists.{when_elim}
use Rattle.group.proofs.Question.{judged_ask, judged_append, judged_same}
use Rattle.packet.specs.Laws.{read_questions}
use Rattle.packet.specs.Packet.{broadcast_kind, poll_kind, offer_kind, accept_kind, header_of, known_kind, from_elected, content_of, payload_at, read_of}
use Rattle.packet.specs.declared.Header.{Header}
use Rattle.packet.specs.Answers.{Reading}
use Rattle.packet.proofs.Laws.{read_first_no}
use Rattle.packet.proofs.Verdicts.{askable, readable}
use Rattle.member.specs.Calls.{Outcome, answered, refused, request_packet, status_packet, call_verdict, submit_verdict, submit_of, repeat_of, status_of, with_accepted, gap_up_to, kept_of, message_step, broadcast_of, confirms, none_missing, confirmed_of, offer_of, poll_of, content_step, read_step, receive_of, is_ready, took_of, take_of}
use Rattle.member.specs.Laws.{call_questions, fields_questions, submit_questions, repeat_questions, receive_questions, FirstNo, SubmitFirstNo, RepeatFirstNo, StatusFirstNo, TakeFirstNo, ReceiveFirstNo}
use Rattle.window.specs.Places.{is_held, lowest_missing}
use Rattle.member.specs.declared.Answer.{Answer}
use Rattle.member.specs.declared.Answer.TheVariants.{Refused, Sent, Queued, Old, Kept, KeptGap, Beyond, BeyondGap, Gap, Status, None, Noted, Took}
use Rattle.member.specs.State.{Member}
use Rattle.member.proofs.Laws.{call_sound}
use Rattle.member.proofs.Soundness.{Sound, sound_of_lem, stands}
use Rattle.group.proofs.Members.{survivor_lt}

-- whether an answer is a refusal
abbrev pub refuses : Answer → Bool
refuses (Refused refusal) = true
refuses Sent = false
refuses (Queued count) = false
refuses Old = false
refuses Kept = false
refuses KeptGap = false
refuses Beyond = false
refuses BeyondGap = false
refuses Gap = false
refuses Status = false
refuses None = false
refuses Noted = false
refuses (Took number originator count more) = false

pub record Accepts (o : Outcome) : Type 0 where
  pub no : refuses o.answer ≡ false

-- a call that is its questions before a step that is no refusal
asked : (m : Member) (questions : List Question) (o step : Outcome) → o ≡ judged (first_no questions) (refused m) step → Accepts step → FirstNo m questions o
unfolding judged
asked m questions o step e accepts =
    record {
      refuses = λ refusal n. e ∙ ap (λ (v : Verdict). judged v (refused m) step) n;
      accepts = λ refusal n z.
          let a : o.answer ≡ step.answer = ap (λ (o : Outcome). o.answer) (e ∙ ap (λ (v : Verdict). judged v (refused m) step) n) in
          let b : true ≡ false = ap refuses (sym z ∙ a) ∙ accepts.no in
          let c : ◌≡◌ {A = ℕ} 0 1 = cc in
          omega arith;
    }

-- questions 1 and 2, and those after them
call_asked : (m : Member) (room : ℕ) (rest : List Question) (x step : Outcome) → (call_verdict m room ≡ all_yes → x ≡ judged (first_no rest) (refused m) step)
    → judged (call_verdict m room) (refused m) x ≡ judged (first_no (call_questions m room ++ rest)) (refused m) step
unfolding call_verdict first_no
call_asked m room rest x step e =
    judged_same (call_verdict m room) (refused m) x (judged (first_no rest) (refused m) step) e
    ∙ judged_append (refused m) step (call_questions m room) rest

pub status_first_no : StatusFirstNo
unfolding status_of first_no judged
status_first_no m room =
    let step : Outcome = record { member = m; answer = Answer.Sent; bytes = status_packet m } in
    asked m (call_questions m room) _ step (call_asked m room [] step step (λ _. refl)) (record { no = refl })

pub take_first_no : TakeFirstNo
unfolding take_of took_of answered first_no judged
take_first_no m room =
    asked m (call_questions m room) _ _ (call_asked m room [] _ _ (λ _. refl))
    (when_elim Accepts (is_ready m (m.taken.0 + 1))
    (λ _. record { no = refl })
    (λ _. record { no = refl }))

pub repeat_first_no : RepeatFirstNo
unfolding repeat_of first_no judged
repeat_first_no m room =
    let step : Outcome = record { member = m; answer = Answer.Sent; bytes = request_packet m } in
    asked m (repeat_questions m room) _ step
    (call_asked m room (record { yes = 1 ≤? m.waiting; refusal = Refusal.NothingWaiting } ∷ []) _ step
    (λ _. judged_ask (refused m) step (1 ≤? m.waiting) Refusal.NothingWaiting []))
    (record { no = refl })

pub submit_first_no : SubmitFirstNo
unfolding submit_of submit_verdict answered first_no
submit_first_no m payload room =
    asked m (submit_questions m payload room) _ _
    (call_asked m room
    (record { yes = length payload ≤? payload_most; refusal = Refusal.LongPayload }
    ∷ record { yes = m.waiting <? waiting_most; refusal = Refusal.AlreadyWaiting }
    ∷ record { yes = m.submitted <? largest_number; refusal = Refusal.NumbersUsedUp }
    ∷ [])
    _ _ (λ _. refl))
    (when_elim Accepts (m.waiting =? 0)
    (λ _. record { no = refl })
    (λ _. record { no = refl }))

-- what a packet that passes all questions does: a broadcast, a poll, an offer or an acceptance
abbrev pub accepted_step : Member → Header → List ℕ → Outcome
accepted_step m h payload =
    when h.kind =? broadcast_kind then broadcast_of m h.member h.a h.b payload else
    when h.kind =? poll_kind then poll_of m (record { 0 = h.a }) else
    when h.kind =? offer_kind then offer_of m h.member h.a h.b payload else
    answered (with_accepted m h.a) Answer.Noted

gap_accepts : (m : Member) (last : ℕ) (gapped : Answer) {whole : Outcome} → refuses gapped ≡ false → Accepts whole → Accepts (gap_up_to m last gapped whole)
unfolding gap_up_to
gap_accepts m last gapped f rest = when_elim Accepts (lowest_missing m.held m.taken.0 (last - m.taken.0) =? 0) (λ _. rest) (λ _. record { no = f })

message_accepts : (m : Member) (originator : MemberNumber) (number count : ℕ) (payload : List ℕ) → Accepts (message_step m originator number count payload)
unfolding message_step kept_of answered
message_accepts m originator number count payload =
    when_elim Accepts (number ≤? m.taken.0) (λ _. record { no = refl })
    (λ _. when_elim Accepts (number ≤? m.taken.0 + held_most)
    (λ _. when_elim Accepts (is_held m.held number) (λ _. record { no = refl })
    (λ _. gap_accepts _ (number - 1) Answer.KeptGap refl (record { no = refl })))
    (λ _. gap_accepts m (m.taken.0 + held_most) Answer.BeyondGap refl (record { no = refl })))

-- a confirmation leaves the answer
confirmed_accepts : (o : Outcome) (number : ℕ) → Accepts o → Accepts (confirmed_of o number)
unfolding confirmed_of
confirmed_accepts o number a =
    when_elim Accepts (confirms o.answer and none_missing o.member number and is_in (expected_of o.member.group) o.member.number.0)
    (λ _. record { no = a.no }) (λ _. a)

pub step_accepts : (m : Member) (h : Header) (payload : List ℕ) → Accepts (accepted_step m h payload)
unfolding broadcast_of offer_of poll_of answered
step_accepts m h payload =
    when_elim Accepts (h.kind =? broadcast_kind) (λ _. message_accepts _ h.member h.a h.b payload)
    (λ _. when_elim Accepts (h.kind =? poll_kind) (λ _. gap_accepts m _ Answer.Gap refl (record { no = refl }))
    (λ _. when_elim Accepts (h.kind =? offer_kind) (λ _. confirmed_accepts _ h.a (message_accepts m h.member h.a h.b payload))
    (λ _. record { no = refl })))

-- questions 8 and 9 of fields that obey their kind: the kind decides
abbrev end_questions : Member → Header → List Question
end_questions m h =
    record { yes = when h.kind =? broadcast_kind then true else when h.kind =? poll_kind then true else when h.kind =? offer_kind then true else h.kind =? accept_kind; refusal = Refusal.OtherEnd }
    ∷ record { yes = h.member.0 <? m.group.n; refusal = Refusal.UnknownMember }
    ∷ []

content_asked : (m : Member) (kind member group a b c : ℕ) (payload : List ℕ)
    → let h : Header = record { kind = kind; member = record { 0 = member }; group = group; a = a; b = b; c = c } in
    m.group.elected.0 < m.group.n → from_elected m.group (content_of h) ≡ true → known_kind kind ≡ true
    → content_step m (content_of h) payload ≡ judged (first_no (end_questions m h)) (refused m) (accepted_step m h payload)
unfolding known_kind from_elected content_of content_step first_no judged when◌then◌else◌
content_asked m zero member group a b c payload some named known = let z : false ≡ true = known in cc
content_asked m (suc zero) member group a b c payload some named known = refl
content_asked m (suc (suc zero)) member group a b c payload some named known =
    judged_ask (refused m) (broadcast_of m (record { 0 = member }) a b payload) (member <? m.group.n) Refusal.UnknownMember []
content_asked m (suc (suc (suc zero))) member group a b c payload some named known = refl
content_asked m (suc (suc (suc (suc zero)))) member group a b c payload some named known = refl
content_asked m (suc (suc (suc (suc (suc zero))))) member group a b c payload some named known =
    let x : member ≡ m.group.elected.0 = eqb-true member m.group.elected.0 named in
    let y : (member <? m.group.n) ≡ true = lt-ltb member m.group.n (omega arith) in
    rw y
content_asked m (suc (suc (suc (suc (suc (suc zero)))))) member group a b c payload some named known =
    judged_ask (refused m) (offer_of m (record { 0 = member }) a b payload) (member <? m.group.n) Refusal.UnknownMember []
content_asked m (suc (suc (suc (suc (suc (suc (suc zero))))))) member group a b c payload some named known = refl
content_asked m (suc (suc (suc (suc (suc (suc (suc (suc zero)))))))) member group a b c payload some named known =
    let x : member ≡ m.group.elected.0 = eqb-true member m.group.elected.0 named in
    let y : (member <? m.group.n) ≡ true = lt-ltb member m.group.n (omega arith) in
    rw y
content_asked m (suc (suc (suc (suc (suc (suc (suc (suc (suc zero))))))))) member group a b c payload some named known = refl
content_asked m (suc (suc (suc (suc (suc (suc (suc (suc (suc (suc zero)))))))))) member group a b c payload some named known = refl
content_asked m (suc (suc (suc (suc (suc (suc (suc (suc (suc (suc (suc zero))))))))))) member group a b c payload some named known = refl
content_asked m (suc (suc (suc (suc (suc (suc (suc (suc (suc (suc (suc (suc kind)))))))))))) member group a b c payload some named known =
    let z : suc (suc (suc (suc (suc (suc (suc (suc (suc (suc (suc (suc kind))))))))))) ≤ 11 = search says in
    absurd (omega arith)

-- what follows a question need only be the same where its answer is yes
ask_same : (b : Bool) {x y : Outcome} (z : Outcome) → (b ≡ true → x ≡ y) → (when b then x else z) ≡ (when b then y else z)
unfolding when◌then◌else◌
ask_same true z f = f refl
ask_same false z f = refl

-- a reading that is a verdict is received as that verdict
read_judged : (m : Member) (v : Verdict) (h : Header) (payload : List ℕ) → read_step m (judged v Err (Ok h)) payload ≡ judged v (refused m) (read_step m (Ok h) payload)
unfolding judged read_step
read_judged m (Ok _) h payload = refl
read_judged m (Err r) h payload = refl

-- fields that were read go down questions 6 to 9
fields_asked : (m : Member) (packet : List ℕ) → Sound m → first_no (read_questions packet) ≡ all_yes
    → read_step m (Ok (header_of packet)) (payload_at packet)
    ≡ judged (first_no (fields_questions m (header_of packet))) (refused m) (accepted_step m (header_of packet) (payload_at packet))
unfolding read_step judged
fields_asked m packet s e =
    let h = header_of packet in
    let r : read_of packet ≡ Ok h = read_first_no packet ∙ ap (λ (v : Verdict). judged v Err (Ok h)) e in
    let a = askable h _ _ (readable packet h r).fields in
    let step = accepted_step m h (payload_at packet) in
    let elected = survivor_lt m.group (stands m s) m.group.elected.0 s.elected_in in
    ask_same (from_elected m.group (content_of h)) (refused m Refusal.ForbiddenFields)
    (λ named. ap (λ (o : Outcome). ask h.group =? m.group.number or refused m Refusal.OtherGroup then o)
    (content_asked m h.kind h.member.0 h.group h.a h.b h.c (payload_at packet) elected named a.known)
    ∙ judged_ask (refused m) step (h.group =? m.group.number) Refusal.OtherGroup (end_questions m h))
    ∙ judged_ask (refused m) step (from_elected m.group (content_of h)) Refusal.ForbiddenFields
    (record { yes = h.group =? m.group.number; refusal = Refusal.OtherGroup } ∷ end_questions m h)

pub receive_first_no : ReceiveFirstNo
unfolding receive_of
receive_first_no m packet room =
    let h = header_of packet in
    let payload = payload_at packet in
    let step : Outcome = accepted_step m h payload in
    asked m (receive_questions m packet room) _ step
    (call_asked m room (read_questions packet ++ fields_questions m h) _ step
    (λ e. ap (λ (r : Reading). read_step m r payload) (read_first_no packet)
    ∙ read_judged m (first_no (read_questions packet)) h payload
    ∙ judged_same (first_no (read_questions packet)) (refused m) _ _ (fields_asked m packet (sound_of_lem m (call_sound m room e)))
    ∙ judged_append (refused m) step (read_questions packet) (fields_questions m h)))
    (step_accepts m h payload)
