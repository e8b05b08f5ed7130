-- Each call is the first no of its questions before a step that never refuses: a packet's kind by kind. Assumes nothing.
use Rattle.group.specs.Question.{all_yes}
use Rattle.std.specs.Prelude.{Ok, Err}
use mathlib.Core.Path.{◌≡◌, refl, sym, ap, ◌∙◌}
use mathlib.Core.Bool.{Bool, true, false}
use mathlib.Core.List.{List, [], ◌∷◌, ◌++◌}
use Prim.Native.Nat.{ℕ, zero, suc, ◌+◌, ◌≤◌, ◌<◌}
use native.Mathlib.Omega.{arith}
use borrow.Author.Tests.{lt-ltb, eqb-true}
use lib.Count.{ones}
use lib.ListN.{length}
use Rattle.group.proofs.Choice.{says, when_was, both_first, when_true}
use Rattle.group.proofs.Lists.{when_elim}
use Rattle.group.proofs.Members.{survivor_lt}
use Rattle.group.proofs.Question.{accepted≢, judged_ask, judged_append, judged_same}
use Rattle.group.specs.Choice.{when◌then◌else◌, ask◌or◌then◌, ◌and◌, ◌<?◌, ◌≤?◌, ◌=?◌}
use Rattle.group.specs.Limits.{payload_most, waiting_most, largest_number}
use Rattle.group.specs.Members.{is_within, all_of}
use Rattle.group.specs.Question.{Question, first_no, judged}
use Rattle.group.specs.declared.Refusal.{Refusal}
use Rattle.group.specs.Question.{Verdict}
use Rattle.packet.proofs.Laws.{read_first_no}
use Rattle.packet.specs.Laws.{read_questions}
use Rattle.packet.specs.Packet.{header_of, payload_at, known_kind, content_of, from_elected, survivors_in, invitation_kind, reply_kind}
use Rattle.packet.specs.declared.Header.{Header}
use Rattle.packet.specs.Answers.{Reading}
use Rattle.member.proofs.Asking as memberAsking
use Rattle.member.proofs.Soundness as memberSoundness
use Rattle.member.specs.Calls as member
use Rattle.member.specs.Sound as memberCalls
use Rattle.window.specs.Places as window
use Rattle.member.specs.State.{Member}
use Rattle.member.specs.declared.Answer.{Answer}
use Rattle.recovery.specs.Begin.{result_of}
use Rattle.recovery.specs.Calls.{Outcome, refused, carried, noted, with_reset, with_reply, call_verdict, whole_verdict, kept_read, kept_took, is_refusal, of_reset, floor_in, heard_of, invited_of, result_fits, reset_step, read_step, submit_of, repeat_of, status_of, receive_of, take_of, invite_of, make_of}
use Rattle.recovery.specs.Laws.{call_questions, whole_questions, make_questions, fields_questions, receive_questions, submit_questions, repeat_questions, FirstNo, SubmitFirstNo, RepeatFirstNo, StatusFirstNo, ReceiveFirstNo, TakeFirstNo, InviteFirstNo, MakeFirstNo}
use Rattle.recovery.specs.Sound.{member_sound, terminal_sound}
use Rattle.recovery.specs.State.{Kept, Reset, Terminal}

record Accepts (o : Outcome) : Type 0 where
  no : is_refusal o.answer ≡ false

-- a call that is its questions before a step that is no refusal
asked : (t : Terminal) (questions : List Question) (o step : Outcome) → o ≡ judged (first_no questions) (refused t) step → Accepts step → FirstNo t questions o
unfolding judged is_refusal
asked t questions o step e accepts =
    record {
      refuses = λ refusal n. e ∙ ap (λ (v : Verdict). judged v (refused t) step) n;
      accepts = λ refusal n z.
          let a : o.answer ≡ step.answer = ap (λ (o : Outcome). o.answer) (e ∙ ap (λ (v : Verdict). judged v (refused t) step) n) in
          let b : true ≡ false = ap is_refusal (sym z ∙ a) ∙ accepts.no in
          let c : ◌≡◌ {A = ℕ} 0 1 = cc in
          omega arith;
    }

pub invite_first_no : InviteFirstNo
unfolding invite_of whole_verdict first_no judged is_refusal
invite_first_no t number room = asked t (whole_questions t room) _ _ refl (record { no = refl })

pub make_first_no : MakeFirstNo
unfolding make_of whole_verdict first_no judged is_refusal
make_first_no t demand room =
    let r : Reset = t.reset in
    let rest : List Question =
    record { yes = r.inviting; refusal = Refusal.NotOfAttempt } ∷ record { yes = demand ≤? ones r.repliers; refusal = Refusal.FewSurvivors } ∷ [] in
    asked t (make_questions t demand room) _ _
    (ap (λ (o : Outcome). judged (first_no (whole_questions t room)) (refused t) o)
    (ap (λ (o : Outcome). ask r.inviting or refused t Refusal.NotOfAttempt then o) (judged_ask (refused t) _ (demand ≤? ones r.repliers) Refusal.FewSurvivors [])
    ∙ judged_ask (refused t) _ r.inviting Refusal.NotOfAttempt (record { yes = demand ≤? ones r.repliers; refusal = Refusal.FewSurvivors } ∷ []))
    ∙ judged_append (refused t) _ (whole_questions t room) rest)
    (record { no = refl })

-- questions 1 and 2, and those after them
call_asked : (t : Terminal) (room : ℕ) (rest : List Question) (x step : Outcome) → (call_verdict t room ≡ all_yes → x ≡ judged (first_no rest) (refused t) step)
    → judged (call_verdict t room) (refused t) x ≡ judged (first_no (call_questions t room ++ rest)) (refused t) step
unfolding call_verdict first_no
call_asked t room rest x step e =
    judged_same (call_verdict t room) (refused t) x (judged (first_no rest) (refused t) step) e
    ∙ judged_append (refused t) step (call_questions t room) rest

-- a terminal whose questions 1 and 2 were answered yes has a member whose are
called : (t : Terminal) (room : ℕ) → call_verdict t room ≡ all_yes → member_sound t ≡ true
unfolding call_verdict
called t room e = (when_was (member_sound t) _ _ all_yes e (accepted≢ Refusal.UnsoundState)).0

pub member_sound_lem : (t : Terminal) → member_sound t ≡ true → memberCalls.sound_of t.member ≡ true
unfolding member_sound
member_sound_lem t e = both_first (memberCalls.sound_of t.member) _ e

pub member_called : (t : Terminal) (room : ℕ) → call_verdict t room ≡ all_yes → member.call_verdict t.member room ≡ all_yes
unfolding call_verdict member.call_verdict
member_called t room e =
    let a = when_was (member_sound t) _ _ all_yes e (accepted≢ Refusal.UnsoundState) in
    sym (when_true (memberCalls.sound_of t.member) _ _ _ (member_sound_lem t a.0) refl) ∙ a.1

-- the member's questions behind questions 1 and 2
carried_judged : (t : Terminal) (v : Verdict) (x : member.Outcome) → carried t t.kept (judged v (member.refused t.member) x) ≡ judged v (refused t) (carried t t.kept x)
unfolding judged member.answered refused
carried_judged t (Ok _) x = refl
carried_judged t (Err r) x = refl

repeat_asked : (t : Terminal) (room : ℕ) → call_verdict t room ≡ all_yes
    → member.repeat_of t.member room
    ≡ judged (first_no (record { yes = 1 ≤? t.member.waiting; refusal = Refusal.NothingWaiting } ∷ [])) (member.refused t.member) (record { member = t.member; answer = Answer.Sent; bytes = member.request_packet t.member })
unfolding member.repeat_of judged first_no
repeat_asked t room e = rw (member_called t room e) (judged_ask (member.refused t.member) _ (1 ≤? t.member.waiting) Refusal.NothingWaiting [])

submit_asked : (t : Terminal) (payload : List ℕ) (room : ℕ) → call_verdict t room ≡ all_yes
    → member.submit_of t.member payload room
    ≡ judged
    (first_no
    (record { yes = length payload ≤? payload_most; refusal = Refusal.LongPayload }
    ∷ record { yes = t.member.waiting <? waiting_most; refusal = Refusal.AlreadyWaiting }
    ∷ record { yes = t.member.submitted <? largest_number; refusal = Refusal.NumbersUsedUp }
    ∷ []))
    (member.refused t.member)
    (when t.member.waiting =? 0
    then record { member = member.with_waiting t.member payload; answer = Answer.Sent; bytes = member.request_packet (member.with_waiting t.member payload) }
    else member.answered (member.with_waiting t.member payload) (Answer.Queued (t.member.submitted + 1)))
unfolding member.submit_of member.submit_verdict judged first_no
submit_asked t payload room e = rw (member_called t room e)

submit_accepts : (t : Terminal) (payload : List ℕ)
    → Accepts
    (carried t t.kept
    (when t.member.waiting =? 0
    then record { member = member.with_waiting t.member payload; answer = Answer.Sent; bytes = member.request_packet (member.with_waiting t.member payload) }
    else member.answered (member.with_waiting t.member payload) (Answer.Queued (t.member.submitted + 1))))
unfolding member.answered is_refusal
submit_accepts t payload =
    when_elim (λ (x : member.Outcome). Accepts (carried t t.kept x)) (t.member.waiting =? 0) (λ _. record { no = refl }) (λ _. record { no = refl })

pub status_first_no : StatusFirstNo
unfolding status_of member.status_of first_no judged is_refusal
status_first_no t room =
    asked t (call_questions t room) _ (carried t t.kept (record { member = t.member; answer = Answer.Sent; bytes = member.status_packet t.member }))
    (call_asked t room [] _ _ (λ e. rw (member_called t room e))) (record { no = refl })

pub repeat_first_no : RepeatFirstNo
unfolding repeat_of is_refusal
repeat_first_no t room =
    let m : Member = t.member in
    let step : member.Outcome = record { member = m; answer = Answer.Sent; bytes = member.request_packet m } in
    asked t (repeat_questions t room) _ (carried t t.kept step)
    (call_asked t room (record { yes = 1 ≤? m.waiting; refusal = Refusal.NothingWaiting } ∷ []) _ _
    (λ e. ap (λ (x : member.Outcome). carried t t.kept x) (repeat_asked t room e) ∙ carried_judged t (first_no (record { yes = 1 ≤? m.waiting; refusal = Refusal.NothingWaiting } ∷ [])) step))
    (record { no = refl })

pub submit_first_no : SubmitFirstNo
unfolding submit_of is_refusal
submit_first_no t payload room =
    let m : Member = t.member in
    let rest : List Question =
    record { yes = length payload ≤? payload_most; refusal = Refusal.LongPayload }
    ∷ record { yes = m.waiting <? waiting_most; refusal = Refusal.AlreadyWaiting }
    ∷ record { yes = m.submitted <? largest_number; refusal = Refusal.NumbersUsedUp }
    ∷ [] in
    let step : member.Outcome =
    when m.waiting =? 0 then record { member = member.with_waiting m payload; answer = Answer.Sent; bytes = member.request_packet (member.with_waiting m payload) } else
    member.answered (member.with_waiting m payload) (Answer.Queued (m.submitted + 1)) in
    asked t (submit_questions t payload room) _ (carried t t.kept step)
    (call_asked t room rest _ _ (λ e. ap (λ (x : member.Outcome). carried t t.kept x) (submit_asked t payload room e) ∙ carried_judged t (first_no rest) step))
    (submit_accepts t payload)

pub take_first_no : TakeFirstNo
unfolding take_of member.take_of member.took_of member.answered first_no judged is_refusal
take_first_no t room =
    let next = t.member.taken.0 + 1 in
    let kept : Kept = when member.is_ready t.member next then kept_took t.kept next (window.message_at t.member.held next) else t.kept in
    let step : member.Outcome = when member.is_ready t.member next then member.took_of t.member (window.message_at t.member.held next) else member.answered t.member Answer.None in
    asked t (call_questions t room) _ (carried t kept step)
    (call_asked t room [] _ _ (λ e. rw (member_called t room e)))
    (when_elim (λ (o : member.Outcome). Accepts (carried t kept o)) (member.is_ready t.member next) (λ _. record { no = refl }) (λ _. record { no = refl }))

-- what the member came to, and the floor that was read
abbrev heard : Terminal → ℕ → member.Outcome → Outcome
heard t floor o = carried t (kept_read t.kept o.answer floor) o

heard_ask : (t : Terminal) (floor : ℕ) (b : Bool) (x : member.Outcome) (r : Refusal)
    → heard t floor (when b then x else member.refused t.member r) ≡ (when b then heard t floor x else refused t r)
unfolding when◌then◌else◌ kept_read is_refusal member.answered refused
heard_ask t floor true x r = refl
heard_ask t floor false x r = refl

-- what follows a question need only be the same where its answer is yes
ask_same : (b : Bool) {x y : Outcome} (z : Outcome) → (b ≡ true → x ≡ y) → (when b then x else z) ≡ (when b then y else z)
unfolding when◌then◌else◌
ask_same true z f = f refl
ask_same false z f = refl

-- the group's number is ours, and no reply is open
abbrev ours : Terminal → ℕ → Bool
ours t group = group =? t.member.group.number and (when t.reset.replied then false else true)

abbrev other_end : List Question
other_end = record { yes = false; refusal = Refusal.OtherEnd } ∷ []

-- what a packet that passes all questions does
abbrev accepted_step : Terminal → Header → List ℕ → Outcome
accepted_step t h payload =
    when invitation_kind ≤? h.kind
    then (when h.kind =? invitation_kind then invited_of t h.member h.a else
    when h.kind =? reply_kind then noted (with_reset t (with_reply t.reset h.member h.b) t.frozen) [] else
    noted (result_of t h.a (record { 0 = h.b }) (record { 0 = h.c }) (survivors_in payload)) [])
    else heard t (floor_in (content_of h)) (memberAsking.accepted_step t.member h payload)

member_accepts : (t : Terminal) (floor : ℕ) (o : member.Outcome) → memberAsking.Accepts o → Accepts (heard t floor o)
unfolding is_refusal
member_accepts t floor o a = record { no = go o.answer a.no }
  where
    go : (x : Answer) → memberAsking.refuses x ≡ false → is_refusal x ≡ false
    go (Answer.Refused refusal) e = e
    go Answer.Sent e = refl
    go (Answer.Queued count) e = refl
    go Answer.Old e = refl
    go Answer.Kept e = refl
    go Answer.KeptGap e = refl
    go Answer.Beyond e = refl
    go Answer.BeyondGap e = refl
    go Answer.Gap e = refl
    go Answer.Status e = refl
    go Answer.None e = refl
    go Answer.Noted e = refl
    go (Answer.Took number originator count more) e = refl

step_accepts : (t : Terminal) (h : Header) (payload : List ℕ) → Accepts (accepted_step t h payload)
unfolding invited_of is_refusal
step_accepts t h payload =
    when_elim Accepts (invitation_kind ≤? h.kind)
    (λ _. when_elim Accepts (h.kind =? invitation_kind) (λ _. record { no = refl })
    (λ _. when_elim Accepts (h.kind =? reply_kind) (λ _. record { no = refl }) (λ _. record { no = refl })))
    (λ _. member_accepts t (floor_in (content_of h)) _ (memberAsking.step_accepts t.member h payload))

-- a packet of a reset: the whole terminal, then the group's number
by_terminal : (t : Terminal) (group : ℕ) (step x : Outcome) (rest : List Question) → x ≡ judged (first_no rest) (refused t) step
    → (when terminal_sound t then (when group =? t.member.group.number then x else refused t Refusal.OtherGroup) else refused t Refusal.UnsoundState)
    ≡ judged (first_no (record { yes = terminal_sound t; refusal = Refusal.UnsoundState } ∷ record { yes = group =? t.member.group.number; refusal = Refusal.OtherGroup } ∷ rest)) (refused t) step
unfolding first_no
by_terminal t group step x rest e =
    ap (λ (o : Outcome). when terminal_sound t then o else refused t Refusal.UnsoundState)
    (ap (λ (o : Outcome). when group =? t.member.group.number then o else refused t Refusal.OtherGroup) e
    ∙ judged_ask (refused t) step (group =? t.member.group.number) Refusal.OtherGroup rest)
    ∙ judged_ask (refused t) step (terminal_sound t) Refusal.UnsoundState (record { yes = group =? t.member.group.number; refusal = Refusal.OtherGroup } ∷ rest)

module _ (t : Terminal) (payload : List ℕ) (elected : t.member.group.elected.0 < t.member.group.n) where
  -- kind by kind
  kinds : (kind member group a b c : ℕ) → let h : Header = record { kind = kind; member = record { 0 = member }; group = group; a = a; b = b; c = c } in
      known_kind kind ≡ true → read_step t (Ok h) payload ≡ judged (first_no (fields_questions t h payload)) (refused t) (accepted_step t h payload)
  unfolding read_step from_elected content_of of_reset heard_of reset_step floor_in member.content_step kept_read is_refusal member.answered refused known_kind first_no judged when◌then◌else◌
  kinds zero member group a b c known = let z : false ≡ true = known in cc
  kinds (suc zero) member group a b c known =
      judged_ask (refused t) (accepted_step t (record { kind = 1; member = record { 0 = member }; group = group; a = a; b = b; c = c }) payload) (ours t group) Refusal.OtherGroup other_end
  kinds (suc (suc zero)) member group a b c known =
      let p : Header = record { kind = 2; member = record { 0 = member }; group = group; a = a; b = b; c = c } in
      let step = accepted_step t p payload in
      ap (λ (o : Outcome). when ours t group then o else refused t Refusal.OtherGroup)
      (heard_ask t c (member <? t.member.group.n) _ Refusal.UnknownMember ∙ judged_ask (refused t) step (member <? t.member.group.n) Refusal.UnknownMember [])
      ∙ judged_ask (refused t) step (ours t group) Refusal.OtherGroup (record { yes = member <? t.member.group.n; refusal = Refusal.UnknownMember } ∷ [])
  kinds (suc (suc (suc zero))) member group a b c known =
      judged_ask (refused t) (accepted_step t (record { kind = 3; member = record { 0 = member }; group = group; a = a; b = b; c = c }) payload) (ours t group) Refusal.OtherGroup other_end
  kinds (suc (suc (suc (suc zero)))) member group a b c known =
      judged_ask (refused t) (accepted_step t (record { kind = 4; member = record { 0 = member }; group = group; a = a; b = b; c = c }) payload) (ours t group) Refusal.OtherGroup other_end
  kinds (suc (suc (suc (suc (suc zero))))) member group a b c known =
      let p : Header = record { kind = 5; member = record { 0 = member }; group = group; a = a; b = b; c = c } in
      let step = accepted_step t p payload in
      ask_same (member =? t.member.group.elected.0) (refused t Refusal.ForbiddenFields)
      (λ named.
      let x : member ≡ t.member.group.elected.0 = eqb-true member t.member.group.elected.0 named in
      let y : (member <? t.member.group.n) ≡ true = lt-ltb member t.member.group.n (omega arith) in
      rw y (judged_ask (refused t) step (ours t group) Refusal.OtherGroup []))
      ∙ judged_ask (refused t) step (member =? t.member.group.elected.0) Refusal.ForbiddenFields
      (record { yes = ours t group; refusal = Refusal.OtherGroup } ∷ record { yes = member <? t.member.group.n; refusal = Refusal.UnknownMember } ∷ [])
  kinds (suc (suc (suc (suc (suc (suc zero)))))) member group a b c known =
      let p : Header = record { kind = 6; member = record { 0 = member }; group = group; a = a; b = b; c = c } in
      let step = accepted_step t p payload in
      ap (λ (o : Outcome). when ours t group then o else refused t Refusal.OtherGroup)
      (heard_ask t c (member <? t.member.group.n) _ Refusal.UnknownMember ∙ judged_ask (refused t) step (member <? t.member.group.n) Refusal.UnknownMember [])
      ∙ judged_ask (refused t) step (ours t group) Refusal.OtherGroup (record { yes = member <? t.member.group.n; refusal = Refusal.UnknownMember } ∷ [])
  kinds (suc (suc (suc (suc (suc (suc (suc zero))))))) member group a b c known =
      judged_ask (refused t) (accepted_step t (record { kind = 7; member = record { 0 = member }; group = group; a = a; b = b; c = c }) payload) (ours t group) Refusal.OtherGroup other_end
  kinds (suc (suc (suc (suc (suc (suc (suc (suc zero)))))))) member group a b c known =
      let p : Header = record { kind = 8; member = record { 0 = member }; group = group; a = a; b = b; c = c } in
      let step = accepted_step t p payload in
      ask_same (member =? t.member.group.elected.0) (refused t Refusal.ForbiddenFields)
      (λ named.
      let x : member ≡ t.member.group.elected.0 = eqb-true member t.member.group.elected.0 named in
      let y : (member <? t.member.group.n) ≡ true = lt-ltb member t.member.group.n (omega arith) in
      rw y (judged_ask (refused t) step (ours t group) Refusal.OtherGroup []))
      ∙ judged_ask (refused t) step (member =? t.member.group.elected.0) Refusal.ForbiddenFields
      (record { yes = ours t group; refusal = Refusal.OtherGroup } ∷ record { yes = member <? t.member.group.n; refusal = Refusal.UnknownMember } ∷ [])
  kinds (suc (suc (suc (suc (suc (suc (suc (suc (suc zero))))))))) member group a b c known =
      let step = accepted_step t (record { kind = 9; member = record { 0 = member }; group = group; a = a; b = b; c = c }) payload in
      by_terminal t group step _ (record { yes = member <? t.member.group.n; refusal = Refusal.UnknownMember } ∷ [])
      (judged_ask (refused t) step (member <? t.member.group.n) Refusal.UnknownMember [])
  kinds (suc (suc (suc (suc (suc (suc (suc (suc (suc (suc zero)))))))))) member group a b c known =
      let step = accepted_step t (record { kind = 10; member = record { 0 = member }; group = group; a = a; b = b; c = c }) payload in
      let fits = t.reset.inviting and t.reset.invited =? a in
      let last : List Question = record { yes = fits; refusal = Refusal.NotOfAttempt } ∷ [] in
      by_terminal t group step _ (record { yes = member <? t.member.group.n; refusal = Refusal.UnknownMember } ∷ last)
      (ap (λ (o : Outcome). when member <? t.member.group.n then o else refused t Refusal.UnknownMember) (judged_ask (refused t) step fits Refusal.NotOfAttempt [])
      ∙ judged_ask (refused t) step (member <? t.member.group.n) Refusal.UnknownMember last)
  kinds (suc (suc (suc (suc (suc (suc (suc (suc (suc (suc (suc zero))))))))))) member group a b c known =
      let step = accepted_step t (record { kind = 11; member = record { 0 = member }; group = group; a = a; b = b; c = c }) payload in
      let fits = result_fits t a (record { 0 = b }) (record { 0 = c }) (survivors_in payload) in
      let members = member <? t.member.group.n and is_within (survivors_in payload) (all_of t.member.group.n) in
      let last : List Question = record { yes = fits; refusal = Refusal.NotOfAttempt } ∷ [] in
      by_terminal t group step _ (record { yes = members; refusal = Refusal.UnknownMember } ∷ last)
      (ap (λ (o : Outcome). when members then o else refused t Refusal.UnknownMember) (judged_ask (refused t) step fits Refusal.NotOfAttempt [])
      ∙ judged_ask (refused t) step members Refusal.UnknownMember last)
  kinds (suc (suc (suc (suc (suc (suc (suc (suc (suc (suc (suc (suc kind)))))))))))) member group a b c known =
      let z : suc (suc (suc (suc (suc (suc (suc (suc (suc (suc (suc (suc kind))))))))))) ≤ 11 = search says in
      absurd (omega arith)

-- a reading that is a verdict is received as that verdict
read_judged : (t : Terminal) (v : Verdict) (h : Header) (payload : List ℕ) → read_step t (judged v Err (Ok h)) payload ≡ judged v (refused t) (read_step t (Ok h) payload)
unfolding judged read_step
read_judged t (Ok _) h payload = refl
read_judged t (Err r) h payload = refl

-- a packet that the questions of reading pass has a known kind
known_kind_lem : (p : List ℕ) → first_no (read_questions p) ≡ all_yes → known_kind (header_of p).kind ≡ true
unfolding first_no
known_kind_lem p e =
    let a = when_was _ _ _ all_yes e (accepted≢ Refusal.PacketSize) in
    (when_was _ _ _ all_yes a.1 (accepted≢ Refusal.UnknownKind)).0

pub receive_first_no : ReceiveFirstNo
unfolding receive_of
receive_first_no t packet room =
    let h = header_of packet in
    let payload = payload_at packet in
    let step : Outcome = accepted_step t h payload in
    asked t (receive_questions t packet room) _ step
    (call_asked t room (read_questions packet ++ fields_questions t h payload) _ step
    (λ e.
    let sound = memberSoundness.sound_of_lem t.member (member_sound_lem t (called t room e)) in
    let elected = survivor_lt t.member.group (memberSoundness.stands t.member sound) t.member.group.elected.0 sound.elected_in in
    ap (λ (r : Reading). read_step t r payload) (read_first_no packet)
    ∙ read_judged t (first_no (read_questions packet)) h payload
    ∙ judged_same (first_no (read_questions packet)) (refused t) _ _
    (λ k. kinds t payload elected h.kind h.member.0 h.group h.a h.b h.c (known_kind_lem packet k))
    ∙ judged_append (refused t) step (read_questions packet) (fields_questions t h payload)))
    (step_accepts t h payload)
