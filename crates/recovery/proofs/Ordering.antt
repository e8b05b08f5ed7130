-- The sequencer's call for packets at a terminal: the first no of its questions, and it leaves a sound terminal sound, since one that replied and
-- whose sequencer is its group's is frozen. Assumes nothing.
use Rattle.group.specs.Question.{all_yes}
use Rattle.std.specs.Prelude.{Ok, Err}
use mathlib.Core.Path.{◌≡◌, refl, sym, ap, ◌∙◌, subst}
use mathlib.Core.Bool.{Bool, true, false, false≢true}
use mathlib.Core.List.{List, ◌∷◌, ◌++◌}
use Prim.Native.Nat.{ℕ, ◌-◌, ◌≤◌}
use borrow.Author.Tests.{eq-eqb}
use lib.ListN.{drop}
use Rattle.group.proofs.Choice.{when_true, when_false, when_was, both_hold, both_first, both_then}
use Rattle.group.proofs.Lists.{when_elim, judged_elim}
use Rattle.group.proofs.Question.{accepted≢, judged_ask, judged_append, judged_same}
use Rattle.group.specs.Choice.{when◌then◌else◌, ask◌or◌then◌, ◌and◌, ◌<?◌, ◌≤?◌, ◌=?◌}
use Rattle.group.specs.Limits.{places_most, largest_number}
use Rattle.group.specs.Question.{Question, first_no, judged}
use Rattle.group.specs.declared.MemberNumber.{MemberNumber}
use Rattle.group.specs.declared.Refusal.{Refusal}
use Rattle.group.specs.Question.{Verdict}
use Rattle.packet.proofs.Laws.{read_first_no}
use Rattle.packet.specs.Laws.{read_questions}
use Rattle.packet.specs.Packet.{header_of, payload_at, known_kind, read_of, content_of, from_elected}
use Rattle.packet.specs.declared.Header.{Header}
use Rattle.packet.specs.declared.Packet.{Packet}
use Rattle.packet.specs.Answers.{Reading}
use Rattle.sequencer.proofs.Asking.{Answers, accepted_answers, fields_asked}
use Rattle.sequencer.specs.Calls as sequencer
use Rattle.sequencer.specs.Laws as sequencerLaws
use Rattle.sequencer.specs.State.{Sequencer, last_count}
use Rattle.sequencer.specs.Note.{with_table, note_of}
use Rattle.sequencer.specs.Sound as sequencerCalls
use Rattle.sequencer.proofs.Laws as sequencerProofs
use Rattle.history.specs.Ask.{sender_verdict, count_verdict, wanted_verdict, expected_verdict}
use Rattle.history.specs.Repeat.{find_of}
use Rattle.sequencer.specs.Steps.{accepted_step}
use Rattle.group.specs.declared.Group.{Group}
use Rattle.recovery.specs.Calls.{SequencerOutcome, ordered, with_sequencer, of_reset, ordered_step, order_of}
use Rattle.recovery.specs.Laws.{order_questions, OrderFirstNo, Typed, OrderKeeps}
use Rattle.recovery.specs.Sound.{sequencer_sound, terminal_sound}
use Rattle.recovery.specs.State.{Terminal, serves, reply_number}
use Rattle.recovery.proofs.Keeping.{Sound, sound_of_lem, of_sound}

-- what follows a question need only be the same where its answer is yes
ask_same : (b : Bool) {x y : sequencer.Outcome} (z : sequencer.Outcome) → (b ≡ true → x ≡ y) → (when b then x else z) ≡ (when b then y else z)
unfolding when◌then◌else◌
ask_same true z f = f refl
ask_same false z f = refl

-- a packet of the sequencer's group goes down the questions behind 6 and 7
content_asked : (s : Sequencer) (payload : List ℕ) (h : Header) → known_kind h.kind ≡ true → from_elected s.group (content_of h) ≡ true
    → sequencer.content_step s (content_of h) payload ≡ judged (first_no (drop 2 (sequencerLaws.fields_questions s h))) (sequencer.refused s) (accepted_step s (content_of h) payload)
unfolding sequencer.read_step content_of first_no when◌then◌else◌
content_asked s payload h known named =
    let ours : Header = record { kind = h.kind; member = h.member; group = s.group.number; a = h.a; b = h.b; c = h.c } in
    rw (named, eq-eqb s.group.number s.group.number refl) at (fields_asked s payload ours known)

abbrev last_questions : Terminal → Header → List Question
last_questions t h =
    record { yes = from_elected t.sequencer.group (content_of h); refusal = Refusal.ForbiddenFields }
    ∷ record { yes = h.group =? t.sequencer.group.number and (when t.frozen then of_reset (content_of h) else true); refusal = Refusal.OtherGroup }
    ∷ drop 2 (sequencerLaws.fields_questions t.sequencer h)

step_asked : (t : Terminal) (payload : List ℕ) (h : Header) → known_kind h.kind ≡ true
    → ordered_step t (Ok h) payload ≡ judged (first_no (last_questions t h)) (sequencer.refused t.sequencer) (accepted_step t.sequencer (content_of h) payload)
unfolding ordered_step
step_asked t payload h known =
    let s : Sequencer = t.sequencer in
    let step = accepted_step s (content_of h) payload in
    let ours = h.group =? s.group.number and (when t.frozen then of_reset (content_of h) else true) in
    let rest = drop 2 (sequencerLaws.fields_questions s h) in
    ask_same (from_elected s.group (content_of h)) (sequencer.refused s Refusal.ForbiddenFields)
    (λ named. ap (λ (o : sequencer.Outcome). when ours then o else sequencer.refused s Refusal.OtherGroup) (content_asked s payload h known named)
    ∙ judged_ask (sequencer.refused s) step ours Refusal.OtherGroup rest)
    ∙ judged_ask (sequencer.refused s) step (from_elected s.group (content_of h)) Refusal.ForbiddenFields (record { yes = ours; refusal = Refusal.OtherGroup } ∷ rest)

-- a packet that the questions of reading pass has a known kind
known_kind_lem : (p : List ℕ) → first_no (read_questions p) ≡ all_yes → known_kind (header_of p).kind ≡ true
unfolding first_no
known_kind_lem p e =
    let a = when_was _ _ _ all_yes e (accepted≢ Refusal.PacketSize) in
    (when_was _ _ _ all_yes a.1 (accepted≢ Refusal.UnknownKind)).0

read_judged : (t : Terminal) (v : Verdict) (h : Header) (payload : List ℕ)
    → ordered_step t (judged v Err (Ok h)) payload ≡ judged v (sequencer.refused t.sequencer) (ordered_step t (Ok h) payload)
unfolding judged ordered_step
read_judged t (Ok _) h payload = refl
read_judged t (Err r) h payload = refl

pub order_first_no : OrderFirstNo
unfolding order_of sequencer.call_verdict first_no judged
order_first_no t packet room =
    let s : Sequencer = t.sequencer in
    let h = header_of packet in
    let payload = payload_at packet in
    let step : sequencer.Outcome = accepted_step s (content_of h) payload in
    let is : order_of t packet room ≡ ordered t (judged (first_no (order_questions t packet room)) (sequencer.refused s) step) =
    ap (λ (o : sequencer.Outcome). ordered t o)
    (ap (λ (o : sequencer.Outcome). judged (first_no (sequencerLaws.call_questions s room)) (sequencer.refused s) o)
    (ap (λ (r : Reading). ordered_step t r payload) (read_first_no packet)
    ∙ read_judged t (first_no (read_questions packet)) h payload
    ∙ judged_same (first_no (read_questions packet)) (sequencer.refused s) _ _ (λ k. step_asked t payload h (known_kind_lem packet k))
    ∙ judged_append (sequencer.refused s) step (read_questions packet) (last_questions t h))
    ∙ judged_append (sequencer.refused s) step (sequencerLaws.call_questions s room) (read_questions packet ++ last_questions t h)) in
    record {
      refuses = λ refusal n. is ∙ ap (λ (v : Verdict). ordered t (judged v (sequencer.refused s) step)) n;
      accepts = λ refusal n a.
          subst Answers (sym (ap (λ (o : SequencerOutcome). o.answer) (is ∙ ap (λ (v : Verdict). ordered t (judged v (sequencer.refused s) step)) n)) ∙ a) (accepted_answers s (content_of h) payload);
    }

-- a packet of a reset is for no sequencer
pub reset_other : (s : Sequencer) (content : Packet) (payload : List ℕ) → of_reset content ≡ true → sequencer.content_step s content payload ≡ sequencer.refused s Refusal.OtherEnd
unfolding of_reset sequencer.content_step
reset_other s (Packet.Request sender taken count) payload e = absurd (false≢true e)
reset_other s (Packet.Broadcast originator number count floor) payload e = refl
reset_other s (Packet.Gap sender taken first last) payload e = absurd (false≢true e)
reset_other s (Packet.Status sender taken) payload e = absurd (false≢true e)
reset_other s (Packet.Poll elected top floor) payload e = refl
reset_other s (Packet.Offer originator number count floor) payload e = refl
reset_other s (Packet.Confirm sender number) payload e = absurd (false≢true e)
reset_other s (Packet.Accept elected number) payload e = refl
reset_other s (Packet.Invitation sender attempt) payload e = refl
reset_other s (Packet.Reply sender attempt number) payload e = refl
reset_other s (Packet.Result sender attempt elected number) payload e = refl

-- no packet changes the group's description
module _ (s : Sequencer) where
  abbrev Grouped : sequencer.Outcome → Type 0
  Grouped o = o.sequencer.group ≡ s.group

  request_group : (s' : Sequencer) → s'.group ≡ s.group → (m : MemberNumber) (count : ℕ) (payload : List ℕ) → Grouped (sequencer.request_of s' m count payload)
  unfolding sequencer.request_of sequencer.old_of sequencer.again_of sequencer.full_of sequencer.numbered_of sequencer.answered sequencer.repeated_of sequencer.with_message
  request_group s' e m count payload =
      when_elim Grouped (count <? last_count s' m) (λ _. e)
      (λ _. when_elim Grouped (count =? last_count s' m) (λ _. when_elim Grouped (find_of s'.history m count s'.floor.0 (s'.top.0 - s'.floor.0) =? 0) (λ _. e) (λ _. e))
      (λ _. when_elim Grouped (s'.top.0 - s'.floor.0 =? places_most) (λ _. e) (λ _. e)))

  content_group : (content : Packet) (payload : List ℕ) → Grouped (sequencer.content_step s content payload)
  unfolding sequencer.content_step sequencer.gap_of sequencer.confirm_of sequencer.settled_of sequencer.answered sequencer.with_mark sequencer.with_accepted note_of with_table
  content_group (Packet.Request sender taken count) payload =
      judged_elim Grouped (sender_verdict s.group.survivors s.accepted.0 sender taken) (λ _ _. refl)
      (λ _. judged_elim Grouped (count_verdict (last_count s sender) s.top.0 count) (λ _ _. refl) (λ _. request_group (note_of s sender taken) refl sender count payload))
  content_group (Packet.Broadcast originator number count floor) payload = refl
  content_group (Packet.Gap sender taken first last) payload =
      judged_elim Grouped (sender_verdict s.group.survivors s.accepted.0 sender taken) (λ _ _. refl)
      (λ _. judged_elim Grouped (wanted_verdict s.top.0 last) (λ _ _. refl) (λ _. when_elim Grouped (last.0 ≤? (note_of s sender taken).floor.0) (λ _. refl) (λ _. refl)))
  content_group (Packet.Status sender taken) payload = judged_elim Grouped (sender_verdict s.group.survivors s.accepted.0 sender taken) (λ _ _. refl) (λ _. refl)
  content_group (Packet.Poll elected top floor) payload = refl
  content_group (Packet.Offer originator number count floor) payload = refl
  content_group (Packet.Confirm sender number) payload =
      judged_elim Grouped (sender_verdict s.group.survivors s.top.0 sender number) (λ _ _. refl)
      (λ _. judged_elim Grouped (expected_verdict s.group s.accepted.0 sender number) (λ _ _. refl)
      (λ _. when_elim Grouped (number.0 ≤? s.accepted.0) (λ _. refl) (λ _. when_elim Grouped (sequencer.enough_in (sequencer.with_mark s sender number) =? 0) (λ _. refl) (λ _. refl))))
  content_group (Packet.Accept elected number) payload = refl
  content_group (Packet.Invitation sender attempt) payload = refl
  content_group (Packet.Reply sender attempt number) payload = refl
  content_group (Packet.Result sender attempt elected number) payload = refl

frozen_step : (t : Terminal) → t.frozen ≡ true → (r : Reading) (payload : List ℕ) → (ordered_step t r payload).sequencer ≡ t.sequencer
unfolding ordered_step sequencer.answered when◌then◌else◌
frozen_step t f (Err refusal) payload = refl
frozen_step t f (Ok h) payload =
    let P : sequencer.Outcome → Type 0 = λ o. o.sequencer ≡ t.sequencer in
    when_elim P (from_elected t.sequencer.group (content_of h))
    (λ _. when_elim P (h.group =? t.sequencer.group.number and (when t.frozen then of_reset (content_of h) else true))
    (λ x.
    let y = both_then (h.group =? t.sequencer.group.number) _ x in
    ap (λ (o : sequencer.Outcome). o.sequencer) (reset_other t.sequencer (content_of h) payload (rw f at y))) (λ _. refl))
    (λ _. refl)

pub ordered_group : (t : Terminal) (r : Reading) (payload : List ℕ) → (ordered_step t r payload).sequencer.group ≡ t.sequencer.group
unfolding ordered_step sequencer.answered
ordered_group t (Err refusal) payload = refl
ordered_group t (Ok h) payload =
    when_elim (Grouped t.sequencer) (from_elected t.sequencer.group (content_of h))
    (λ _. when_elim (Grouped t.sequencer) (h.group =? t.sequencer.group.number and (when t.frozen then of_reset (content_of h) else true)) (λ _. content_group t.sequencer (content_of h) payload) (λ _. refl))
    (λ _. refl)

and_yes : (b : Bool) → (b and true) ≡ b
unfolding when◌then◌else◌
and_yes true = refl
and_yes false = refl

awake_test : (t : Terminal) → t.frozen ≡ false → (h : Header)
    → (h.group =? t.sequencer.group.number and (when t.frozen then of_reset (content_of h) else true)) ≡ (h.group =? t.sequencer.group.number)
unfolding when◌then◌else◌
awake_test t f h = rw f (and_yes (h.group =? t.sequencer.group.number))

pub awake_step : (t : Terminal) → t.frozen ≡ false → (r : Reading) (payload : List ℕ) → ordered_step t r payload ≡ sequencer.read_step t.sequencer r payload
unfolding ordered_step sequencer.read_step
awake_step t f (Err refusal) payload = refl
awake_step t f (Ok h) payload =
    let s : Sequencer = t.sequencer in
    ap (λ (b : Bool). when from_elected s.group (content_of h) then (when b then sequencer.content_step s (content_of h) payload else sequencer.refused s Refusal.OtherGroup) else sequencer.refused s Refusal.ForbiddenFields)
    (awake_test t f h)

-- what a terminal's sequencer is left as: frozen, as it was; else as the sequencer's own call leaves it
module _ (t : Terminal) (packet : List ℕ) (room : ℕ) where
  abbrev s : Sequencer
  s = t.sequencer

  abbrev left : sequencer.Outcome
  left = judged (sequencer.call_verdict s room) (sequencer.refused s) (ordered_step t (read_of packet) (payload_at packet))

  frozen_left : t.frozen ≡ true → left.sequencer ≡ s
  unfolding sequencer.answered
  frozen_left f = judged_elim (λ (o : sequencer.Outcome). o.sequencer ≡ s) (sequencer.call_verdict s room) (λ _ _. refl) (λ _. reading (read_of packet))
    where
      reading : (r : Reading) → (ordered_step t r (payload_at packet)).sequencer ≡ s
      reading r = frozen_step t f r (payload_at packet)

  group_left : left.sequencer.group ≡ s.group
  unfolding sequencer.answered
  group_left = judged_elim (λ (o : sequencer.Outcome). o.sequencer.group ≡ s.group) (sequencer.call_verdict s room) (λ _ _. refl) (λ _. ordered_group t (read_of packet) (payload_at packet))

  awake_left : t.frozen ≡ false → left ≡ sequencer.receive_of s packet room
  unfolding sequencer.receive_of
  awake_left f = ap (λ (o : sequencer.Outcome). judged (sequencer.call_verdict s room) (sequencer.refused s) o) (awake_step t f (read_of packet) (payload_at packet))

-- its types can hold what is left
pub order_left : (t : Terminal) (packet : List ℕ) (room : ℕ) → (header_of packet).b ≤ largest_number → sequencerLaws.Typed t.sequencer → sequencerLaws.Typed (left t packet room).sequencer
order_left t packet room most typed = go t.frozen refl
  where
    go : (f : Bool) → t.frozen ≡ f → sequencerLaws.Typed (left t packet room).sequencer
    go true f = subst sequencerLaws.Typed (sym (frozen_left t packet room f)) typed
    go false f = subst (λ (o : sequencer.Outcome). sequencerLaws.Typed o.sequencer) (sym (awake_left t packet room f)) (sequencerProofs.receive_keeps t.sequencer packet room most typed).typed

not_serving : (t : Terminal) → Sound t → t.frozen ≡ false → t.reset.replied ≡ true → (b : Bool) → serves t ≡ b → b ≡ false
not_serving t sound f r true e = absurd (false≢true (sym f ∙ sound.freezes r e))
not_serving t sound f r false e = refl

awake_keeps : (t : Terminal) (packet : List ℕ) (room : ℕ) → (header_of packet).b ≤ largest_number → Typed t → t.sequencing ≡ true → Sound t → t.frozen ≡ false
    → terminal_sound (with_sequencer t (left t packet room).sequencer) ≡ true
unfolding sequencer_sound when◌then◌else◌ reply_number
awake_keeps t packet room most typed sequencing sound f =
    let s' : Sequencer = (left t packet room).sequencer in
    let group = group_left t packet room in
    let ends : sequencerCalls.sound_of t.sequencer and t.sequencer.group.n =? t.member.group.n ≡ true = rw sequencing at sound.sequencer in
    let keeps = sequencerProofs.receive_keeps t.sequencer packet room most typed.sequencer in
    let ok : sequencerCalls.sound_of s' ≡ true =
    subst (λ (o : sequencer.Outcome). sequencerCalls.sound_of o.sequencer ≡ true) (sym (awake_left t packet room f)) (keeps.sound (both_first (sequencerCalls.sound_of t.sequencer) _ ends)) in
    let size : (s'.group.n =? t.member.group.n) ≡ true = ap (λ (g : Group). g.n =? t.member.group.n) group ∙ both_then (sequencerCalls.sound_of t.sequencer) _ ends in
    let same : serves (with_sequencer t s') ≡ serves t = ap (λ (g : Group). t.sequencing and g.number =? t.member.group.number) group in
    of_sound (with_sequencer t s')
    (record {
      member = sound.member;
      kept = sound.kept;
      reset = sound.reset;
      sequencer = sym (when_true t.sequencing true _ _ sequencing (sym (both_hold (sequencerCalls.sound_of s') _ ok size)));
      number_is = λ r.
          let out = not_serving t sound f r (serves t) refl in
          sound.number_is r ∙ sym (when_false (serves t) _ t.sequencer.top.0 _ out refl) ∙ when_false (serves (with_sequencer t s')) _ s'.top.0 _ (same ∙ out) refl;
      freezes = λ r x. absurd (false≢true (sym (not_serving t sound f r (serves t) refl) ∙ sym same ∙ x));
    })

pub order_keeps : OrderKeeps
unfolding order_of
order_keeps t packet room most typed sequencing e = go t.frozen refl
  where
    go : (f : Bool) → t.frozen ≡ f → terminal_sound (with_sequencer t (left t packet room).sequencer) ≡ true
    go true f = subst (λ (x : Sequencer). terminal_sound (with_sequencer t x) ≡ true) (sym (frozen_left t packet room f)) e
    go false f = awake_keeps t packet room most typed sequencing (sound_of_lem t e) f
