-- The laws that `specs/Laws.antt` states: a call is the first no of its questions or a step that never refuses, and each step
-- leaves a sound state sound. Assumes nothing.
use Rattle.group.specs.Question.{all_yes}
use Rattle.std.specs.Prelude.{Ok, Err}
use mathlib.Core.Path.{◌≡◌, refl, sym, ap, ◌∙◌, subst}
use mathlib.Core.Logic.{inl, inr}
use mathlib.Core.Bool.{true}
use mathlib.Core.List.{List, [], ◌∷◌, ◌++◌}
use Prim.Native.Nat.{ℕ, ◌-◌, ◌≤◌}
use borrow.Author.Tests.{ltb-true, leb-true}
use lib.ListN.{length}
use Rattle.group.proofs.Choice.{when_was, both_first, both_then}
use Rattle.group.proofs.Lists.{when_elim, judged_elim}
use Rattle.group.proofs.Question.{accepted≢, judged_ask, judged_append}
use Rattle.group.specs.Choice.{◌and◌, ◌<?◌, ◌≤?◌, ◌=?◌}
use Rattle.group.specs.Limits.{header_size, largest_number}
use Rattle.group.specs.Question.{Question, first_no, judged}
use Rattle.group.specs.declared.Refusal.{Refusal}
use Rattle.group.specs.declared.Refusal.TheVariants.{UnsoundState, PacketSize, UnknownKind, NotInHistory, OtherGroup, ForbiddenFields}
use Rattle.group.specs.Question.{Verdict}
use Rattle.packet.proofs.Laws.{read_first_no, fields_content}
use Rattle.packet.proofs.Verdicts.{askable, readable}
use Rattle.packet.specs.Laws.{read_questions}
use Rattle.packet.specs.Packet.{header_of, payload_at, known_kind, read_of, content_of, from_elected}
use Rattle.packet.specs.Answers.{Reading}
use Rattle.sequencer.specs.Calls.{Outcome, answered, refused, broadcast_of, poll_packet, read_step, call_verdict, receive_of, poll_of, copy_of}
use Rattle.sequencer.specs.Laws.{call_questions, fields_questions, receive_questions, copy_questions, FirstNo, ReceiveFirstNo, PollFirstNo, CopyFirstNo, Typed, Keeps, ReceiveKeeps, PollKeeps, CopyKeeps}
use Rattle.sequencer.specs.Sound.{sound_of}
use Rattle.sequencer.specs.Steps.{accepted_step}
use Rattle.sequencer.specs.declared.Answer.TheVariants.{Sent}
use Rattle.sequencer.specs.State.{Sequencer}
use Rattle.sequencer.proofs.Asking.{Answers, accepted_answers, fields_asked}
use Rattle.sequencer.proofs.Keeping.{Stays, broadcast_reads, poll_reads, content_stays}
use Rattle.sequencer.proofs.Soundness.{sound_of_lem, of_sound}

-- a call that is the first no of its questions, or else a step that never refuses
first_no_lem : (s : Sequencer) (questions : List Question) (o step : Outcome) → Answers step.answer
    → o ≡ judged (first_no questions) (refused s) step → FirstNo s questions o
unfolding judged
first_no_lem s questions o step answers e =
    record {
      refuses = λ refusal no. rw no at e;
      accepts = λ refusal yes a. subst Answers (sym (ap (λ (x : Outcome). x.answer) (rw yes at e)) ∙ a) answers;
    }

pub poll_first_no : PollFirstNo
unfolding poll_of call_verdict first_no
poll_first_no s room = first_no_lem s (call_questions s room) (poll_of s room) (record { sequencer = s; answer = Sent; bytes = poll_packet s }) tt refl

pub copy_first_no : CopyFirstNo
unfolding copy_of call_verdict first_no judged
copy_first_no s number room =
    let inside = s.floor.0 <? number.0 and number.0 ≤? s.top.0 in
    let step : Outcome = record { sequencer = s; answer = Sent; bytes = broadcast_of s number.0 } in
    first_no_lem s (copy_questions s number room) (copy_of s number room) step tt
    (ap (λ (o : Outcome). judged (first_no (call_questions s room)) (refused s) o) (judged_ask (refused s) step inside NotInHistory [])
    ∙ judged_append (refused s) step (call_questions s room) (record { yes = inside; refusal = NotInHistory } ∷ []))

-- a packet that the questions of reading pass has a known kind
known_kind_lem : (p : List ℕ) → first_no (read_questions p) ≡ all_yes → known_kind (header_of p).kind ≡ true
unfolding first_no
known_kind_lem p e =
    let a = when_was _ _ _ all_yes e (accepted≢ PacketSize) in
    (when_was _ _ _ all_yes a.1 (accepted≢ UnknownKind)).0

module _ (s : Sequencer) (p : List ℕ) where
  abbrev step : Outcome
  step = accepted_step s (content_of (header_of p)) (payload_at p)

  read_asked : read_step s (read_of p) (payload_at p) ≡ judged (first_no (read_questions p ++ fields_questions s (header_of p))) (refused s) step
  unfolding judged read_step
  read_asked =
      ap (λ (r : Reading). read_step s r (payload_at p)) (read_first_no p)
      ∙ go (first_no (read_questions p)) refl
      ∙ judged_append (refused s) step (read_questions p) (fields_questions s (header_of p))
    where
      go : (v : Verdict) → first_no (read_questions p) ≡ v
          → read_step s (judged v Err (Ok (header_of p))) (payload_at p)
          ≡ judged v (refused s) (judged (first_no (fields_questions s (header_of p))) (refused s) step)
      go (Ok _) e = fields_asked s (payload_at p) (header_of p) (known_kind_lem p e)
      go (Err r) e = refl

pub receive_first_no : ReceiveFirstNo
unfolding receive_of call_verdict first_no
receive_first_no s packet room =
    first_no_lem s (receive_questions s packet room) (receive_of s packet room) (step s packet) (accepted_answers s (content_of (header_of packet)) (payload_at packet))
    (ap (λ (o : Outcome). judged (first_no (call_questions s room)) (refused s) o) (read_asked s packet)
    ∙ judged_append (refused s) (step s packet) (call_questions s room) (read_questions packet ++ fields_questions s (header_of packet)))

module _ (s : Sequencer) (typed : Typed s) where
  keeps_refused : (refusal : Refusal) → Keeps s (refused s refusal)
  unfolding answered
  keeps_refused refusal = record { typed = typed; sound = λ e. e; bytes = inl refl }

  keeps_stays : (o : Outcome) → Stays o → Keeps s o
  keeps_stays o k = record { typed = k.typed; sound = λ e. of_sound o.sequencer k.sound; bytes = k.bytes }

  called_sound : (room : ℕ) → call_verdict s room ≡ all_yes → sound_of s ≡ true
  unfolding call_verdict
  called_sound room e = (when_was (sound_of s) _ _ all_yes e (accepted≢ UnsoundState)).0

  -- a packet that was read
  keeps_read : sound_of s ≡ true → (p : List ℕ) → (header_of p).b ≤ largest_number → (reading : Reading) → read_of p ≡ reading
      → Keeps s (read_step s reading (payload_at p))
  unfolding read_step
  keeps_read sound p fits (Ok h) e =
      let a = readable p h e in
      let f = askable h (length p - header_size) (payload_at p) a.fields in
      let c = fields_content h (length p - header_size) (payload_at p) a.fields in
      let most : h.b ≤ largest_number = rw a.header fits in
      when_elim (Keeps s) (from_elected s.group (content_of h))
      (λ u. when_elim (Keeps s) (h.group =? s.group.number)
      (λ t. keeps_stays _ (content_stays s typed (sound_of_lem s sound) h.group (payload_at p) a.payload (content_of h) (rw c f.obey) (rw c most)))
      (λ t. keeps_refused OtherGroup))
      (λ u. keeps_refused ForbiddenFields)
  keeps_read sound p fits (Err refusal) e = keeps_refused refusal

pub receive_keeps : ReceiveKeeps
unfolding receive_of
receive_keeps s packet room fits typed =
    judged_elim (Keeps s) (call_verdict s room) (λ r e. keeps_refused s typed r)
    (λ e. keeps_read s typed (called_sound s typed room e) packet fits (read_of packet) refl)

pub poll_keeps : PollKeeps
unfolding poll_of
poll_keeps s room typed =
    judged_elim (Keeps s) (call_verdict s room) (λ r e. keeps_refused s typed r)
    (λ e. record { typed = typed; sound = λ f. f; bytes = inr (poll_reads s typed (sound_of_lem s (called_sound s typed room e))) })

pub copy_keeps : CopyKeeps
unfolding copy_of
copy_keeps s number room typed =
    let above = s.floor.0 <? number.0 in
    let below = number.0 ≤? s.top.0 in
    judged_elim (Keeps s) (call_verdict s room) (λ r e. keeps_refused s typed r)
    (λ e. when_elim (Keeps s) (above and below)
    (λ t.
    let a = ltb-true s.floor.0 number.0 (both_first above below t) in
    let b = leb-true number.0 s.top.0 (both_then above below t) in
    record { typed = typed; sound = λ f. f; bytes = inr (broadcast_reads s typed (sound_of_lem s (called_sound s typed room e)) number.0 a b) })
    (λ t. keeps_refused s typed NotInHistory))
