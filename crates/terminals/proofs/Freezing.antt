-- A packet at a terminal's sequencer: a frozen one says no to each, and another takes its own step. Assumes nothing.
use Rattle.std.specs.Prelude.{Ok, Err}
use mathlib.Core.Path.{◌≡◌, refl, sym, ap, ◌∙◌}
use mathlib.Core.Bool.{Bool, true, false}
use mathlib.Core.List.{List}
use Prim.Native.Nat.{ℕ, ◌≤◌}
use borrow.Author.Tests.{lt-ltb}
use Rattle.group.specs.Choice.{when◌then◌else◌, ask◌or◌then◌, ◌and◌, ◌<?◌, ◌=?◌}
use Rattle.group.specs.Question.{judged}
use Rattle.group.specs.declared.Refusal.{Refusal}
use Rattle.group.specs.Question.{Verdict}
use Rattle.group.proofs.Choice.{when_true, when_ne}
use Rattle.group.proofs.Lists.{eq_or, when_elim}
use Rattle.packet.specs.Packet.{content_of, from_elected, payload_at, read_of, request_kind, broadcast_kind, gap_kind, status_kind, poll_kind, offer_kind, confirm_kind, accept_kind, invitation_kind, reply_kind}
use Rattle.packet.specs.declared.Header.{Header}
use Rattle.packet.specs.declared.Packet.{Packet}
use Rattle.packet.specs.Answers.{Reading}
use Rattle.packet.proofs.Verdicts.{kind_above}
use Rattle.sequencer.specs.Calls as sequencer
use Rattle.sequencer.specs.State.{Sequencer}
use Rattle.recovery.specs.Calls.{ordered, of_reset, ordered_step, order_of}
use Rattle.recovery.specs.State.{Terminal}
use Rattle.recovery.proofs.Ordering.{reset_other, awake_step}
use Rattle.terminals.specs.Steps.{frozen_refusal, refusal_after}

-- kinds 9 to 11 are those of a reset
pub reset_kind : (h : Header) → request_kind ≤ h.kind → (accept_kind <? h.kind) ≡ of_reset (content_of h)
unfolding content_of of_reset when◌then◌else◌
reset_kind h low =
    eq_or h.kind request_kind (λ e. rw e refl) (λ n1. eq_or h.kind broadcast_kind (λ e. rw e refl) (λ n2. eq_or h.kind gap_kind (λ e. rw e refl)
    (λ n3. eq_or h.kind status_kind (λ e. rw e refl) (λ n4. eq_or h.kind poll_kind (λ e. rw e refl) (λ n5. eq_or h.kind offer_kind (λ e. rw e refl)
    (λ n6. eq_or h.kind confirm_kind (λ e. rw e refl) (λ n7. eq_or h.kind accept_kind (λ e. rw e refl)
    (λ n8. lt-ltb accept_kind h.kind (kind_above h.kind low n1 n2 n3 n4 n5 n6 n7 n8)
    ∙ sym (when_elim (λ (content : Packet). of_reset content ≡ true) (h.kind =? invitation_kind) (λ _. refl) (λ _. when_elim (λ (content : Packet). of_reset content ≡ true) (h.kind =? reply_kind) (λ _. refl) (λ _. refl)))
    ∙ ap of_reset (when_ne _ _ _ _ _ n1 (when_ne _ _ _ _ _ n2 (when_ne _ _ _ _ _ n3 (when_ne _ _ _ _ _ n4 (when_ne _ _ _ _ _ n5 (when_ne _ _ _ _ _ n6 (when_ne _ _ _ _ _ n7 (when_ne _ _ _ _ _ n8 refl))))))))))))))))

-- what a frozen sequencer comes to, question by question
frozen_asked : (s : Sequencer) (from ours reset : Bool) (o : sequencer.Outcome) → (reset ≡ true → o ≡ sequencer.refused s Refusal.OtherEnd)
    → (ask from or sequencer.refused s Refusal.ForbiddenFields then ask ours and reset or sequencer.refused s Refusal.OtherGroup then o)
    ≡ sequencer.refused s (ask from or Refusal.ForbiddenFields then ask ours and reset or Refusal.OtherGroup then Refusal.OtherEnd)
unfolding when◌then◌else◌
frozen_asked s true true true o f = f refl
frozen_asked s true true false o f = refl
frozen_asked s true false reset o f = refl
frozen_asked s false ours reset o f = refl

frozen_step : (t : Terminal) → t.frozen ≡ true → (r : Reading) (payload : List ℕ) → ordered_step t r payload ≡ sequencer.refused t.sequencer (frozen_refusal t.sequencer.group r)
unfolding ordered_step frozen_refusal
frozen_step t f (Err refusal) payload = refl
frozen_step t f (Ok h) payload =
    let s : Sequencer = t.sequencer in
    ap (λ (b : Bool). ask from_elected s.group (content_of h) or sequencer.refused s Refusal.ForbiddenFields then ask (h.group =? s.group.number and b) or sequencer.refused s Refusal.OtherGroup then sequencer.content_step s (content_of h) payload)
    (sym (when_true t.frozen (of_reset (content_of h)) (of_reset (content_of h)) true f refl))
    ∙ frozen_asked s (from_elected s.group (content_of h)) (h.group =? s.group.number) (of_reset (content_of h)) (sequencer.content_step s (content_of h) payload) (reset_other s (content_of h) payload)

-- behind questions 1 and 2
pub frozen_own : (t : Terminal) (packet : List ℕ) (room : ℕ) → t.frozen ≡ true
    → order_of t packet room ≡ ordered t (sequencer.refused t.sequencer (refusal_after (sequencer.call_verdict t.sequencer room) (frozen_refusal t.sequencer.group (read_of packet))))
unfolding order_of judged refusal_after
frozen_own t packet room f = ap (ordered t) (go (sequencer.call_verdict t.sequencer room))
  where
    go : (v : Verdict) → judged v (sequencer.refused t.sequencer) (ordered_step t (read_of packet) (payload_at packet)) ≡ sequencer.refused t.sequencer (refusal_after v (frozen_refusal t.sequencer.group (read_of packet)))
    go (Ok _) = frozen_step t f (read_of packet) (payload_at packet)
    go (Err r) = refl

-- a sequencer that is not frozen
pub awake_own : (t : Terminal) (packet : List ℕ) (room : ℕ) → t.frozen ≡ false → order_of t packet room ≡ ordered t (sequencer.receive_of t.sequencer packet room)
unfolding order_of sequencer.receive_of
awake_own t packet room f =
    ap (λ (o : sequencer.Outcome). ordered t (judged (sequencer.call_verdict t.sequencer room) (sequencer.refused t.sequencer) o)) (awake_step t f (read_of packet) (payload_at packet))
