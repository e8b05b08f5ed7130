-- A packet of another group, and any but a reset's to a terminal that replied or to a frozen sequencer, is refused: nothing changes, and nothing is
-- written. Assumes nothing.
use Rattle.std.specs.Prelude.{Ok, Err}
use mathlib.Core.Path.{◌≡◌, refl, sym, ap, ◌∙◌, subst}
use mathlib.Core.Bool.{true, false, false≢true}
use mathlib.Core.List.{List, []}
use Prim.Native.Nat.{ℕ}
use Rattle.group.proofs.Lists.{when_elim, judged_elim}
use Rattle.group.specs.Choice.{when◌then◌else◌, ◌and◌, ◌=?◌}
use Rattle.packet.specs.Packet.{read_of, payload_at, content_of, from_elected}
use Rattle.packet.specs.declared.Header.{Header}
use Rattle.packet.specs.Answers.{Reading}
use Rattle.sequencer.specs.Calls as sequencer
use Rattle.sequencer.specs.Order.{numbered_by}
use Rattle.sequencer.specs.State.{Sequencer}
use Rattle.recovery.proofs.Ordering.{reset_other}
use Rattle.recovery.specs.Calls as terminal
use Rattle.recovery.specs.State.{Terminal}

-- what the member's end does not read
abbrev pub Shut : Terminal → List ℕ → Type 0
Shut t p =
    (h : Header) → read_of p ≡ Ok h
    → (terminal.of_reset (content_of h) ≡ false) × ((h.group =? t.member.group.number and (when t.reset.replied then false else true)) ≡ false)

abbrev pub Unmoved : Terminal → terminal.Outcome → Type 0
Unmoved t x = (x.terminal ≡ t) × (x.bytes ≡ [])

pub shut_receives : (t : Terminal) (p : List ℕ) (room : ℕ) → Shut t p → Unmoved t (terminal.receive_of t p room)
unfolding terminal.receive_of terminal.read_step terminal.refused
shut_receives t p room shut = judged_elim (Unmoved t) (terminal.call_verdict t room) (λ _ _. (refl, refl)) (λ _. go (read_of p) refl)
  where
    go : (r : Reading) → read_of p ≡ r → Unmoved t (terminal.read_step t r (payload_at p))
    go (Err refusal) e = (refl, refl)
    go (Ok h) e =
        let s = shut h e in
        when_elim (Unmoved t) (from_elected t.member.group (content_of h))
        (λ _. when_elim (Unmoved t) (terminal.of_reset (content_of h)) (λ r. absurd (false≢true (sym s.0 ∙ r)))
        (λ _. when_elim (Unmoved t) (h.group =? t.member.group.number and (when t.reset.replied then false else true)) (λ r. absurd (false≢true (sym s.1 ∙ r))) (λ _. (refl, refl))))
        (λ _. (refl, refl))

-- what the sequencer's end does not read
abbrev pub SequencerShut : Terminal → List ℕ → Type 0
SequencerShut t p =
    (h : Header) → read_of p ≡ Ok h
    → (h.group =? t.sequencer.group.number and (when t.frozen then terminal.of_reset (content_of h) else true)) ≡ false

abbrev pub SequencerUnmoved : Terminal → sequencer.Outcome → Type 0
SequencerUnmoved t x = (x.sequencer ≡ t.sequencer) × (x.bytes ≡ []) × (numbered_by x.answer x.bytes ≡ [])

pub shut_orders : (t : Terminal) (p : List ℕ) (room : ℕ) → SequencerShut t p → ((terminal.order_of t p room).terminal ≡ t) × ((terminal.order_of t p room).bytes ≡ []) × (numbered_by (terminal.order_of t p room).answer (terminal.order_of t p room).bytes ≡ [])
unfolding terminal.order_of terminal.ordered_step sequencer.answered numbered_by
shut_orders t p room shut =
    let x = judged_elim (SequencerUnmoved t) (sequencer.call_verdict t.sequencer room) (λ _ _. (refl, refl, refl)) (λ _. go (read_of p) refl) in
    (ap (λ (s : Sequencer). terminal.with_sequencer t s) x.0, x.1, x.2)
  where
    go : (r : Reading) → read_of p ≡ r → SequencerUnmoved t (terminal.ordered_step t r (payload_at p))
    go (Err refusal) e = (refl, refl, refl)
    go (Ok h) e =
        when_elim (SequencerUnmoved t) (from_elected t.sequencer.group (content_of h))
        (λ _. when_elim (SequencerUnmoved t) (h.group =? t.sequencer.group.number and (when t.frozen then terminal.of_reset (content_of h) else true)) (λ r. absurd (false≢true (sym (shut h e) ∙ r))) (λ _. (refl, refl, refl)))
        (λ _. (refl, refl, refl))

-- a packet of a reset
pub reset_orders : (t : Terminal) (p : List ℕ) (room : ℕ) (h : Header) → read_of p ≡ Ok h → terminal.of_reset (content_of h) ≡ true
    → ((terminal.order_of t p room).terminal ≡ t) × ((terminal.order_of t p room).bytes ≡ []) × (numbered_by (terminal.order_of t p room).answer (terminal.order_of t p room).bytes ≡ [])
unfolding terminal.order_of terminal.ordered_step sequencer.answered numbered_by
reset_orders t p room h e of =
    let x = judged_elim (SequencerUnmoved t) (sequencer.call_verdict t.sequencer room) (λ _ _. (refl, refl, refl)) (λ _. subst (λ (r : Reading). SequencerUnmoved t (terminal.ordered_step t r (payload_at p))) (sym e) step) in
    (ap (λ (s : Sequencer). terminal.with_sequencer t s) x.0, x.1, x.2)
  where
    step : SequencerUnmoved t (terminal.ordered_step t (Ok h) (payload_at p))
    step =
        when_elim (SequencerUnmoved t) (from_elected t.sequencer.group (content_of h))
        (λ _. when_elim (SequencerUnmoved t) (h.group =? t.sequencer.group.number and (when t.frozen then terminal.of_reset (content_of h) else true))
        (λ _. subst (SequencerUnmoved t) (sym (reset_other t.sequencer (content_of h) (payload_at p) of)) (refl, refl, refl)) (λ _. (refl, refl, refl)))
        (λ _. (refl, refl, refl))
