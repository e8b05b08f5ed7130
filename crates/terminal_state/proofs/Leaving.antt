-- What is seen of a terminal in memory says every number and byte of it, so that a call that is refused leaves them all: what its outcome shows is what was seen
-- at entry, by the law of the first no. Assumes nothing.
use Rattle.group.specs.Question.{all_yes}
use Rattle.std.specs.Prelude.{Ok, Err}
use mathlib.Core.Path.{◌≡◌, refl, sym, ap, subst, ◌∙◌}
use mathlib.Core.List.{List, [], ◌++◌}
use Prim.Native.Nat.{ℕ}
use lib.ListN.{length, drop}
use Rattle.group.specs.Question.{Question, first_no}
use Rattle.group.specs.declared.Refusal.{Refusal}
use Rattle.group.specs.Question.{Verdict}
use Rattle.member.specs.declared.Answer.{Answer}
use Rattle.member.specs.declared.Reply as member
use Rattle.sequencer.specs.Calls as calls
use Rattle.sequencer.specs.declared.Answer as sequencerAnswer
use Rattle.sequencer.specs.declared.Reply as sequencer
use Rattle.recovery.specs.Calls.{Outcome, SequencerOutcome, refused, submit_of, receive_of, take_of, invite_of, make_of, order_of}
use Rattle.recovery.specs.Laws.{FirstNo, OrderFirst, call_questions, whole_questions, make_questions, submit_questions, receive_questions, order_questions}
use Rattle.recovery.specs.Promise.{called, ordered, Changed}
use Rattle.recovery.specs.State as state
use Rattle.recovery.specs.View.{Stored, View, seen, odd}
use Rattle.recovery.proofs.Asking.{submit_first_no, receive_first_no, take_first_no, invite_first_no, make_first_no}
use Rattle.recovery.proofs.Leaving as parts
use Rattle.recovery.proofs.Ordering.{order_first_no}
use Rattle.terminal_state.specs.Laws.{RefusedSubmitLeaves, RefusedReceiveLeaves, RefusedTakeLeaves, RefusedInviteLeaves, RefusedMakeLeaves, RefusedOrderLeaves}
use Rattle.terminal_state.specs.Terminal.{stored_of, view_of, Sized, ViewWhole}
use Rattle.terminal_state.specs.declared.Terminal.{Terminal}

-- a terminal is its parts
abbrev joined : Stored → Terminal
joined p = record { head = p.head; queued = p.queued; held = p.held; queued_originators = p.queued_originators; queued_lengths = p.queued_lengths; held_originators = p.held_originators; held_lengths = p.held_lengths; queued_payloads = p.queued_payloads; held_payloads = p.held_payloads; past = p.past; past_originators = p.past_originators; past_lengths = p.past_lengths; past_payloads = p.past_payloads; highest = p.highest; replies = p.replies; taken = p.taken; counts = p.counts; repeats = p.repeats; kept = p.kept; marks = p.marks; originators = p.originators; lengths = p.lengths; payloads = p.payloads }

pub view_whole : ViewWhole
view_whole s t a b e = ap joined (parts.view_whole (stored_of s) (stored_of t) a b e)

-- the member's calls
refusal_is : {t : state.Terminal} {qs : List Question} {o : Outcome} → FirstNo t qs o → (refusal : Refusal) → o.answer ≡ Answer.Refused refusal → (o.terminal ≡ t) × (o.bytes ≡ [])
unfolding refused
refusal_is {t = t} {qs = qs} {o = o} f refusal e = go (first_no qs) refl
  where
    go : (v : Verdict) → first_no qs ≡ v → (o.terminal ≡ t) × (o.bytes ≡ [])
    go (Ok _) z = absurd (f.accepts refusal z e)
    go (Err q) z = let y = f.refuses q z in (ap (λ (p : Outcome). p.terminal) y, ap (λ (p : Outcome). p.bytes) y)

view_left : (call : state.Terminal → Outcome) (qs : state.Terminal → List Question) → ((t : state.Terminal) → FirstNo t (qs t) (call t)) → (v : View) (refusal : Refusal)
    → (called call v).answer ≡ Answer.Refused refusal → ((called call v).view ≡ v) × ((called call v).bytes ≡ [])
unfolding called
view_left call qs f (seen t) refusal e = let r = refusal_is (f t) refusal e in (ap seen r.0, r.1)
view_left call qs f (odd s) refusal e = (refl, refl)

leaves : (s t : Terminal) (call : state.Terminal → Outcome) (qs : state.Terminal → List Question) → ((x : state.Terminal) → FirstNo x (qs x) (call x)) → {reply : member.Reply} {before after : List ℕ} (refusal : Refusal)
    → Sized s → Sized t → Changed (called call (view_of s)) reply (stored_of t) before after → reply.answer ≡ Answer.Refused refusal → (t ≡ s) × (after ≡ before)
leaves s t call qs f {before = before} {after = after} refusal a b d e =
    let r = view_left call qs f (view_of s) refusal (ap (λ (x : member.Reply). x.answer) (sym d.answer) ∙ e) in
    (view_whole t s b a (d.state ∙ r.0), subst (λ (bytes : List ℕ). after ≡ bytes ++ drop (length bytes) before) r.1 d.lent)

pub submit_leaves : RefusedSubmitLeaves
submit_leaves s t payload before after reply refusal a b d e =
    leaves s t (λ x. submit_of x payload (length before)) (λ x. submit_questions x payload (length before)) (λ x. submit_first_no x payload (length before)) refusal a b d e

pub receive_leaves : RefusedReceiveLeaves
receive_leaves s t packet before after reply refusal a b d e =
    leaves s t (λ x. receive_of x packet (length before)) (λ x. receive_questions x packet (length before)) (λ x. receive_first_no x packet (length before)) refusal a b d e

pub take_leaves : RefusedTakeLeaves
take_leaves s t before after reply refusal a b d e =
    leaves s t (λ x. take_of x (length before)) (λ x. call_questions x (length before)) (λ x. take_first_no x (length before)) refusal a b d e

pub invite_leaves : RefusedInviteLeaves
invite_leaves s t number before after reply refusal a b d e =
    leaves s t (λ x. invite_of x number (length before)) (λ x. whole_questions x (length before)) (λ x. invite_first_no x number (length before)) refusal a b d e

pub make_leaves : RefusedMakeLeaves
make_leaves s t demand before after reply refusal a b d e =
    leaves s t (λ x. make_of x demand (length before)) (λ x. make_questions x demand (length before)) (λ x. make_first_no x demand (length before)) refusal a b d e

-- the sequencer's
order_is : {t : state.Terminal} {qs : List Question} {o : SequencerOutcome} → OrderFirst t qs o → (refusal : Refusal) → o.answer ≡ sequencerAnswer.Answer.Refused refusal → (o.terminal ≡ t) × (o.bytes ≡ [])
unfolding calls.answered
order_is {t = t} {qs = qs} {o = o} f refusal e = go (first_no qs) refl
  where
    go : (v : Verdict) → first_no qs ≡ v → (o.terminal ≡ t) × (o.bytes ≡ [])
    go (Ok _) z = absurd (f.accepts refusal z e)
    go (Err q) z = let y = f.refuses q z in (ap (λ (p : SequencerOutcome). p.terminal) y, ap (λ (p : SequencerOutcome). p.bytes) y)

order_left : (call : state.Terminal → SequencerOutcome) (qs : state.Terminal → List Question) → ((t : state.Terminal) → OrderFirst t (qs t) (call t)) → (v : View) (refusal : Refusal)
    → (ordered call v).answer ≡ sequencerAnswer.Answer.Refused refusal → ((ordered call v).view ≡ v) × ((ordered call v).bytes ≡ [])
unfolding ordered
order_left call qs f (seen t) refusal e = let r = order_is (f t) refusal e in (ap seen r.0, r.1)
order_left call qs f (odd s) refusal e = (refl, refl)

pub order_leaves : RefusedOrderLeaves
order_leaves s t packet before after reply refusal a b d e =
    let r = order_left (λ x. order_of x packet (length before)) (λ x. order_questions x packet (length before)) (λ x. order_first_no x packet (length before)) (view_of s) refusal (ap (λ (x : sequencer.Reply). x.answer) (sym d.answer) ∙ e) in
    (view_whole t s b a (d.state ∙ r.0), subst (λ (bytes : List ℕ). after ≡ bytes ++ drop (length bytes) before) r.1 d.lent)
