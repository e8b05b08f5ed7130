-- The view of a member in memory loses nothing, so that a call that is refused leaves every byte: the outcome's state is the view at entry, by the law of the
-- first no. Assumes nothing.
use mathlib.Core.Path.{◌≡◌, sym, ap, ◌∙◌}
use mathlib.Core.List.{List}
use Prim.Native.Nat.{ℕ}
use lib.ListN.{length}
use Rattle.group.specs.Limits.{held_most, waiting_most}
use Rattle.group.specs.Question.{Question}
use Rattle.group.specs.declared.Refusal.{Refusal}
use Rattle.store.proofs.Places.{messages_whole}
use Rattle.member.specs.Calls.{Outcome}
use Rattle.member.specs.Laws.{FirstNo}
use Rattle.member.specs.State.{Member as Seen}
use Rattle.member.specs.View as view
use Rattle.member.specs.declared.Answer.{Answer}
use Rattle.member.specs.declared.Reply.{Reply}
use Rattle.member.proofs.Asking.{submit_first_no, receive_first_no, take_first_no}
use Rattle.member.proofs.Leaving.{refusal_is, lent_left}
use Rattle.states.specs.Member.{view_of, Sized, Changed, ViewWhole, RefusedSubmitLeaves, RefusedReceiveLeaves, RefusedTakeLeaves}
use Rattle.states.specs.declared.Member.{Member}

pub view_whole : ViewWhole
unfolding view.view_of
view_whole s t a b e =
    let queue = messages_whole waiting_most s.queued s.queued_originators s.queued_lengths s.queued_payloads t.queued t.queued_originators t.queued_lengths t.queued_payloads
    (record { counts_size = a.queued_size; originators_size = a.queued_originators_size; lengths_size = a.queued_lengths_size; bytes_size = a.queued_payloads_size })
    (record { counts_size = b.queued_size; originators_size = b.queued_originators_size; lengths_size = b.queued_lengths_size; bytes_size = b.queued_payloads_size })
    (ap (λ (m : Seen). m.queue) e) in
    let held = messages_whole held_most s.held s.held_originators s.held_lengths s.held_payloads t.held t.held_originators t.held_lengths t.held_payloads
    (record { counts_size = a.held_size; originators_size = a.held_originators_size; lengths_size = a.held_lengths_size; bytes_size = a.held_payloads_size })
    (record { counts_size = b.held_size; originators_size = b.held_originators_size; lengths_size = b.held_lengths_size; bytes_size = b.held_payloads_size })
    (ap (λ (m : Seen). m.held) e) in
    λ i. record {
      head = record { group = (e i).group; number = (e i).number; taken = (e i).taken; accepted = (e i).accepted; submitted = (e i).submitted; waiting = (e i).waiting };
      queued = queue.0 i;
      held = held.0 i;
      queued_originators = queue.1 i;
      queued_lengths = queue.2 i;
      held_originators = held.1 i;
      held_lengths = held.2 i;
      queued_payloads = queue.3 i;
      held_payloads = held.3 i;
    }

leaves : (s t : Member) {questions : List Question} {o : Outcome} {reply : Reply} {before after : List ℕ} → FirstNo (view_of s) questions o → (refusal : Refusal)
    → Sized s → Sized t → Changed o reply t before after → reply.answer ≡ Answer.Refused refusal → (t ≡ s) × (after ≡ before)
leaves s t f refusal a b d e =
    let r = refusal_is f refusal (ap (λ (x : Reply). x.answer) (sym d.answer) ∙ e) in
    (view_whole t s b a (d.state ∙ r.0), lent_left f refusal (record { answer = d.answer; lent = d.lent; wording = d.wording }) e)

pub submit_leaves : RefusedSubmitLeaves
submit_leaves s t payload before after reply refusal a b d e = leaves s t (submit_first_no (view_of s) payload (length before)) refusal a b d e

pub receive_leaves : RefusedReceiveLeaves
receive_leaves s t packet before after reply refusal a b d e = leaves s t (receive_first_no (view_of s) packet (length before)) refusal a b d e

pub take_leaves : RefusedTakeLeaves
take_leaves s t before after reply refusal a b d e = leaves s t (take_first_no (view_of s) (length before)) refusal a b d e
