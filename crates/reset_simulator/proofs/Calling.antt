-- What a call promises of a terminal with sound flags, whichever end answers. Assumes nothing.
use mathlib.Core.Path.{◌≡◌, refl, sym, ap, ◌∙◌, subst}
use mathlib.Core.Bool.{true}
use mathlib.Core.List.{List}
use Prim.Native.Nat.{ℕ}
use lib.ListN.{length}
use Rattle.group.proofs.Choice.{when_true}
use Rattle.group.proofs.Lists.{when_elim}
use Rattle.group.specs.Lent.{front}
use Rattle.member.specs.declared.Reply as memberReply
use Rattle.model.specs.declared.Reply.{Reply}
use Rattle.recovery.specs.Calls.{fresh_terminal, Outcome, SequencerOutcome}
use Rattle.recovery.specs.Promise.{Seen, called, SequencerSeen, ordered, Changed, Ordered}
use Rattle.recovery.specs.State.{Terminal}
use Rattle.recovery.specs.View.{Stored, View, seen, odd, view_of, terminal_of, flags_sound}
use Rattle.recovery.specs.declared.Head.{Head}
use Rattle.sequencer.specs.declared.Reply as sequencerReply
use Rattle.terminal_rows.specs.declared.Call.{Call}
use Rattle.terminal_rows.specs.declared.Call.TheVariants as call
use Rattle.reset_simulator.specs.Steps.{by_member, by_sequencer, came_of, CallsOn}
use Rattle.reset_simulator.specs.declared.Called.{Called}

-- the terminal that is seen
in_view : Terminal → View → Terminal
in_view t (seen u) = u
in_view t (odd s) = t

seen_in : (s : Stored) → terminal_of s ≡ in_view (terminal_of s) (view_of s)
unfolding view_of in_view
seen_in s = when_elim (λ (v : View). terminal_of s ≡ in_view (terminal_of s) v) (flags_sound s.head) (λ _. refl) (λ _. refl)

seen_is : (s : Stored) (t : Terminal) → view_of s ≡ seen t → terminal_of s ≡ t
unfolding in_view
seen_is s t e = seen_in s ∙ ap (in_view (terminal_of s)) e

module _ (s : Stored) (sound : flags_sound s.head ≡ true) where
  view_is : view_of s ≡ seen (terminal_of s)
  unfolding view_of
  view_is = sym (when_true _ _ _ _ sound refl)

  pub changed_on : (call : Terminal → Outcome) (head : Head) (reply : memberReply.Reply) (left : Stored) (before after : List ℕ)
      → Changed (called call (view_of s)) reply left before after
      → CallsOn (by_member (call (terminal_of s))) (record { head = head; reply = Reply.Member reply.answer; written = reply.written }) left before after
  unfolding called
  changed_on call head reply left before after k =
      let is : called call (view_of s) ≡ called call (seen (terminal_of s)) = ap (called call) view_is in
      let a : reply ≡ record { answer = (call (terminal_of s)).answer; written = length (call (terminal_of s)).bytes } =
      k.answer ∙ ap (λ (o : Seen). record { answer = o.answer; written = length o.bytes }) is
      in
      record {
        answer = ap (λ (r : memberReply.Reply). Reply.Member r.answer) a;
        size = ap (λ (r : memberReply.Reply). r.written) a;
        state = seen_is left (call (terminal_of s)).terminal (k.state ∙ ap (λ (o : Seen). o.view) is);
        lent = k.lent ∙ ap (λ (o : Seen). front o.bytes before) is;
      }

  pub ordered_on : (call : Terminal → SequencerOutcome) (head : Head) (reply : sequencerReply.Reply) (left : Stored) (before after : List ℕ)
      → Ordered (ordered call (view_of s)) reply left before after
      → CallsOn (by_sequencer (call (terminal_of s))) (record { head = head; reply = Reply.Sequencer reply.answer; written = reply.written }) left before after
  unfolding ordered
  ordered_on call head reply left before after k =
      let is : ordered call (view_of s) ≡ ordered call (seen (terminal_of s)) = ap (ordered call) view_is in
      let a : reply ≡ record { answer = (call (terminal_of s)).answer; written = length (call (terminal_of s)).bytes } =
      k.answer ∙ ap (λ (o : SequencerSeen). record { answer = o.answer; written = length o.bytes }) is
      in
      record {
        answer = ap (λ (r : sequencerReply.Reply). Reply.Sequencer r.answer) a;
        size = ap (λ (r : sequencerReply.Reply). r.written) a;
        state = seen_is left (call (terminal_of s)).terminal (k.state ∙ ap (λ (o : SequencerSeen). o.view) is);
        lent = k.lent ∙ ap (λ (o : SequencerSeen). front o.bytes before) is;
      }

-- an opening is answered by neither end
pub opened_call : (n number resilience i room : ℕ) (bytes : List ℕ) (t : Terminal) (head : Head) (left : Stored) (lent : List ℕ)
    → terminal_of left ≡ fresh_terminal n number resilience i
    → CallsOn (came_of (call.Open n number resilience i) bytes room t) (record { head = head; reply = Reply.Absent; written = 0 }) left lent lent
unfolding came_of
opened_call n number resilience i room bytes t head left lent e = record { answer = refl; size = refl; state = e; lent = refl }

-- a call by another name
pub call_as : (k k' : Call) (bytes : List ℕ) (room : ℕ) (t : Terminal) (r : Called) (left : Stored) (before after : List ℕ) → k ≡ k'
    → CallsOn (came_of k bytes room t) r left before after → CallsOn (came_of k' bytes room t) r left before after
call_as k k' bytes room t r left before after e c = subst (λ (k : Call). CallsOn (came_of k bytes room t) r left before after) e c
