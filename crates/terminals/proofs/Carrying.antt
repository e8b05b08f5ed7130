-- A call over a terminal's parts: what the member's call leaves together with what the terminal keeps, as the whole is left. Assumes nothing.
use Rattle.group.specs.Question.{all_yes}
use Rattle.std.specs.Prelude.{Err}
use mathlib.Core.Path.{◌≡◌, refl, sym, ap, ◌∙◌, subst}
use mathlib.Core.Bool.{Bool, true, false, false≢true}
use mathlib.Core.List.{List}
use Prim.Native.Nat.{ℕ}
use Rattle.group.specs.Choice.{when◌then◌else◌, ◌and◌, ◌≤?◌}
use Rattle.group.specs.Limits.{members_most, longest_packet}
use Rattle.group.specs.Members.{group_sound}
use Rattle.group.specs.declared.Refusal.{Refusal}
use Rattle.group.specs.Question.{Verdict}
use Rattle.group.proofs.Choice.{when_true, when_false, both_hold, both_first, both_then}
use Rattle.window.specs.Sound.{frame_sound}
use Rattle.member.specs.Calls as member
use Rattle.member.specs.Promise as memberPromise
use Rattle.member.specs.Sound as memberSoundness
use Rattle.member.specs.View as memberView
use Rattle.member.specs.declared.Reply.{Reply}
use Rattle.sequencer.specs.Calls as sequencer
use Rattle.sequencer.specs.Promise as sequencerPromise
use Rattle.sequencer.specs.View as sequencerView
use Rattle.sequencer.specs.declared.Reply as sequencerReply
use Rattle.recovery.specs.Calls.{Outcome, SequencerOutcome, carried, ordered, call_verdict}
use Rattle.recovery.specs.Promise as promise
use Rattle.recovery.specs.Promise.{Seen, called, Changed, Ordered}
use Rattle.recovery.specs.Sound.{reset_sound, member_sound}
use Rattle.recovery.specs.State.{Kept, Terminal}
use Rattle.recovery.specs.Steps.{beside_sound}
use Rattle.recovery.specs.View.{Stored, View, seen, member_in, kept_in, terminal_of, flags_sound, view_of}
use Rattle.terminals.specs.Steps.{end_verdict}

and_true : (b x : Bool) → x ≡ true → b and x ≡ b
unfolding when◌then◌else◌
and_true true x e = e
and_true false x e = refl

-- a terminal is seen where the flags are sound
pub seen_as : (s : Stored) → flags_sound s.head ≡ true → view_of s ≡ seen (terminal_of s)
unfolding view_of
seen_as s f = sym (when_true (flags_sound s.head) _ _ _ f refl)

module _ (s : Stored) where
  abbrev pub beside_of : Bool
  beside_of = beside_sound s.head (kept_in s.head s.past s.past_originators s.past_lengths s.past_payloads s.highest) s.replies

  pub flags_of : beside_of ≡ true → flags_sound s.head ≡ true
  unfolding beside_sound
  flags_of e = both_first _ _ e

  -- where the rest of its end is sound, the member's own questions are the end's
  pub same_verdict : (room : ℕ) → beside_of ≡ true → call_verdict (terminal_of s) room ≡ member.call_verdict (terminal_of s).member room
  unfolding beside_sound call_verdict member_sound member.call_verdict terminal_of memberView.view_of reset_sound
  same_verdict room e =
      let rest = both_then (s.head.member.group.n ≤? members_most) _ (both_then (flags_sound s.head) _ e) in
      ap (λ (b : Bool). when b then (when longest_packet ≤? room then all_yes else Err Refusal.ShortOutput) else Err Refusal.UnsoundState)
      (and_true (memberSoundness.sound_of (memberView.view_of (member_in s))) _ rest)

  -- and where it is not, the end's say no
  pub beside_fails : flags_sound s.head ≡ true → beside_of ≡ false → member_sound (terminal_of s) ≡ false
  unfolding beside_sound member_sound terminal_of memberView.view_of memberSoundness.sound_of frame_sound group_sound reset_sound
  beside_fails f e = go (member_sound (terminal_of s)) refl
    where
      holds : member_sound (terminal_of s) ≡ true → beside_of ≡ true
      holds h =
          let own = both_first _ _ h in
          let small = both_first _ _ (both_then _ _ (both_first _ _ (both_first _ _ own))) in
          both_hold (flags_sound s.head) _ f (both_hold (s.head.member.group.n ≤? members_most) _ small (both_then _ _ h))

      go : (b : Bool) → member_sound (terminal_of s) ≡ b → b ≡ false
      go true h = absurd (false≢true (sym e ∙ holds h))
      go false h = refl

  -- questions 1 and 2 of the member's end
  pub end_asked : (room : ℕ) {v : Verdict} → beside_of ≡ true → v ≡ member.call_verdict (terminal_of s).member room → v ≡ end_verdict (view_of s) room
  unfolding end_verdict
  end_asked room {v} e is = is ∙ sym (same_verdict room e) ∙ sym (ap (λ (x : View). end_verdict x room) (seen_as s (flags_of e)))

  pub end_refused : (room : ℕ) → beside_of ≡ false → Err Refusal.UnsoundState ≡ end_verdict (view_of s) room
  unfolding end_verdict call_verdict view_of
  end_refused room e = go (flags_sound s.head) refl
    where
      go : (b : Bool) → flags_sound s.head ≡ b → Err Refusal.UnsoundState ≡ end_verdict (view_of s) room
      go true f = when_false (member_sound (terminal_of s)) _ _ _ (beside_fails f e) refl ∙ sym (ap (λ (x : View). end_verdict x room) (seen_as s f))
      go false f = sym (ap (λ (x : View). end_verdict x room) (sym (when_false (flags_sound s.head) _ _ _ f refl)))

  seen_called : (call : Terminal → Outcome) → flags_sound s.head ≡ true
      → called call (view_of s) ≡ record { view = seen (call (terminal_of s)).terminal; answer = (call (terminal_of s)).answer; bytes = (call (terminal_of s)).bytes }
  unfolding called
  seen_called call f = ap (called call) (seen_as s f)

  -- what a member's call promises of the whole, where the terminal keeps more
  pub kept_changed : (call : Terminal → Outcome) (kept : Kept) (o : member.Outcome) (m : memberView.Stored) (left : Stored) {reply : Reply} {before after : List ℕ} → flags_sound s.head ≡ true
      → flags_sound left.head ≡ true → call (terminal_of s) ≡ carried (terminal_of s) kept o → terminal_of left ≡ (carried (terminal_of s) kept o).terminal
      → memberPromise.Changed o reply m before after → Changed (called call (view_of s)) reply left before after
  kept_changed call kept o m left {reply} {before} {after} f g c e p =
      subst (λ (x : Seen). Changed x reply left before after)
      (sym (seen_called call f ∙ ap (λ (x : Outcome). record { view = seen x.terminal; answer = x.answer; bytes = x.bytes }) c))
      (record { answer = p.answer; state = seen_as left g ∙ ap seen e; lent = p.lent; wording = p.wording })

  -- what its sequencer's call promises of the whole
  pub order_changed : (call : Terminal → SequencerOutcome) (o : sequencer.Outcome) (q : sequencerView.Stored) (left : Stored) {reply : sequencerReply.Reply} {before after : List ℕ} → flags_sound s.head ≡ true
      → flags_sound left.head ≡ true → call (terminal_of s) ≡ ordered (terminal_of s) o → terminal_of left ≡ (ordered (terminal_of s) o).terminal
      → sequencerPromise.Changed o reply q before after → Ordered (promise.ordered call (view_of s)) reply left before after
  unfolding promise.ordered
  order_changed call o q left {reply} {before} {after} f g c e p =
      subst (λ (x : View). Ordered (promise.ordered call x) reply left before after) (sym (seen_as s f))
      (subst (λ (x : SequencerOutcome). Ordered (record { view = seen x.terminal; answer = x.answer; bytes = x.bytes }) reply left before after) (sym c)
      (record { answer = p.answer; state = seen_as left g ∙ ap seen e; lent = p.lent; wording = p.wording }))
