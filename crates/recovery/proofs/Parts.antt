-- A call over a terminal's parts: question 1 of the member's end in two halves, and what its member or its sequencer leaves, as the whole is
-- left. Assumes nothing.
use Rattle.group.specs.Question.{all_yes}
use Rattle.std.specs.Prelude.{Ok, Err}
use mathlib.Core.Path.{◌≡◌, refl, sym, ap, ◌∙◌, subst}
use mathlib.Core.Bool.{Bool, true, false, false≢true}
use mathlib.Core.List.{List, []}
use Prim.Native.Nat.{ℕ}
use lib.ListN.{length}
use Rattle.group.specs.Choice.{when◌then◌else◌, ◌and◌, ◌≤?◌}
use Rattle.group.specs.Limits.{members_most, longest_packet}
use Rattle.group.specs.Members.{group_sound}
use Rattle.group.specs.Question.{judged}
use Rattle.group.specs.declared.Refusal.{Refusal}
use Rattle.group.specs.declared.SequenceNumber.{SequenceNumber}
use Rattle.group.specs.Question.{Verdict}
use Rattle.group.proofs.Choice.{when_true, when_false, both_hold, both_first, both_then}
use Rattle.window.specs.Sound.{frame_sound}
use Rattle.member.specs.Calls as member
use Rattle.member.proofs.Leaving.{repeat_leaves, status_leaves}
use Rattle.member.specs.Promise as memberPromise
use Rattle.member.specs.Sound as memberSoundness
use Rattle.member.specs.View as memberView
use Rattle.member.specs.declared.Answer.{Answer}
use Rattle.member.specs.declared.Head as memberHead
use Rattle.member.specs.declared.Reply.{Reply}
use Rattle.sequencer.specs.Calls as sequencer
use Rattle.sequencer.proofs.Leaving.{poll_leaves, copy_leaves}
use Rattle.sequencer.specs.Promise as sequencerPromise
use Rattle.sequencer.specs.View as sequencerView
use Rattle.sequencer.specs.declared.Answer as sequencerAnswer
use Rattle.sequencer.specs.declared.Reply as sequencerReply
use Rattle.recovery.specs.Calls.{Outcome, SequencerOutcome, refused, carried, call_verdict, submit_of, repeat_of, status_of, poll_of, copy_of, ordered}
use Rattle.recovery.specs.Promise as promise
use Rattle.recovery.specs.Promise.{Seen, SequencerSeen, called, Changed, Ordered}
use Rattle.recovery.specs.Sound.{reset_sound, member_sound}
use Rattle.recovery.specs.State.{Terminal}
use Rattle.recovery.specs.Steps.{beside_sound, with_member_head}
use Rattle.recovery.specs.declared.Head.{Head}
use Rattle.recovery.specs.View.{Stored, View, seen, odd, member_in, sequencer_in, kept_in, terminal_of, flags_sound, view_of}

and_true : (b x : Bool) → x ≡ true → b and x ≡ b
unfolding when◌then◌else◌
and_true true x e = e
and_true false x e = refl

-- the parts with another member, and with another sequencer
abbrev pub with_member_parts : Stored → memberView.Stored → Stored
with_member_parts s m =
    record {
      head = with_member_head s.head m.head;
      queued = m.queued;
      held = m.held;
      queued_originators = m.queued_originators;
      queued_lengths = m.queued_lengths;
      held_originators = m.held_originators;
      held_lengths = m.held_lengths;
      queued_payloads = m.queued_payloads;
      held_payloads = m.held_payloads;
      past = s.past;
      past_originators = s.past_originators;
      past_lengths = s.past_lengths;
      past_payloads = s.past_payloads;
      highest = s.highest;
      replies = s.replies;
      taken = s.taken;
      counts = s.counts;
      repeats = s.repeats;
      kept = s.kept;
      marks = s.marks;
      originators = s.originators;
      lengths = s.lengths;
      payloads = s.payloads;
    }

still_flags : (head : Head) (m : memberHead.Head) → flags_sound head ≡ true → flags_sound (with_member_head head m) ≡ true
unfolding flags_sound
still_flags head m e = e

-- a no that leaves all
abbrev no : View → Seen
no v = record { view = v; answer = Answer.Refused Refusal.UnsoundState; bytes = [] }

abbrev pub unsound : Reply
unsound = record { answer = Answer.Refused Refusal.UnsoundState; written = 0 }

module _ (s : Stored) where
  abbrev beside : Bool
  beside = beside_sound s.head (kept_in s.head s.past s.past_originators s.past_lengths s.past_payloads s.highest) s.replies

  -- a terminal is seen where the flags are sound
  seen_as : flags_sound s.head ≡ true → view_of s ≡ seen (terminal_of s)
  unfolding view_of
  seen_as f = sym (when_true (flags_sound s.head) _ _ _ f refl)

  odd_as : flags_sound s.head ≡ false → view_of s ≡ odd s
  unfolding view_of
  odd_as f = sym (when_false (flags_sound s.head) _ _ _ f refl)

  flags_of : beside ≡ true → flags_sound s.head ≡ true
  unfolding beside_sound
  flags_of e = both_first _ _ e

  -- then the member's own questions are the end's
  same_verdict : (room : ℕ) → beside ≡ true → call_verdict (terminal_of s) room ≡ member.call_verdict (memberView.view_of (member_in s)) room
  unfolding beside_sound call_verdict member_sound member.call_verdict terminal_of memberView.view_of reset_sound
  same_verdict room e =
      let rest = both_then (s.head.member.group.n ≤? members_most) _ (both_then (flags_sound s.head) _ e) in
      ap (λ (b : Bool). when b then (when longest_packet ≤? room then all_yes else Err Refusal.ShortOutput) else Err Refusal.UnsoundState)
      (and_true (memberSoundness.sound_of (memberView.view_of (member_in s))) _ rest)

  -- and else the end's say no
  beside_holds : flags_sound s.head ≡ true → member_sound (terminal_of s) ≡ true → beside ≡ true
  unfolding beside_sound member_sound terminal_of memberView.view_of memberSoundness.sound_of frame_sound group_sound reset_sound
  beside_holds f e =
      let own = both_first _ _ e in
      let small = both_first _ _ (both_then _ _ (both_first _ _ (both_first _ _ own))) in
      both_hold (flags_sound s.head) _ f (both_hold (s.head.member.group.n ≤? members_most) _ small (both_then _ _ e))

  beside_fails : flags_sound s.head ≡ true → beside ≡ false → member_sound (terminal_of s) ≡ false
  beside_fails f e = go (member_sound (terminal_of s)) refl
    where
      go : (b : Bool) → member_sound (terminal_of s) ≡ b → b ≡ false
      go true h = absurd (false≢true (sym e ∙ beside_holds f h))
      go false h = refl

-- an unsound member's end says no to each of its calls
pub unsound_judged : (t : Terminal) (room : ℕ) (o : Outcome) → member_sound t ≡ false → judged (call_verdict t room) (refused t) o ≡ refused t Refusal.UnsoundState
unfolding call_verdict judged
unsound_judged t room o e =
    ap (λ (v : Verdict). judged v (refused t) o) (sym (when_false (member_sound t) _ _ _ e refl))

member_left : (s : Stored) (m : memberView.Stored) (o : member.Outcome) → memberView.view_of m ≡ o.member
    → terminal_of (with_member_parts s m) ≡ (carried (terminal_of s) (terminal_of s).kept o).terminal
unfolding terminal_of
member_left s m o h =
    λ i. record {
      member = h i;
      kept = (terminal_of s).kept;
      reset = (terminal_of s).reset;
      sequencing = (terminal_of s).sequencing;
      frozen = (terminal_of s).frozen;
      sequencer = (terminal_of s).sequencer;
    }

module _ (s : Stored) (call : Terminal → Outcome) where
  seen_called : flags_sound s.head ≡ true → called call (view_of s) ≡ record { view = seen (call (terminal_of s)).terminal; answer = (call (terminal_of s)).answer; bytes = (call (terminal_of s)).bytes }
  unfolding called
  seen_called f = ap (called call) (seen_as s f)

  no_called : (member_sound (terminal_of s) ≡ false → call (terminal_of s) ≡ refused (terminal_of s) Refusal.UnsoundState) → beside s ≡ false → called call (view_of s) ≡ no (view_of s)
  unfolding called refused
  no_called u e = go (flags_sound s.head) refl
    where
      go : (b : Bool) → flags_sound s.head ≡ b → called call (view_of s) ≡ no (view_of s)
      go true f = seen_called f ∙ ap (λ (o : Outcome). record { view = seen o.terminal; answer = o.answer; bytes = o.bytes }) (u (beside_fails s f e)) ∙ ap no (sym (seen_as s f))
      go false f = ap (called call) (odd_as s f) ∙ ap no (sym (odd_as s f))

  -- what a no promises
  pub beside_refused : (before : List ℕ) → (member_sound (terminal_of s) ≡ false → call (terminal_of s) ≡ refused (terminal_of s) Refusal.UnsoundState) → beside s ≡ false
      → Changed (called call (view_of s)) unsound s before before
  beside_refused before u e =
      subst (λ (o : Seen). Changed o unsound s before before) (sym (no_called u e)) (record { answer = refl; state = refl; lent = refl; wording = refl })

  -- what a member's call promises of the whole
  pub member_changed : (m : memberView.Stored) (o : member.Outcome) {reply : Reply} {before after : List ℕ} → beside s ≡ true
      → call (terminal_of s) ≡ carried (terminal_of s) (terminal_of s).kept o → memberPromise.Changed o reply m before after
      → Changed (called call (view_of s)) reply (with_member_parts s m) before after
  member_changed m o {reply} {before} {after} e c p =
      let f = flags_of s e in
      subst (λ (x : Seen). Changed x reply (with_member_parts s m) before after)
      (sym (seen_called f ∙ ap (λ (x : Outcome). record { view = seen x.terminal; answer = x.answer; bytes = x.bytes }) c))
      (record { answer = p.answer; state = seen_as (with_member_parts s m) (still_flags s.head m.head f) ∙ ap seen (member_left s m o p.state); lent = p.lent; wording = p.wording })

-- each call is the member's where the rest of its end is sound
carried_same : (t : Terminal) (v : Verdict) (o : member.Outcome)
    → judged v (refused t) (carried t t.kept (judged v (member.refused t.member) o)) ≡ carried t t.kept (judged v (member.refused t.member) o)
unfolding judged refused member.answered
carried_same t (Ok _) o = refl
carried_same t (Err r) o = refl

module _ (s : Stored) (room : ℕ) (e : beside s ≡ true) where
  abbrev t : Terminal
  t = terminal_of s

  -- the member's verdict for the end's
  own_verdict : (o : member.Outcome) → judged (call_verdict t room) (refused t) (carried t t.kept (judged (member.call_verdict t.member room) (member.refused t.member) o))
      ≡ carried t t.kept (judged (member.call_verdict t.member room) (member.refused t.member) o)
  unfolding terminal_of
  own_verdict o =
      ap (λ (v : Verdict). judged v (refused t) (carried t t.kept (judged (member.call_verdict t.member room) (member.refused t.member) o))) (same_verdict s room e)
      ∙ carried_same t (member.call_verdict t.member room) o

  pub submit_own : (payload : List ℕ) → submit_of t payload room ≡ carried t t.kept (member.submit_of t.member payload room)
  unfolding submit_of member.submit_of
  submit_own payload = own_verdict _

  pub repeat_own : repeat_of t room ≡ carried t t.kept (member.repeat_of t.member room)
  unfolding repeat_of member.repeat_of
  repeat_own = own_verdict _

  pub status_own : status_of t room ≡ carried t t.kept (member.status_of t.member room)
  unfolding status_of member.status_of
  status_own = own_verdict _

-- the calls of the member, whole
module _ (s : Stored) (payload before after : List ℕ) (reply : Reply) where
  pub submit_changed : (m : memberView.Stored) → beside s ≡ true → memberPromise.Submitted (member_in s) payload before reply m after
      → promise.Submitted s payload before reply (with_member_parts s m) after
  unfolding terminal_of
  submit_changed m e p = member_changed s (λ t. submit_of t payload (length before)) m _ e (submit_own s (length before) e payload) p

  pub submit_refused : beside s ≡ false → promise.Submitted s payload before unsound s before
  unfolding submit_of
  submit_refused e = beside_refused s (λ t. submit_of t payload (length before)) before (λ u. unsound_judged (terminal_of s) (length before) _ u) e

-- a call that only reads leaves the parts
told_left : (o : member.Outcome) (s : Stored) {reply : Reply} {before after : List ℕ} → o.member ≡ memberView.view_of (member_in s) → memberPromise.Told o reply before after
    → memberPromise.Changed o reply (member_in s) before after
told_left o s h p = record { answer = p.answer; state = sym h; lent = p.lent; wording = p.wording }

module _ (s : Stored) (before after : List ℕ) (reply : Reply) where
  pub repeat_changed : beside s ≡ true → memberPromise.Repeated (member_in s) before reply after → promise.Repeated s before reply s after
  unfolding terminal_of
  repeat_changed e p =
      member_changed s (λ t. repeat_of t (length before)) (member_in s) _ e (repeat_own s (length before) e)
      (told_left _ s (repeat_leaves (memberView.view_of (member_in s)) before after reply).0 p)

  pub repeat_refused : beside s ≡ false → promise.Repeated s before unsound s before
  unfolding repeat_of
  repeat_refused e = beside_refused s (λ t. repeat_of t (length before)) before (λ u. unsound_judged (terminal_of s) (length before) _ u) e

  pub status_changed : beside s ≡ true → memberPromise.Reported (member_in s) before reply after → promise.Reported s before reply s after
  unfolding terminal_of
  status_changed e p =
      member_changed s (λ t. status_of t (length before)) (member_in s) _ e (status_own s (length before) e)
      (told_left _ s (status_leaves (memberView.view_of (member_in s)) before after reply).0 p)

  pub status_refused : beside s ≡ false → promise.Reported s before unsound s before
  unfolding status_of
  status_refused e = beside_refused s (λ t. status_of t (length before)) before (λ u. unsound_judged (terminal_of s) (length before) _ u) e

-- the sequencer's calls that only read
abbrev pub not_sound : sequencerReply.Reply
not_sound = record { answer = sequencerAnswer.Answer.Refused Refusal.UnsoundState; written = 0 }

sequencer_left : (s : Stored) (o : sequencer.Outcome) → o.sequencer ≡ sequencerView.view_of (sequencer_in s) → terminal_of s ≡ (ordered (terminal_of s) o).terminal
unfolding terminal_of
sequencer_left s o h =
    λ i. record {
      member = (terminal_of s).member;
      kept = (terminal_of s).kept;
      reset = (terminal_of s).reset;
      sequencing = (terminal_of s).sequencing;
      frozen = (terminal_of s).frozen;
      sequencer = sym h i;
    }

module _ (s : Stored) (call : Terminal → SequencerOutcome) where
  pub odd_refused : (before : List ℕ) → flags_sound s.head ≡ false → Ordered (promise.ordered call (view_of s)) not_sound s before before
  unfolding promise.ordered
  odd_refused before f =
      let v = odd_as s f in
      subst (λ (x : View). Ordered (promise.ordered call x) not_sound s before before) (sym v) (record { answer = refl; state = v; lent = refl; wording = refl })

  pub sequencer_told_lem : (o : sequencer.Outcome) {reply : sequencerReply.Reply} {before after : List ℕ} → flags_sound s.head ≡ true
      → o.sequencer ≡ sequencerView.view_of (sequencer_in s) → call (terminal_of s) ≡ ordered (terminal_of s) o → sequencerPromise.Told o reply before after
      → Ordered (promise.ordered call (view_of s)) reply s before after
  unfolding promise.ordered
  sequencer_told_lem o {reply} {before} {after} f h c p =
      let v = seen_as s f in
      subst (λ (x : View). Ordered (promise.ordered call x) reply s before after) (sym v)
      (subst (λ (x : SequencerOutcome). Ordered (record { view = seen x.terminal; answer = x.answer; bytes = x.bytes }) reply s before after) (sym c)
      (record { answer = p.answer; state = v ∙ ap seen (sequencer_left s o h); lent = p.lent; wording = p.wording }))

module _ (s : Stored) (before after : List ℕ) (reply : sequencerReply.Reply) where
  pub poll_told : flags_sound s.head ≡ true → sequencerPromise.Polled (sequencer_in s) before reply after → promise.Polled s before reply s after
  unfolding poll_of terminal_of
  poll_told f p = sequencer_told_lem s (λ t. poll_of t (length before)) _ f (poll_leaves (sequencerView.view_of (sequencer_in s)) (length before)) refl p

  pub copy_told : (number : SequenceNumber) → flags_sound s.head ≡ true → sequencerPromise.Copied (sequencer_in s) number before reply after → promise.Copied s number before reply s after
  unfolding copy_of terminal_of
  copy_told number f p = sequencer_told_lem s (λ t. copy_of t number (length before)) _ f (copy_leaves (sequencerView.view_of (sequencer_in s)) number (length before)) refl p
