-- A call over a terminal's parts that asks question 1 of the whole terminal first: what its no promises, and what a step that it takes does.
-- Assumes nothing.
use Rattle.group.specs.Question.{all_yes}
use Rattle.std.specs.Prelude.{Err}
use mathlib.Core.Path.{◌≡◌, refl, sym, ap, ◌∙◌, subst}
use mathlib.Core.Bool.{Bool, true, false}
use mathlib.Core.List.{List}
use Prim.Native.Nat.{ℕ, ◌≤◌, ◌<◌}
use lib.ListN.{length}
use Rattle.group.specs.Choice.{when◌then◌else◌, ◌and◌}
use Rattle.group.specs.Lent.{front}
use Rattle.group.specs.Limits.{members_most, longest_packet}
use Rattle.group.specs.declared.Refusal.{Refusal}
use Rattle.group.proofs.Choice.{when_true, when_false, when_le, when_nle, both_first, both_then}
use Rattle.member.specs.View as memberView
use Rattle.member.specs.Wording.{wording_of}
use Rattle.member.specs.declared.Answer.{Answer}
use Rattle.member.specs.declared.Reply.{Reply}
use Rattle.member.proofs.Soundness.{sound_of_lem}
use Rattle.recovery.specs.Calls.{Outcome, refused, whole_verdict}
use Rattle.recovery.specs.Promise.{called, Changed}
use Rattle.recovery.specs.Sound.{member_sound, terminal_sound}
use Rattle.recovery.specs.State.{Terminal}
use Rattle.recovery.specs.View.{Stored, View, seen, odd, member_in, terminal_of, flags_sound, view_of}
use Rattle.recovery.specs.declared.Head.{Head}
use Rattle.attempt.specs.Steps.{Step, Takes, declined_step}
use Rattle.attempt.specs.declared.Done.{Done}

-- a terminal is seen where the flags are sound
seen_as : (s : Stored) → flags_sound s.head ≡ true → view_of s ≡ seen (terminal_of s)
unfolding view_of
seen_as s f = sym (when_true (flags_sound s.head) _ _ _ f refl)

odd_as : (s : Stored) → flags_sound s.head ≡ false → view_of s ≡ odd s
unfolding view_of
odd_as s f = sym (when_false (flags_sound s.head) _ _ _ f refl)

-- what question 1 of the whole terminal leaves
pub record Facts (s : Stored) : Type 0 where
  pub flags : flags_sound s.head ≡ true
  pub sound : terminal_sound (terminal_of s) ≡ true
  pub own : s.head.member.number.0 < s.head.member.group.n
  pub small : s.head.member.group.n ≤ members_most

pub facts : (s : Stored) {b : Bool} → b ≡ (flags_sound s.head and terminal_sound (terminal_of s)) → b ≡ true → Facts s
unfolding terminal_sound member_sound terminal_of memberView.view_of
facts s is h =
    let e = sym is ∙ h in
    let t = both_then (flags_sound s.head) _ e in
    let m = sound_of_lem (memberView.view_of (member_in s)) (both_first _ _ (both_first _ _ t)) in
    record { flags = both_first _ _ e; sound = t; own = m.number_lt; small = m.n_most }

-- a no that leaves all
abbrev pub no_of : Refusal → Reply
no_of refusal = record { answer = Answer.Refused refusal; written = 0 }

module _ (s : Stored) (call : Terminal → Outcome) where
  pub changed : {left : Stored} {reply : Reply} {before after : List ℕ} → flags_sound s.head ≡ true → flags_sound left.head ≡ true
      → terminal_of left ≡ (call (terminal_of s)).terminal → reply ≡ record { answer = (call (terminal_of s)).answer; written = length (call (terminal_of s)).bytes }
      → after ≡ front (call (terminal_of s)).bytes before → Changed (called call (view_of s)) reply left before after
  unfolding called
  changed {left} {reply} {before} {after} f g t r l =
      subst (λ (x : View). Changed (called call x) reply left before after) (sym (seen_as s f))
      (record { answer = r; state = seen_as left g ∙ ap seen t; lent = l; wording = ap (λ (x : Reply). wording_of x.answer) r })

  pub declined_as : (refusal : Refusal) {reply : Reply} {before : List ℕ} → flags_sound s.head ≡ true → call (terminal_of s) ≡ refused (terminal_of s) refusal → reply ≡ no_of refusal
      → Changed (called call (view_of s)) reply s before before
  unfolding refused
  declined_as refusal {reply} {before} f c r =
      changed f f (sym (ap (λ (o : Outcome). o.terminal) c)) (r ∙ sym (ap (λ (o : Outcome). record { answer = o.answer; written = length o.bytes }) c)) (ap (λ (o : Outcome). front o.bytes before) (sym c))

  pub unsound_as : {b : Bool} {reply : Reply} {before : List ℕ} → b ≡ (flags_sound s.head and terminal_sound (terminal_of s)) → b ≡ false
      → (terminal_sound (terminal_of s) ≡ false → call (terminal_of s) ≡ refused (terminal_of s) Refusal.UnsoundState) → reply ≡ no_of Refusal.UnsoundState
      → Changed (called call (view_of s)) reply s before before
  unfolding called when◌then◌else◌
  unsound_as {b} {reply} {before} is h u r = go (flags_sound s.head) refl
    where
      go : (f : Bool) → flags_sound s.head ≡ f → Changed (called call (view_of s)) reply s before before
      go true f =
          let e : terminal_sound (terminal_of s) ≡ false = sym (ap (λ (x : Bool). x and terminal_sound (terminal_of s)) f) ∙ sym is ∙ h in
          declined_as Refusal.UnsoundState f (u e) r
      go false f =
          subst (λ (x : View). Changed (called call x) reply s before before) (sym (odd_as s f))
          (record { answer = r; state = odd_as s f; lent = refl; wording = ap (λ (x : Reply). wording_of x.answer) r })

-- two calls that come to the same at a terminal promise the same
pub call_as : (s : Stored) (call other : Terminal → Outcome) {left : Stored} {reply : Reply} {before after : List ℕ} → flags_sound s.head ≡ true → call (terminal_of s) ≡ other (terminal_of s)
    → Changed (called call (view_of s)) reply left before after → Changed (called other (view_of s)) reply left before after
unfolding called
call_as s call other {left} {reply} {before} {after} f e p =
    let v = seen_as s f in
    let q : Changed (called call (seen (terminal_of s))) reply left before after = subst (λ (x : View). Changed (called call x) reply left before after) v p in
    subst (λ (x : View). Changed (called other x) reply left before after) (sym v)
    (subst (λ (o : Outcome). Changed (record { view = seen o.terminal; answer = o.answer; bytes = o.bytes }) reply left before after) e q)

-- questions 1 and 2 of the whole terminal
module _ (t : Terminal) (room : ℕ) where
  pub whole_sound : terminal_sound t ≡ true → longest_packet ≤ room → whole_verdict t room ≡ all_yes
  unfolding whole_verdict
  whole_sound e h = sym (when_true (terminal_sound t) _ _ _ e (when_le longest_packet room _ _ _ h refl))

  pub whole_short : terminal_sound t ≡ true → room < longest_packet → whole_verdict t room ≡ Err Refusal.ShortOutput
  unfolding whole_verdict
  whole_short e h = sym (when_true (terminal_sound t) _ _ _ e (when_nle longest_packet room _ _ _ h refl))

  pub whole_unsound : terminal_sound t ≡ false → whole_verdict t room ≡ Err Refusal.UnsoundState
  unfolding whole_verdict
  whole_unsound e = sym (when_false (terminal_sound t) _ _ _ e refl)

-- the parts with another head and other replies
abbrev pub with_parts : Stored → Head → List ℕ → Stored
with_parts s head replies =
    record {
      head = head;
      queued = s.queued;
      held = s.held;
      queued_originators = s.queued_originators;
      queued_lengths = s.queued_lengths;
      held_originators = s.held_originators;
      held_lengths = s.held_lengths;
      queued_payloads = s.queued_payloads;
      held_payloads = s.held_payloads;
      past = s.past;
      past_originators = s.past_originators;
      past_lengths = s.past_lengths;
      past_payloads = s.past_payloads;
      highest = s.highest;
      replies = replies;
      taken = s.taken;
      counts = s.counts;
      repeats = s.repeats;
      kept = s.kept;
      marks = s.marks;
      originators = s.originators;
      lengths = s.lengths;
      payloads = s.payloads;
    }

-- a step of the code comes to an outcome of the meaning
pub record Matches (s : Stored) (x : Step) (o : Outcome) : Type 0 where
  pub flags_stay : flags_sound x.head ≡ true
  pub terminal_is : terminal_of (with_parts s x.head x.replies) ≡ o.terminal
  pub answer_is : x.answer ≡ o.answer
  pub bytes_are : x.bytes ≡ o.bytes

module _ (s : Stored) where
  pub match_if : (b : Bool) {x y : Step} {o p : Outcome} → Matches s x o → Matches s y p → Matches s (when b then x else y) (when b then o else p)
  unfolding when◌then◌else◌
  match_if true m n = m
  match_if false m n = n

  pub match_as : {x : Step} {o p : Outcome} → o ≡ p → Matches s x o → Matches s x p
  match_as {x} e m = subst (λ (o : Outcome). Matches s x o) e m

  pub match_no : (refusal : Refusal) → flags_sound s.head ≡ true → Matches s (declined_step s.head s.replies refusal) (refused (terminal_of s) refusal)
  unfolding refused
  match_no refusal f = record { flags_stay = f; terminal_is = refl; answer_is = refl; bytes_are = refl }

  -- then what the code left is what the meaning says
  pub step_changed : (call : Terminal → Outcome) (x : Step) {done : Done} {left before after : List ℕ} → flags_sound s.head ≡ true → Matches s x (call (terminal_of s))
      → Takes x done left before after → Changed (called call (view_of s)) done.reply (with_parts s done.head left) before after
  step_changed call x {done} {left} {before} {after} f m t =
      let parts : with_parts s done.head left ≡ with_parts s x.head x.replies = λ i. with_parts s (t.result i).head (t.replies_are i) in
      changed s call f (ap (λ (d : Done). flags_sound d.head) t.result ∙ m.flags_stay) (ap terminal_of parts ∙ m.terminal_is)
      (ap (λ (d : Done). d.reply) t.result ∙ (λ i. record { answer = m.answer_is i; written = length (m.bytes_are i) }))
      (t.lent ∙ ap (λ (l : List ℕ). front l before) m.bytes_are)

  -- a no leaves all
  pub declined_done : (call : Terminal → Outcome) (refusal : Refusal) {done : Done} {before : List ℕ} → flags_sound s.head ≡ true → call (terminal_of s) ≡ refused (terminal_of s) refusal
      → done ≡ record { head = s.head; reply = no_of refusal } → Changed (called call (view_of s)) done.reply (with_parts s done.head s.replies) before before
  declined_done call refusal {done} {before} f c d =
      subst (λ (x : Done). Changed (called call (view_of s)) x.reply (with_parts s x.head s.replies) before before) (sym d) (declined_as s call refusal f c refl)

  pub unsound_done : (call : Terminal → Outcome) {b : Bool} {done : Done} {before : List ℕ} → b ≡ (flags_sound s.head and terminal_sound (terminal_of s)) → b ≡ false
      → (terminal_sound (terminal_of s) ≡ false → call (terminal_of s) ≡ refused (terminal_of s) Refusal.UnsoundState) → done ≡ record { head = s.head; reply = no_of Refusal.UnsoundState }
      → Changed (called call (view_of s)) done.reply (with_parts s done.head s.replies) before before
  unsound_done call {b} {done} {before} is h u d =
      subst (λ (x : Done). Changed (called call (view_of s)) x.reply (with_parts s x.head s.replies) before before) (sym d) (unsound_as s call is h u refl)
