-- A result: what the code asks is what the meaning asks, and where it fits, the terminal is entered as the meaning says. Assumes nothing.
use Rattle.group.specs.Question.{all_yes}
use Rattle.std.specs.Prelude.{Err}
use mathlib.Core.Path.{◌≡◌, refl, sym, ap, ◌∙◌}
use mathlib.Core.Bool.{Bool, true, false}
use mathlib.Core.List.{List, []}
use Prim.Native.Nat.{ℕ}
use lib.ListN.{length}
use Rattle.group.specs.Choice.{when◌then◌else◌, ◌and◌, ◌<?◌}
use Rattle.group.specs.Lent.{front}
use Rattle.group.specs.Members.{is_within, all_of}
use Rattle.group.specs.Question.{judged}
use Rattle.group.specs.declared.MemberNumber.{MemberNumber}
use Rattle.group.specs.declared.Refusal.{Refusal}
use Rattle.group.specs.declared.SequenceNumber.{SequenceNumber}
use Rattle.group.specs.Question.{Verdict}
use Rattle.packet.specs.Packet.{survivors_in}
use Rattle.packet.specs.declared.Packet.{Packet}
use Rattle.history.proofs.Asking.{judged_yes, judged_no}
use Rattle.member.specs.View as memberView
use Rattle.member.specs.declared.Answer.{Answer}
use Rattle.recovery.specs.Begin.{result_of}
use Rattle.recovery.specs.Calls.{Outcome, refused, noted, result_fits, reset_step}
use Rattle.recovery.specs.Promise.{called, Changed}
use Rattle.recovery.specs.State.{Terminal}
use Rattle.recovery.specs.View.{Stored, terminal_of, flags_sound, view_of}
use Rattle.recovery.specs.declared.Head.{Head}
use Rattle.election.specs.Promise.{Enters}
use Rattle.attempt.specs.Steps.{fits_in, result_verdict}
use Rattle.attempt.specs.declared.Done.{Done}
use Rattle.attempt.proofs.Changing.{no_of, with_parts, changed, declined_done}

-- two questions, asked one after the other
judged_two : (t : Terminal) (o : Outcome) (first second : Refusal) (b c : Bool)
    → (when b then (when c then o else refused t second) else refused t first)
    ≡ judged (when b then (when c then all_yes else Err second) else Err first) (refused t) o
unfolding when◌then◌else◌ judged
judged_two t o first second true true = refl
judged_two t o first second true false = refl
judged_two t o first second false c = refl

-- the parts with what a result leaves
abbrev pub entered : Stored → Head → List ℕ → List ℕ → List ℕ → List ℕ → List ℕ → List ℕ → List ℕ → List ℕ → List ℕ → List ℕ → List ℕ → List ℕ → List ℕ → Stored
entered s head' held' held_originators' held_lengths' held_payloads' replies' taken' counts' repeats' kept' marks' originators' lengths' payloads' =
    record {
      head = head';
      queued = s.queued;
      held = held';
      queued_originators = s.queued_originators;
      queued_lengths = s.queued_lengths;
      held_originators = held_originators';
      held_lengths = held_lengths';
      queued_payloads = s.queued_payloads;
      held_payloads = held_payloads';
      past = s.past;
      past_originators = s.past_originators;
      past_lengths = s.past_lengths;
      past_payloads = s.past_payloads;
      highest = s.highest;
      replies = replies';
      taken = taken';
      counts = counts';
      repeats = repeats';
      kept = kept';
      marks = marks';
      originators = originators';
      lengths = lengths';
      payloads = payloads';
    }

module _ (s : Stored) (sender : MemberNumber) (attempt : ℕ) (elected : MemberNumber) (number : SequenceNumber) (payload : List ℕ) where
  abbrev t : Terminal
  t = terminal_of s

  abbrev call : Terminal → Outcome
  call x = reset_step x (Packet.Result sender attempt elected number) payload

  abbrev done_as : Outcome
  done_as = noted (result_of t attempt elected number (survivors_in payload)) []

  asked : call t ≡ judged (result_verdict s.head sender attempt elected number (survivors_in payload)) (refused t) done_as
  unfolding reset_step result_fits result_verdict fits_in terminal_of memberView.view_of
  asked =
      judged_two t done_as Refusal.UnknownMember Refusal.NotOfAttempt
      (sender.0 <? s.head.member.group.n and is_within (survivors_in payload) (all_of s.head.member.group.n))
      (fits_in s.head attempt elected number (survivors_in payload))

  module _ {survivors : ℕ} (survivors_are : survivors ≡ survivors_in payload) {v : Verdict} (v-is : v ≡ result_verdict s.head sender attempt elected number survivors) (f : flags_sound s.head ≡ true) where
    verdict_as : v ≡ result_verdict s.head sender attempt elected number (survivors_in payload)
    verdict_as = v-is ∙ ap (λ (m : ℕ). result_verdict s.head sender attempt elected number m) survivors_are

    pub result_declined : (refusal : Refusal) {done : Done} {before : List ℕ} → v ≡ Err refusal → done ≡ record { head = s.head; reply = no_of refusal }
        → Changed (called call (view_of s)) done.reply (with_parts s done.head s.replies) before before
    result_declined refusal e d =
        declined_done s call refusal f (asked ∙ sym (judged_no _ (refused t) done_as refusal (sym verdict_as ∙ e))) d

    pub result_entered : {before : List ℕ} {head' : Head} {held' held_originators' held_lengths' held_payloads' replies' taken' counts' repeats' kept' marks' originators' lengths' payloads' : List ℕ} → v ≡ all_yes
        → Enters s.head s.held s.held_originators s.held_lengths s.held_payloads s.past s.past_originators s.past_lengths s.past_payloads s.highest s.replies s.taken s.counts s.repeats s.kept s.marks s.originators s.lengths s.payloads attempt elected number survivors head' held' held_originators' held_lengths' held_payloads' replies' taken' counts' repeats' kept' marks' originators' lengths' payloads'
        → Changed (called call (view_of s)) (record { answer = Answer.Noted; written = 0 }) (entered s head' held' held_originators' held_lengths' held_payloads' replies' taken' counts' repeats' kept' marks' originators' lengths' payloads') before before
    result_entered {before = before} e p =
        let yes : call t ≡ done_as = asked ∙ sym (judged_yes _ (refused t) done_as (sym verdict_as ∙ e)) in
        changed s call f (p.flags f)
        (p.result s.queued s.queued_originators s.queued_lengths s.queued_payloads ∙ ap (λ (m : ℕ). result_of t attempt elected number m) survivors_are ∙ sym (ap (λ (o : Outcome). o.terminal) yes))
        (sym (ap (λ (o : Outcome). record { answer = o.answer; written = length o.bytes }) yes))
        (sym (ap (λ (o : Outcome). front o.bytes before) yes))
