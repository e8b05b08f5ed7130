-- Making: questions 1, 2, 27 and 26, and then the initiator has the result. Assumes nothing.
use Rattle.group.specs.Question.{all_yes}
use Rattle.std.specs.Prelude.{Err}
use mathlib.Core.Path.{◌≡◌, refl, sym, ap, ◌∙◌, subst}
use mathlib.Core.Bool.{Bool, true, false, false≢true}
use mathlib.Core.List.{List, [], append-nil}
use Prim.Native.Nat.{ℕ, ◌≤◌, ◌<◌}
use native.Mathlib.Omega.{arith}
use borrow.Author.Tests.{leb-true}
use lib.Count.{ones}
use lib.ListN.{length}
use Rattle.group.specs.Choice.{when◌then◌else◌, ◌and◌, ◌≤?◌, ◌=?◌}
use Rattle.group.specs.Lent.{front, Laid}
use Rattle.group.specs.Limits.{members_most, payload_most, longest_packet}
use Rattle.group.specs.Members.{is_in, lowest}
use Rattle.group.specs.Question.{judged}
use Rattle.group.specs.declared.MemberNumber.{MemberNumber}
use Rattle.group.specs.declared.Refusal.{Refusal}
use Rattle.group.specs.declared.SequenceNumber.{SequenceNumber}
use Rattle.group.specs.Question.{Verdict}
use Rattle.group.proofs.Choice.{when_true, when_was, both_first, both_then}
use Rattle.group.proofs.Question.{accepted≢}
use Rattle.big_endian.specs.Number.{bytes_of}
use Rattle.big_endian.proofs.Number.{bytes_of-length, number_of_bytes}
use Rattle.packet.specs.Packet.{fields_of, fields_verdict, packet_of, write_of, survivors_size, survivors_in}
use Rattle.packet.specs.declared.Packet.{Packet}
use Rattle.packet.proofs.Permitted.{result_fields, laid_whole}
use Rattle.history.proofs.Asking.{judged_yes, judged_no}
use Rattle.member.specs.View as memberView
use Rattle.member.specs.declared.Answer.{Answer}
use Rattle.member.specs.declared.Reply.{Reply}
use Rattle.recovery.specs.Begin.{highest_of, holders_of, cut_of, chosen_of, result_of}
use Rattle.recovery.specs.Calls.{Outcome, refused, whole_verdict, make_of}
use Rattle.recovery.specs.Promise.{called, Changed, Made}
use Rattle.recovery.specs.Sound.{reset_sound, member_sound, terminal_sound}
use Rattle.recovery.specs.State.{Terminal}
use Rattle.recovery.specs.View.{Stored, terminal_of, flags_sound, view_of}
use Rattle.recovery.specs.declared.Head.{Head}
use Rattle.recovery.proofs.Choosing.{chosen_replied}
use Rattle.election.specs.Promise.{Enters}
use Rattle.attempt.specs.Steps.{make_verdict, made_of}
use Rattle.attempt.specs.declared.Done.{Done}
use Rattle.attempt.proofs.Changing.{Facts, no_of, with_parts, changed, call_as, declined_done, unsound_done, whole_unsound}
use Rattle.attempt.proofs.Resulting.{entered}

-- two bytes hold a mask of 16 members
pub mask_bytes : (mask : ℕ) → mask < 65536 → survivors_in (bytes_of survivors_size mask) ≡ mask
mask_bytes mask h =
    ap (λ (l : List ℕ). survivors_in l) (sym (append-nil (bytes_of survivors_size mask))) ∙ number_of_bytes survivors_size mask [] h

-- the fields of a result with its survivors' mask behind them may be written
pub made_fields : (group : ℕ) (sender elected : MemberNumber) (attempt : ℕ) (number : SequenceNumber) (mask : ℕ) → mask < 65536 → is_in mask sender.0 ≡ true → is_in mask elected.0 ≡ true
    → fields_verdict (fields_of group (Packet.Result sender attempt elected number)) (length (bytes_of survivors_size mask)) (bytes_of survivors_size mask) ≡ all_yes
made_fields group sender elected attempt number mask h a b =
    let m = sym (mask_bytes mask h) in
    result_fields group sender elected attempt number (bytes_of survivors_size mask) (bytes_of-length survivors_size mask)
    (subst (λ (x : ℕ). is_in x sender.0 ≡ true) m a) (subst (λ (x : ℕ). is_in x elected.0 ≡ true) m b)

pub result_laid : (head : Head) (elected : MemberNumber) (number : SequenceNumber) (room : ℕ) {survivors : List ℕ} {size : ℕ} {x y : List ℕ} → survivors ≡ bytes_of survivors_size head.repliers
    → head.repliers < 65536 → is_in head.repliers head.member.number.0 ≡ true → is_in head.repliers elected.0 ≡ true → longest_packet ≤ room
    → Laid (write_of (fields_of head.member.group.number (Packet.Result head.member.number head.invited elected number)) survivors room).bytes size x y
    → Laid (packet_of (fields_of head.member.group.number (Packet.Result head.member.number head.invited elected number)) (bytes_of survivors_size head.repliers)) size x y
result_laid head elected number room {survivors} {size} {x} {y} e m a b h l =
    let fields = fields_of head.member.group.number (Packet.Result head.member.number head.invited elected number) in
    let short : length (bytes_of survivors_size head.repliers) ≤ payload_most = (let z = bytes_of-length survivors_size head.repliers in omega arith) in
    laid_whole fields (bytes_of survivors_size head.repliers) room
    (made_fields head.member.group.number head.member.number elected head.invited number head.repliers m a b) short h
    (subst (λ (p : List ℕ). Laid (write_of fields p room).bytes size x y) e l)

-- three questions, the first of them before the others
judged_three : (t : Terminal) (o : Outcome) (first second third : Refusal) (a b c : Bool)
    → judged (when a then all_yes else Err first) (refused t) (when b then (when c then o else refused t third) else refused t second)
    ≡ judged (when a then (when b then (when c then all_yes else Err third) else Err second) else Err first) (refused t) o
unfolding when◌then◌else◌ judged
judged_three t o first second third true true true = refl
judged_three t o first second third true true false = refl
judged_three t o first second third true false c = refl
judged_three t o first second third false b c = refl

room_asked : (t : Terminal) (room : ℕ) → terminal_sound t ≡ true → whole_verdict t room ≡ (when longest_packet ≤? room then all_yes else Err Refusal.ShortOutput)
unfolding whole_verdict
room_asked t room e = sym (when_true (terminal_sound t) _ _ _ e refl)

chosen : (b : Bool) (x y : Bool) → b ≡ true → when b then x else y ≡ true → x ≡ true
unfolding when◌then◌else◌
chosen true x y h e = e
chosen false x y h e = absurd (false≢true h)

module _ (s : Stored) where
  abbrev t : Terminal
  t = terminal_of s

  make_asked : (demand room : ℕ) → terminal_sound t ≡ true → make_of t demand room ≡ judged (make_verdict s.head demand room) (refused t) (made_of t)
  unfolding make_of make_verdict made_of terminal_of memberView.view_of
  make_asked demand room e =
      ap (λ (v : Verdict). judged v (refused t) (when s.head.inviting =? 1 then (when demand ≤? ones s.head.repliers then made_of t else refused t Refusal.FewSurvivors) else refused t Refusal.NotOfAttempt)) (room_asked t room e)
      ∙ judged_three t (made_of t) Refusal.ShortOutput Refusal.NotOfAttempt Refusal.FewSurvivors (longest_packet ≤? room) (s.head.inviting =? 1) (demand ≤? ones s.head.repliers)

  pub make_unsound : (demand : ℕ) {b : Bool} {done : Done} {before : List ℕ} → b ≡ (flags_sound s.head and terminal_sound (terminal_of s)) → b ≡ false → done ≡ record { head = s.head; reply = no_of Refusal.UnsoundState }
      → Made s demand before done.reply (with_parts s done.head s.replies) before
  unfolding make_of
  make_unsound demand {before = before} is h d =
      unsound_done s (λ x. make_of x demand (length before)) is h (λ u. sym (judged_no _ _ _ _ (whole_unsound t (length before) u))) d

  -- an open invitation has its own reply
  replied_own : Facts s → (s.head.inviting =? 1) ≡ true → is_in s.head.repliers s.head.member.number.0 ≡ true
  unfolding terminal_sound member_sound reset_sound terminal_of memberView.view_of
  replied_own k h = both_first _ _ (both_then _ _ (chosen (s.head.inviting =? 1) _ _ h (both_first _ _ (both_then _ _ (both_then _ _ (both_then _ _ (both_first _ _ k.sound)))))))

  module _ (k : Facts s) (demand : ℕ) (before : List ℕ) {v : Verdict} (v-is : v ≡ make_verdict s.head demand (length before)) where
    pub make_declined : (refusal : Refusal) {done : Done} → v ≡ Err refusal → done ≡ record { head = s.head; reply = no_of refusal }
        → Made s demand before done.reply (with_parts s done.head s.replies) before
    make_declined refusal e d =
        declined_done s (λ x. make_of x demand (length before)) refusal k.flags (make_asked demand (length before) k.sound ∙ sym (judged_no _ (refused t) (made_of t) refusal (sym v-is ∙ e))) d

    pub make_done : {left : Stored} {reply : Reply} {after : List ℕ} → v ≡ all_yes → Changed (called made_of (view_of s)) reply left before after
        → Made s demand before reply left after
    make_done e p = call_as s made_of (λ x. make_of x demand (length before)) k.flags (judged_yes _ (refused t) (made_of t) (sym v-is ∙ e) ∙ sym (make_asked demand (length before) k.sound)) p

    pub make_asks : v ≡ all_yes → (is_in s.head.repliers s.head.member.number.0 ≡ true) × (longest_packet ≤ length before)
    unfolding make_verdict
    make_asks e =
        let a = when_was _ _ _ all_yes (sym v-is ∙ e) (accepted≢ Refusal.ShortOutput) in
        let b = when_was _ _ _ all_yes a.1 (accepted≢ Refusal.NotOfAttempt) in
        (replied_own k b.0, leb-true longest_packet (length before) a.0)

  module _ (f : flags_sound s.head ≡ true) (number : SequenceNumber) (elected : MemberNumber) (number_is : number.0 ≡ highest_of s.head.repliers 0 s.replies)
      (elected_is : elected.0 ≡ lowest (holders_of s.head.repliers number.0 0 s.replies)) where
    number_as : number ≡ record { 0 = cut_of t.reset }
    unfolding terminal_of
    number_as = λ i. record { 0 = number_is i }

    elected_as : elected ≡ chosen_of t.reset
    unfolding terminal_of
    elected_as =
        let e : elected.0 ≡ (chosen_of t.reset).0 = elected_is ∙ ap (λ (n : ℕ). lowest (holders_of s.head.repliers n 0 s.replies)) number_is in
        λ i. record { 0 = e i }

    -- the elected one replied
    pub elected_in : length s.replies ≡ members_most → s.head.member.number.0 < members_most → is_in s.head.repliers s.head.member.number.0 ≡ true
        → is_in s.head.repliers elected.0 ≡ true
    unfolding terminal_of
    elected_in long h e =
        subst (λ (m : MemberNumber). is_in s.head.repliers m.0 ≡ true) (sym elected_as) (chosen_replied t.reset long s.head.member.number.0 h e).0

    bytes_as : packet_of (fields_of s.head.member.group.number (Packet.Result s.head.member.number s.head.invited elected number)) (bytes_of survivors_size s.head.repliers) ≡ (made_of t).bytes
    unfolding made_of terminal_of memberView.view_of
    bytes_as = λ i. packet_of (fields_of s.head.member.group.number (Packet.Result s.head.member.number s.head.invited (elected_as i) (number_as i))) (bytes_of survivors_size s.head.repliers)

    pub make_entered : {before after : List ℕ} {written : ℕ} {head' : Head} {held' held_originators' held_lengths' held_payloads' replies' taken' counts' repeats' kept' marks' originators' lengths' payloads' : List ℕ}
        → Laid (packet_of (fields_of s.head.member.group.number (Packet.Result s.head.member.number s.head.invited elected number)) (bytes_of survivors_size s.head.repliers)) written before after
        → Enters s.head s.held s.held_originators s.held_lengths s.held_payloads s.past s.past_originators s.past_lengths s.past_payloads s.highest s.replies s.taken s.counts s.repeats s.kept s.marks s.originators s.lengths s.payloads s.head.invited elected number s.head.repliers head' held' held_originators' held_lengths' held_payloads' replies' taken' counts' repeats' kept' marks' originators' lengths' payloads'
        → Changed (called made_of (view_of s)) (record { answer = Answer.Sent; written = written }) (entered s head' held' held_originators' held_lengths' held_payloads' replies' taken' counts' repeats' kept' marks' originators' lengths' payloads') before after
    unfolding made_of terminal_of memberView.view_of
    make_entered {before} l p =
        changed s made_of f (p.flags f) (p.result s.queued s.queued_originators s.queued_lengths s.queued_payloads ∙ (λ i. result_of t s.head.invited (elected_as i) (number_as i) s.head.repliers))
        (λ i. record { answer = Answer.Sent; written = (l.size ∙ ap (λ (b : List ℕ). length b) bytes_as) i }) (l.lent ∙ ap (λ (b : List ℕ). front b before) bytes_as)
