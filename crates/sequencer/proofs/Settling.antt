-- A packet that is accepted comes to the noted state with its change laid in, the change's answer, and what that answer is sent
-- with: the text of each step, with a proof for each way that a choice goes. Assumes nothing.
use Rattle.group.specs.Question.{all_yes}
use Rattle.std.specs.Prelude.{Ok, Err}
use mathlib.Core.Path.{◌≡◌, refl, sym, ap, ◌∙◌}
use mathlib.Core.Logic.{◌≢◌}
use mathlib.Core.Bool.{Bool, true, false}
use mathlib.Core.List.{List, [], ◌∷◌}
use Prim.Native.Nat.{ℕ, zero, suc, ◌+◌, ◌-◌, ◌≤◌}
use native.Mathlib.Nat.{le_refl}
use native.Mathlib.Omega.{arith}
use borrow.Author.Tests.{le-leb, lt-leb, eqb-false}
use lib.ListN.{length, get_or, set}
use lib.Seq.{get_or-set_same}
use Rattle.group.specs.Choice.{when◌then◌else◌, ◌<?◌, ◌≤?◌, ◌=?◌}
use Rattle.group.specs.Limits.{places_most}
use Rattle.group.specs.Members.{needed_of}
use Rattle.group.specs.Question.{judged}
use Rattle.group.specs.declared.Group.{Group}
use Rattle.group.specs.declared.MemberNumber.{MemberNumber}
use Rattle.group.specs.declared.Refusal.{Refusal}
use Rattle.group.specs.declared.Refusal.TheVariants.{ForbiddenFields, OtherGroup, OtherEnd}
use Rattle.group.specs.declared.SequenceNumber.{SequenceNumber}
use Rattle.group.specs.Question.{Verdict}
use Rattle.group.proofs.Choice.{when_true, when_false, when_was, when_eq, when_ne}
use Rattle.group.proofs.Question.{accepted≢}
use Rattle.message.specs.Message.{Message, message_of, blank}
use Rattle.packet.specs.Packet.{content_of, from_elected}
use Rattle.packet.specs.declared.Header.{Header}
use Rattle.packet.specs.declared.Packet.{Packet}
use Rattle.packet.specs.declared.Packet.TheVariants.{Request, Broadcast, Gap, Status, Poll, Offer, Confirm, Accept, Invitation, Result}
use Rattle.history.specs.Ask.{sender_verdict, request_verdict, gap_verdict, confirm_verdict, sender_of, content_verdict, packet_verdict}
use Rattle.history.specs.Note.{larger_of, with_counts}
use Rattle.history.specs.Repeat.{one_more, find_of}
use Rattle.history.specs.State.{numbered, Acknowledgement, no_acknowledgement, acknowledgement_of, place_of, message_at}
use Rattle.history.proofs.Finding.{found_in, numbered_was, numbered_least, numbered_not}
use Rattle.sequencer.specs.Calls.{Outcome, answered, refused, broadcast_of, poll_packet, repeated_of, old_of, again_of, full_of, with_message, numbered_of, request_of, gap_of, content_step, read_step}
use Rattle.sequencer.specs.Note.{note_of}
use Rattle.sequencer.specs.State.{Sequencer, last_count, repeat_count}
use Rattle.sequencer.specs.Steps.{accepted_step, confirmation_of, quiet, again_change, request_change, gap_answer, change_of, sent_of, laid_of, changed}
use Rattle.sequencer.specs.declared.Answer.{Answer}
use Rattle.sequencer.specs.declared.Answer.TheVariants.{Old, Again, Full, Numbered, Noted, Wanted}
use Rattle.sequencer.specs.declared.Change.{Change}
use Rattle.std.specs.Prelude.{Some, None}

-- an entry that is set to what it is
set_own : {A : Type 0} (l : List A) (i : ℕ) (d : A) → set l i (get_or l i d) ≡ l
set_own [] i d = refl
set_own (x ∷ l) zero d = refl
set_own (x ∷ l) (suc i) d = ap (λ r. x ∷ r) (set_own l i d)

-- a choice of two, each of which a function leads to
pub choose : {A B : Type 0} (f : A → B) (t : Bool) (x y : A) (x' y' : B) → (t ≡ true → x' ≡ f x) → (t ≡ false → y' ≡ f y)
    → (when t then x' else y') ≡ f (when t then x else y)
unfolding when◌then◌else◌
choose f true x y x' y' g h = g refl
choose f false x y x' y' g h = h refl

-- what a change of m comes to, in a noted state
abbrev pub outcome_of : Sequencer → MemberNumber → List ℕ → Change → Outcome
outcome_of s m payload c =
    record {
      sequencer = changed s m c (laid_of s m c payload);
      answer = c.answer;
      bytes = sent_of c.answer s.group c.top c.accepted s.floor (laid_of s m c payload);
    }

module _ (s : Sequencer) (m : MemberNumber) (payload : List ℕ) where
  -- the state with another repeat count of m
  abbrev with_repeats : ℕ → Sequencer
  with_repeats repeats =
      record {
        group = s.group;
        acknowledgements = set s.acknowledgements m.0 (with_counts (acknowledgement_of s.acknowledgements m) (last_count s m) repeats);
        top = s.top;
        accepted = s.accepted;
        floor = s.floor;
        history = s.history;
        marks = s.marks;
      }

  -- a number up to top has its own message laid in its place, and that changes nothing but the repeat count
  abbrev kept : SequenceNumber → ℕ → Answer → Change
  kept number repeats answer = record { number = number; top = s.top; accepted = s.accepted; count = last_count s m; repeats = repeats; answer = answer }

  laid_own : (number : SequenceNumber) (repeats : ℕ) (answer : Answer) → number.0 ≤ s.top.0
      → laid_of s m (kept number repeats answer) payload ≡ message_at s.history number.0
  unfolding laid_of
  laid_own number repeats answer h = sym (when_true (number.0 ≤? s.top.0) _ _ _ (le-leb number.0 s.top.0 h) refl)

  stays : (number : SequenceNumber) (repeats : ℕ) (answer : Answer) → number.0 ≤ s.top.0
      → changed s m (kept number repeats answer) (laid_of s m (kept number repeats answer) payload)
      ≡ with_repeats repeats
  unfolding changed
  stays number repeats answer h =
      let place = ap (λ (x : Message). set s.history (place_of number.0) x) (laid_own number repeats answer h)
      ∙ set_own s.history (place_of number.0) blank in
      λ i. record { group = s.group; acknowledgements = (with_repeats repeats).acknowledgements; top = s.top; accepted = s.accepted; floor = s.floor; history = place i; marks = s.marks }

  -- and its own repeat count changes nothing at all
  own_repeats : with_repeats (repeat_count s m) ≡ s
  own_repeats =
      let table = set_own s.acknowledgements m.0 no_acknowledgement in
      λ i. record { group = s.group; acknowledgements = table i; top = s.top; accepted = s.accepted; floor = s.floor; history = s.history; marks = s.marks }

  pub noted_is : (answer : Answer) → sent_of answer s.group s.top s.accepted s.floor (laid_of s m (kept s.top (repeat_count s m) answer) payload) ≡ []
      → answered s answer ≡ outcome_of s m payload (quiet (last_count s m) s.top s.accepted (repeat_count s m) answer)
  unfolding answered
  noted_is answer e =
      let p = stays s.top (repeat_count s m) answer (le_refl s.top.0) ∙ own_repeats in
      λ i. record { sequencer = sym p i; answer = answer; bytes = sym e i }

  old_is : old_of s m ≡ outcome_of s m payload (quiet (last_count s m) s.top s.accepted (one_more (repeat_count s m)) Old)
  unfolding old_of answered repeated_of sent_of
  old_is =
      let p = stays s.top (one_more (repeat_count s m)) Old (le_refl s.top.0) in
      λ i. record { sequencer = sym p i; answer = Old; bytes = [] }

  again_here : (number : ℕ) → number ≤ s.top.0
      → record { sequencer = repeated_of s m; answer = Again (record { 0 = number }); bytes = broadcast_of s number }
      ≡ outcome_of s m payload (kept (record { 0 = number }) (one_more (repeat_count s m)) (Again (record { 0 = number })))
  unfolding repeated_of broadcast_of sent_of
  again_here number h =
      let answer = Again (record { 0 = number }) in
      let p = stays (record { 0 = number }) (one_more (repeat_count s m)) answer h in
      let e = ap (sent_of answer s.group s.top s.accepted s.floor) (laid_own (record { 0 = number }) (one_more (repeat_count s m)) answer h) in
      λ i. record { sequencer = sym p i; answer = answer; bytes = sym e i }

  again_is : (number : ℕ) → (number ≢ 0 → number ≤ s.top.0) → again_of s m number ≡ outcome_of s m payload (again_change number (last_count s m) s.top s.accepted (repeat_count s m))
  unfolding again_of again_change
  again_is number found =
      choose (outcome_of s m payload) (number =? 0) _ _ _ _ (λ e. old_is) (λ e. again_here number (found (eqb-false number 0 e)))

  full_is : full_of s ≡ outcome_of s m payload (quiet (last_count s m) s.top s.accepted (repeat_count s m) Full)
  unfolding full_of poll_packet sent_of
  full_is =
      let p = stays s.top (repeat_count s m) Full (le_refl s.top.0) ∙ own_repeats in
      λ i. record { sequencer = sym p i; answer = Full; bytes = poll_packet s }

  module _ (count : ℕ) (size : length s.history ≡ places_most) where
    abbrev next : Change
    next =
        record {
          number = record { 0 = s.top.0 + 1 };
          top = record { 0 = s.top.0 + 1 };
          accepted = when needed_of s.group =? 0 then record { 0 = s.top.0 + 1 } else s.accepted;
          count = count;
          repeats = repeat_count s m;
          answer = Numbered (record { 0 = s.top.0 + 1 });
        }

    laid_new : laid_of s m next payload ≡ message_of m count payload
    unfolding laid_of
    laid_new = sym (when_false (s.top.0 + 1 ≤? s.top.0) _ _ _ (lt-leb (s.top.0 + 1) s.top.0 (omega arith)) refl)

    numbered_is : numbered_of s m count payload ≡ outcome_of s m payload next
    unfolding numbered_of with_message changed broadcast_of sent_of
    numbered_is =
        let e = get_or-set_same s.history (place_of (s.top.0 + 1)) (message_of m count payload) blank (omega arith) in
        rw (laid_new, e)

    -- a request, once A is noted
    request_is : request_of s m count payload
        ≡ outcome_of s m payload (request_change s.history m count (last_count s m) s.floor.0 s.top s.accepted (needed_of s.group) (repeat_count s m))
    unfolding request_of request_change
    request_is =
        let wide = s.top.0 - s.floor.0 in
        let number = find_of s.history m count s.floor.0 wide in
        let found = found_in s.history m count s.floor.0 wide in
        choose (outcome_of s m payload) (count <? last_count s m) _ _ _ _ (λ e. old_is)
        (λ e. choose (outcome_of s m payload) (count =? last_count s m) _ _ _ _
        (λ f. again_is number (λ q. let z = found q in omega arith))
        (λ f. choose (outcome_of s m payload) (wide =? places_most) _ _ _ _ (λ g. full_is) (λ g. numbered_is)))

  -- a gap
  gap_is : (first last : SequenceNumber) → gap_of s first last ≡ outcome_of s m payload (quiet (last_count s m) s.top s.accepted (repeat_count s m) (gap_answer s.floor.0 first last))
  unfolding gap_of gap_answer sent_of
  gap_is first last =
      choose (λ (answer : Answer). outcome_of s m payload (quiet (last_count s m) s.top s.accepted (repeat_count s m) answer)) (last.0 ≤? s.floor.0) _ _ _ _
      (λ e. noted_is Noted refl) (λ e. noted_is (Wanted (record { 0 = larger_of first.0 (s.floor.0 + 1) }) last) refl)

-- the last count again, whose message was found, and was not
pub again_some : (k last : ℕ) (top accepted number : SequenceNumber) (repeats : ℕ) → numbered k ≡ Some number
    → record { number = number; top = top; accepted = accepted; count = last; repeats = one_more repeats; answer = Again number } ≡ again_change k last top accepted repeats
unfolding again_change
again_some k last top accepted number repeats e =
    let p = numbered_was k number e in
    let q = numbered_least k number e in
    when_ne k 0 _ _ _ (λ z. omega arith)
    (ap (λ (n : ℕ). record { number = record { 0 = n }; top = top; accepted = accepted; count = last; repeats = one_more repeats; answer = Again (record { 0 = n }) }) p)

pub again_none : (k last : ℕ) (top accepted : SequenceNumber) (repeats : ℕ) → numbered k ≡ None
    → quiet last top accepted (one_more repeats) Old ≡ again_change k last top accepted repeats
unfolding again_change
again_none k last top accepted repeats e = when_eq k 0 _ _ _ (sym (numbered_not k e)) refl

-- a packet that confirms nothing does not confirm
pub none≢ : {w : MemberNumber × SequenceNumber} → None ≡ Some w → ⊥
none≢ e = let z : ◌≡◌ {A = ℕ} 0 1 = cc in omega arith

-- who confirms which number is said once
pub who_was : {w v : MemberNumber × SequenceNumber} → Some w ≡ Some v → w ≡ v
who_was e = cc

-- a packet that is accepted and confirms nothing
pub accepted_is : (s : Sequencer) (packet : Packet) (payload : List ℕ)
    → content_verdict s.group s.acknowledgements s.accepted.0 s.top.0 packet ≡ all_yes
    → confirmation_of packet ≡ None
    → let m = (sender_of packet).member in
    let noted = note_of s m (sender_of packet).taken in
    length noted.history ≡ places_most
    → accepted_step s packet payload
    ≡ outcome_of noted m payload
    (change_of noted.history packet (last_count noted m) noted.floor.0 noted.top noted.accepted (needed_of noted.group) (repeat_count noted m))
unfolding accepted_step change_of sender_of content_verdict confirmation_of sent_of
accepted_is s (Request sender taken count) payload e none size = request_is (note_of s sender taken) sender payload count size
accepted_is s (Broadcast originator number count floor) payload e none size = absurd (accepted≢ OtherEnd e)
accepted_is s (Gap sender taken first last) payload e none size = gap_is (note_of s sender taken) sender payload first last
accepted_is s (Status sender taken) payload e none size = noted_is (note_of s sender taken) sender payload Noted refl
accepted_is s (Poll elected top floor) payload e none size = absurd (accepted≢ OtherEnd e)
accepted_is s (Offer originator number count floor) payload e none size = absurd (accepted≢ OtherEnd e)
accepted_is s (Confirm sender number) payload e none size = absurd (none≢ (sym none))
accepted_is s (Accept elected number) payload e none size = absurd (accepted≢ OtherEnd e)
accepted_is s (Invitation sender attempt) payload e none size = absurd (accepted≢ OtherEnd e)
accepted_is s (Packet.Reply sender attempt number) payload e none size = absurd (accepted≢ OtherEnd e)
accepted_is s (Result sender attempt elected number) payload e none size = absurd (accepted≢ OtherEnd e)

-- two verdicts in turn, and a question before a verdict
judged_turn : {A : Type 0} (v w : Verdict) (f : Refusal → A) (x : A) → judged v f (judged w f x) ≡ judged (judged v Err w) f x
unfolding judged
judged_turn (Ok _) w f x = refl
judged_turn (Err r) w f x = refl

judged_if : {A : Type 0} (t : Bool) (r : Refusal) (v : Verdict) (f : Refusal → A) (x : A)
    → (when t then judged v f x else f r) ≡ judged (when t then v else Err r) f x
unfolding judged when◌then◌else◌
judged_if true r v f x = refl
judged_if false r v f x = refl

-- what a packet says is asked, and then it is accepted
content_is : (s : Sequencer) (packet : Packet) (payload : List ℕ)
    → content_step s packet payload
    ≡ judged (content_verdict s.group s.acknowledgements s.accepted.0 s.top.0 packet) (refused s) (accepted_step s packet payload)
unfolding content_step content_verdict accepted_step request_verdict gap_verdict confirm_verdict judged
content_is s (Request sender taken count) payload = judged_turn (sender_verdict s.group.survivors s.accepted.0 sender taken) _ (refused s) _
content_is s (Broadcast originator number count floor) payload = refl
content_is s (Gap sender taken first last) payload = judged_turn (sender_verdict s.group.survivors s.accepted.0 sender taken) _ (refused s) _
content_is s (Status sender taken) payload = refl
content_is s (Poll elected top floor) payload = refl
content_is s (Offer originator number count floor) payload = refl
content_is s (Confirm sender number) payload = judged_turn (sender_verdict s.group.survivors s.top.0 sender number) _ (refused s) _
content_is s (Accept elected number) payload = refl
content_is s (Invitation sender attempt) payload = refl
content_is s (Packet.Reply sender attempt number) payload = refl
content_is s (Result sender attempt elected number) payload = refl

pub read_is : (s : Sequencer) (h : Header) (payload : List ℕ)
    → read_step s (Ok h) payload
    ≡ judged (packet_verdict s.group s.acknowledgements s.accepted.0 s.top.0 h.group (content_of h)) (refused s)
    (accepted_step s (content_of h) payload)
unfolding read_step packet_verdict
read_is s h payload =
    rw (content_is s (content_of h) payload)
    (ap (λ (o : Outcome). when from_elected s.group (content_of h) then o else refused s ForbiddenFields)
    (judged_if (h.group =? s.group.number) OtherGroup _ (refused s) _)
    ∙ judged_if (from_elected s.group (content_of h)) ForbiddenFields _ (refused s) _)

-- questions 6 and 7 said yes to a packet that was accepted
pub content_was : (group : Group) (table : List Acknowledgement) (accepted top number : ℕ) (packet : Packet)
    → packet_verdict group table accepted top number packet ≡ all_yes → content_verdict group table accepted top packet ≡ all_yes
unfolding packet_verdict
content_was group table accepted top number packet e =
    let f = when_was (from_elected group packet) _ _ all_yes e (accepted≢ ForbiddenFields) in
    (when_was (number =? group.number) _ _ all_yes f.1 (accepted≢ OtherGroup)).1
