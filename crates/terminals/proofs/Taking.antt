-- A take at a terminal: what the member hands out is kept as it was held, since a sound place has zeros behind its payload. Assumes nothing.
use Rattle.group.specs.Question.{all_yes}
use Rattle.std.specs.Prelude.{Ok, Err}
use mathlib.Core.Path.{◌≡◌, refl, sym, ap, ◌∙◌}
use mathlib.Core.Bool.{Bool, true, false}
use mathlib.Core.List.{List, [], ◌∷◌, ◌++◌}
use Prim.Native.Nat.{ℕ, ◌+◌, ◌-◌, ◌*◌, ◌≤◌}
use native.Mathlib.Omega.{arith}
use borrow.Author.Tests.{leb-true, eqb-true}
use lib.ListN.{length, take, drop, get_or, set, replicate, length-append, length-take, length-drop, take-append-drop}
use lib.Seq.{take_at, length-take-le}
use Rattle.group.specs.Choice.{when◌then◌else◌, ◌≤?◌, ◌=?◌}
use Rattle.group.specs.Lent.{front}
use Rattle.group.specs.Limits.{held_most, payload_most, longest_packet}
use Rattle.group.specs.Question.{judged}
use Rattle.group.specs.declared.MemberNumber.{MemberNumber}
use Rattle.group.specs.declared.Refusal.{Refusal}
use Rattle.group.specs.declared.SequenceNumber.{SequenceNumber}
use Rattle.group.specs.Question.{Verdict}
use Rattle.group.proofs.Choice.{when_true, both_first, both_then}
use Rattle.group.proofs.Fold.{above_each}
use Rattle.group.proofs.Lists.{when_elim, judged_elim}
use Rattle.message.specs.Message.{Message, all_zero, message_of, payload_of, zero_behind}
use Rattle.store.specs.Places.{messages_in}
use Rattle.store.proofs.Places.{message_in_lem, part_length}
use Rattle.history.specs.State as history
use Rattle.window.specs.Places.{place_of, message_at, is_held, larger_of}
use Rattle.window.specs.Sound.{place_sound}
use Rattle.member.specs.Calls as member
use Rattle.member.specs.Calls.{is_ready, took_of}
use Rattle.member.specs.Promise as memberPromise
use Rattle.member.specs.Sound.{sound_of}
use Rattle.member.specs.State.{Member}
use Rattle.member.specs.declared.Answer.{Answer}
use Rattle.member.specs.declared.Reply.{Reply}
use Rattle.recovery.specs.Calls.{refused, carried, call_verdict, kept_took, take_of}
use Rattle.recovery.specs.State.{Kept, Terminal, counted}
use Rattle.terminals.specs.Steps.{kept_told}

-- bytes that are all zero are that many zeros
zeros_only : (l : List ℕ) → all_zero l ≡ true → l ≡ replicate (length l) 0
unfolding all_zero
zeros_only [] e = refl
zeros_only (b ∷ l) e =
    let z : b ≡ 0 = eqb-true b 0 (both_first (b =? 0) (all_zero l) e) in
    rw z (ap (λ (x : List ℕ). 0 ∷ x) (zeros_only l (both_then (b =? 0) (all_zero l) e)))

-- a message with zeros behind its payload is what its originator, its count and its payload make
message_same : (m : Message) → m.length ≤ payload_most → length m.payload ≡ payload_most → zero_behind m ≡ true → message_of m.originator m.count (payload_of m) ≡ m
unfolding message_of payload_of zero_behind
message_same m small whole zero =
    let k : length (take m.length m.payload) ≡ m.length = length-take-le m.length m.payload (omega arith) in
    let d : length (drop m.length m.payload) ≡ payload_most - length (take m.length m.payload) = length-drop m.length m.payload ∙ omega arith in
    let z : replicate (payload_most - length (take m.length m.payload)) 0 ≡ drop m.length m.payload = ap (λ (n : ℕ). replicate n 0) (sym d) ∙ sym (zeros_only (drop m.length m.payload) zero) in
    let p : take m.length m.payload ++ replicate (payload_most - length (take m.length m.payload)) 0 ≡ m.payload = ap (λ (x : List ℕ). take m.length m.payload ++ x) z ∙ take-append-drop m.length m.payload in
    λ i. record { originator = m.originator; count = m.count; length = k i; payload = p i }

-- what places hold has as many bytes as a place
abbrev pub Full : List Message → Type 0
Full held = (number : ℕ) → length (message_at held number).payload ≡ payload_most

pub places_full : (held originators lengths payloads : List ℕ) → length held ≡ held_most → length payloads ≡ held_most * payload_most → Full (messages_in held originators lengths payloads)
places_full held originators lengths payloads h p number =
    ap (λ (m : Message). length m.payload) (message_in_lem held originators lengths payloads (place_of number) (omega arith))
    ∙ part_length payloads (place_of number) (omega arith)

module _ (m : Member) (full : Full m.held) where
  -- the message that a sound member may take
  next_sound : sound_of m ≡ true → is_ready m (m.taken.0 + 1) ≡ true → place_sound m.group.n m.held (m.taken.0 + 1) ≡ true
  unfolding sound_of
  next_sound e r = above_each (place_sound m.group.n m.held) m.taken.0 held_most (both_then _ _ (both_then _ _ e)) (m.taken.0 + 1) (omega arith) (omega arith)

  next_same : sound_of m ≡ true → is_ready m (m.taken.0 + 1) ≡ true
      → message_of (message_at m.held (m.taken.0 + 1)).originator (message_at m.held (m.taken.0 + 1)).count (payload_of (message_at m.held (m.taken.0 + 1))) ≡ message_at m.held (m.taken.0 + 1)
  unfolding is_ready place_sound
  next_same e r =
      let here = both_first _ _ r in
      let sound = when_true (is_held m.held (m.taken.0 + 1)) _ _ _ here refl ∙ next_sound e r in
      let rest = both_then _ _ sound in
      message_same (message_at m.held (m.taken.0 + 1)) (leb-true _ _ (both_first _ _ rest)) (full (m.taken.0 + 1)) (both_first _ _ (both_then _ _ rest))

  accepted_sound : (room : ℕ) → member.call_verdict m room ≡ all_yes → sound_of m ≡ true
  unfolding member.call_verdict when◌then◌else◌
  accepted_sound room e = go (sound_of m) e
    where
      go : (b : Bool) → (when b then (when longest_packet ≤? room then all_yes else Err Refusal.ShortOutput) else Err Refusal.UnsoundState) ≡ all_yes → b ≡ true
      go true h = refl
      go false h = let z : ◌≡◌ {A = ℕ} 0 1 = cc in absurd (omega arith)

  -- what a take leaves of what is kept, by its answer and its bytes
  took_told : (kept : Kept) → sound_of m ≡ true
      → (when is_ready m (m.taken.0 + 1) then kept_took kept (m.taken.0 + 1) (message_at m.held (m.taken.0 + 1)) else kept)
      ≡ kept_told kept (when is_ready m (m.taken.0 + 1) then took_of m (message_at m.held (m.taken.0 + 1)) else member.answered m Answer.None).answer
      (when is_ready m (m.taken.0 + 1) then took_of m (message_at m.held (m.taken.0 + 1)) else member.answered m Answer.None).bytes
  unfolding kept_told took_of member.answered when◌then◌else◌
  took_told kept e = go (is_ready m (m.taken.0 + 1)) refl
    where
      go : (b : Bool) → is_ready m (m.taken.0 + 1) ≡ b → (when b then kept_took kept (m.taken.0 + 1) (message_at m.held (m.taken.0 + 1)) else kept)
          ≡ kept_told kept (when b then took_of m (message_at m.held (m.taken.0 + 1)) else member.answered m Answer.None).answer
          (when b then took_of m (message_at m.held (m.taken.0 + 1)) else member.answered m Answer.None).bytes
      go true r = ap (kept_took kept (m.taken.0 + 1)) (sym (next_same e r))
      go false r = refl

  -- as many bytes as a place has, at the most
  take_short : (room : ℕ) → length (member.take_of m room).bytes ≤ payload_most
  unfolding member.take_of took_of member.answered payload_of
  take_short room =
      judged_elim (λ (o : member.Outcome). length o.bytes ≤ payload_most) (member.call_verdict m room) (λ r _. omega arith)
      (λ _. when_elim (λ (o : member.Outcome). length o.bytes ≤ payload_most) (is_ready m (m.taken.0 + 1))
      (λ _. let f = full (m.taken.0 + 1) in simp length-take (omega arith)) (λ _. omega arith))

-- the call of the terminal is the member's, and what is kept is told by its answer and its bytes
pub take_own : (t : Terminal) (room : ℕ) → Full t.member.held → call_verdict t room ≡ member.call_verdict t.member room
    → take_of t room ≡ carried t (kept_told t.kept (member.take_of t.member room).answer (member.take_of t.member room).bytes) (member.take_of t.member room)
unfolding take_of member.take_of judged refused member.answered kept_told
take_own t room full same =
    ap (λ (v : Verdict). judged v (refused t) (carried t (when is_ready t.member (t.member.taken.0 + 1) then kept_took t.kept (t.member.taken.0 + 1) (message_at t.member.held (t.member.taken.0 + 1)) else t.kept)
    (judged (member.call_verdict t.member room) (member.refused t.member) inner))) same
    ∙ go (member.call_verdict t.member room) refl
  where
    inner : member.Outcome
    inner = when is_ready t.member (t.member.taken.0 + 1) then took_of t.member (message_at t.member.held (t.member.taken.0 + 1)) else member.answered t.member Answer.None

    go : (v : Verdict) → member.call_verdict t.member room ≡ v
        → judged v (refused t) (carried t (when is_ready t.member (t.member.taken.0 + 1) then kept_took t.kept (t.member.taken.0 + 1) (message_at t.member.held (t.member.taken.0 + 1)) else t.kept) (judged v (member.refused t.member) inner))
        ≡ carried t (kept_told t.kept (judged v (member.refused t.member) inner).answer (judged v (member.refused t.member) inner).bytes) (judged v (member.refused t.member) inner)
    go (Ok _) e = ap (λ (kept : Kept). carried t kept inner) (took_told t.member full t.kept (accepted_sound t.member full room e))
    go (Err r) e = refl

-- what lies at the front of the output
module _ (bytes before : List ℕ) where
  front_take : take (length bytes) (front bytes before) ≡ bytes
  front_take = take_at bytes (drop (length bytes) before) (length bytes) refl

  front_long : length bytes ≤ length (front bytes before)
  front_long = simp length-append (omega arith)

module _ (o : member.Outcome) (before : List ℕ) {reply : Reply} {after : List ℕ} (answered : reply ≡ memberPromise.reply_of o) (lent : after ≡ front o.bytes before) where
  -- what a call says that it wrote is its outcome's bytes
  pub told_bytes : (kept : Kept) → kept_told kept reply.answer (take reply.written after) ≡ kept_told kept o.answer o.bytes
  told_bytes kept =
      ap (λ (r : Reply). kept_told kept r.answer (take r.written after)) answered
      ∙ ap (λ (l : List ℕ). kept_told kept o.answer (take (length o.bytes) l)) lent ∙ ap (kept_told kept o.answer) (front_take o.bytes before)

  pub written_fits : reply.written ≤ length after
  written_fits = let e : reply.written ≡ length o.bytes = ap (λ (r : Reply). r.written) answered in let f = front_long o.bytes before in rw (e, lent) f

-- a take writes no more than a place holds
pub take_fits : (m : Member) → Full m.held → (room : ℕ) {reply : Reply} → reply ≡ memberPromise.reply_of (member.take_of m room) → reply.written ≤ payload_most
take_fits m full room {reply} e = let w : reply.written ≡ length (member.take_of m room).bytes = ap (λ (r : Reply). r.written) e in let s = take_short m full room in rw w s

-- an answer that took nothing leaves what is kept
pub not_took : (kept : Kept) (answer : Answer) (bytes : List ℕ)
    → ((number : SequenceNumber) (originator : MemberNumber) (count : ℕ) (more : Bool) → answer ≡ Answer.Took number originator count more → ⊥) → kept_told kept answer bytes ≡ kept
unfolding kept_told
not_took kept (Answer.Refused refusal) bytes n = refl
not_took kept Answer.Sent bytes n = refl
not_took kept (Answer.Queued count) bytes n = refl
not_took kept Answer.Old bytes n = refl
not_took kept Answer.Kept bytes n = refl
not_took kept Answer.KeptGap bytes n = refl
not_took kept Answer.Beyond bytes n = refl
not_took kept Answer.BeyondGap bytes n = refl
not_took kept Answer.Gap bytes n = refl
not_took kept Answer.Status bytes n = refl
not_took kept Answer.None bytes n = refl
not_took kept Answer.Noted bytes n = refl
not_took kept (Answer.Took number originator count more) bytes n = absurd (n number originator count more refl)

-- a message laid into its place and counted is one that was taken
pub told_laid : (kept : Kept) (number : SequenceNumber) (originator : MemberNumber) (count : ℕ) (more : Bool) (bytes : List ℕ) {at : ℕ} {past : List Message} {counts : List ℕ} → at ≡ history.place_of number.0
    → past ≡ set kept.past at (message_of originator count bytes) → counts ≡ set kept.counts originator.0 (larger_of (get_or kept.counts originator.0 0) count)
    → record { read = kept.read; past = past; counts = counts } ≡ kept_told kept (Answer.Took number originator count more) bytes
unfolding kept_told kept_took counted message_of
told_laid kept number originator count more bytes {at} {past} {counts} place laid larger =
    let p : past ≡ set kept.past (history.place_of number.0) (message_of originator count bytes) = laid ∙ ap (λ (k : ℕ). set kept.past k (message_of originator count bytes)) place in
    λ i. record { read = kept.read; past = p i; counts = larger i }
