-- What a take says of the next one: the place of the following number is another, and as much is accepted. Assumes nothing.
use Rattle.group.specs.Question.{all_yes}
use Rattle.std.specs.Prelude.{Ok, Err}
use mathlib.Core.Path.{◌≡◌, refl, sym, ap, ◌∙◌}
use mathlib.Core.Bool.{Bool, true, false}
use Prim.Native.Nat.{ℕ, ◌+◌, ◌≤◌}
use native.Mathlib.Omega.{arith}
use borrow.Author.Tests.{leb-true}
use lib.Seq.{get_or-set_other}
use Rattle.group.proofs.Choice.{when_was, both_then}
use Rattle.group.proofs.Question.{accepted≢}
use Rattle.group.specs.Choice.{when◌then◌else◌, ◌and◌, ◌<?◌, ◌≤?◌}
use Rattle.group.specs.Limits.{longest_packet}
use Rattle.group.specs.Question.{judged}
use Rattle.group.specs.declared.Refusal.{Refusal}
use Rattle.group.specs.Question.{Verdict}
use Rattle.message.specs.Message.{Message, empty_message, blank}
use Rattle.member.specs.Calls.{Outcome, answered, refused, call_verdict, with_taken, is_ready, took_of, take_of}
use Rattle.member.specs.Laws.{Typed, is_took, more_of, MoreSays}
use Rattle.member.specs.Sound.{sound_of}
use Rattle.member.specs.State.{Member}
use Rattle.member.specs.declared.Answer.{Answer}
use Rattle.member.proofs.Keeping.{taken_sound}
use Rattle.member.proofs.Soundness.{sound_of_lem, of_sound}
use Rattle.window.specs.Places.{place_of, message_at, is_held}

-- the following number may be taken before the take if it may after it
ready_next : (m : Member) (x : Message) → is_ready (with_taken m x) ((with_taken m x).taken.0 + 1) ≡ is_ready m (m.taken.0 + 2)
unfolding is_ready with_taken
ready_next m x =
    let t = m.taken.0 in
    let e : t + 1 + 1 ≡ t + 2 = omega arith in
    let other : message_at (with_taken m x).held (t + 2) ≡ message_at m.held (t + 2) =
    get_or-set_other m.held (place_of (t + 1)) (place_of (t + 2)) empty_message blank (λ q. omega arith) in
    ap (λ (k : ℕ). (0 <? (message_at (with_taken m x).held k).count) and k ≤? m.accepted.0) e
    ∙ ap (λ (y : Message). (0 <? y.count) and t + 2 ≤? m.accepted.0) other

-- a state past questions 1 and 2
taken_called : (m : Member) (room : ℕ) (x : Message) → Typed m → call_verdict m room ≡ all_yes → m.taken.0 + 1 ≤ m.accepted.0 → call_verdict (with_taken m x) room ≡ all_yes
unfolding call_verdict when◌then◌else◌
taken_called m room x typed e ready =
    let a = when_was (sound_of m) _ _ all_yes e (accepted≢ Refusal.UnsoundState) in
    let b = when_was (longest_packet ≤? room) _ _ all_yes a.1 (accepted≢ Refusal.ShortOutput) in
    rw (of_sound (with_taken m x) (taken_sound m typed x (sound_of_lem m a.0) ready), b.0)

-- a take, by what its questions and its test come to
took_or : (m : Member) (room : ℕ) → call_verdict m room ≡ all_yes → is_took (take_of m room).answer ≡ is_ready m (m.taken.0 + 1)
unfolding take_of took_of answered judged is_took when◌then◌else◌
took_or m room e = rw e (go (is_ready m (m.taken.0 + 1)))
  where
    go : (t : Bool) → is_took (when t then took_of m (message_at m.held (m.taken.0 + 1)) else answered m Answer.None).answer ≡ t
    go true = refl
    go false = refl

-- what it comes to
taking : (m : Member) (room : ℕ) (v : Verdict) (t : Bool) → call_verdict m room ≡ v → is_ready m (m.taken.0 + 1) ≡ t
    → take_of m room ≡ judged v (refused m) (when t then took_of m (message_at m.held (m.taken.0 + 1)) else answered m Answer.None)
unfolding take_of
taking m room v t e r = rw (e, r)

-- a take that leaves the state hands out nothing, nor does the next one
stays : (m : Member) (room : ℕ) (answer : Answer) → take_of m room ≡ answered m answer → more_of answer ≡ false → is_took answer ≡ false
    → more_of (take_of m room).answer ≡ is_took (take_of (take_of m room).member room).answer
unfolding answered
stays m room answer o more took =
    let same : (take_of m room).member ≡ m = ap (λ (x : Outcome). x.member) o in
    let said : (take_of m room).answer ≡ answer = ap (λ (x : Outcome). x.answer) o in
    ap more_of said ∙ more ∙ sym (ap (λ (y : Member). is_took (take_of y room).answer) same ∙ ap is_took said ∙ took)

by_verdict : (m : Member) (room : ℕ) → Typed m → (v : Verdict) (t : Bool) → call_verdict m room ≡ v → is_ready m (m.taken.0 + 1) ≡ t
    → more_of (take_of m room).answer ≡ is_took (take_of (take_of m room).member room).answer
unfolding judged took_of is_ready more_of is_took when◌then◌else◌
by_verdict m room typed (Err refusal) t e r = stays m room (Answer.Refused refusal) (taking m room (Err refusal) t e r) refl refl
by_verdict m room typed (Ok _) false e r = stays m room Answer.None (taking m room all_yes false e r) refl refl
by_verdict m room typed (Ok _) true e r =
    let x = message_at m.held (m.taken.0 + 1) in
    let o : take_of m room ≡ took_of m x = taking m room all_yes true e r in
    let ready = leb-true (m.taken.0 + 1) m.accepted.0 (both_then (is_held m.held (m.taken.0 + 1)) _ r) in
    ap (λ (y : Outcome). more_of y.answer) o
    ∙ sym
    (ap (λ (y : Outcome). is_took (take_of y.member room).answer) o
    ∙ took_or (with_taken m x) room (taken_called m room x typed e ready)
    ∙ ready_next m x)

pub more_says : MoreSays
more_says m room typed = by_verdict m room typed (call_verdict m room) (is_ready m (m.taken.0 + 1)) refl refl
