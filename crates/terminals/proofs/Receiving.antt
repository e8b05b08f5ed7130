-- A packet of a reset at a terminal: behind questions 1 and 2 of the member's end it is the reset's. Assumes nothing.
use Rattle.group.specs.Question.{all_yes}
use Rattle.std.specs.Prelude.{Ok, Err}
use mathlib.Core.Path.{◌≡◌, refl, sym, ap, ◌∙◌, subst}
use mathlib.Core.Bool.{Bool, true, false, false≢true}
use mathlib.Core.List.{List, []}
use Prim.Native.Nat.{ℕ, ◌-◌, ◌≤◌, ◌<◌}
use native.Mathlib.Omega.{arith}
use borrow.Author.Tests.{leb-true, ltb-true}
use lib.ListN.{length}
use Rattle.group.specs.Choice.{when◌then◌else◌, ◌≤?◌}
use Rattle.group.specs.Limits.{header_size, longest_packet}
use Rattle.group.specs.Question.{judged}
use Rattle.group.specs.declared.Refusal.{Refusal}
use Rattle.group.specs.Question.{Verdict}
use Rattle.packet.specs.Packet.{content_of, payload_at, read_of, accept_kind}
use Rattle.packet.specs.declared.Header.{Header}
use Rattle.packet.specs.Answers.{Reading}
use Rattle.packet.proofs.Verdicts.{readable, askable, kind_low}
use Rattle.member.specs.Wording.{wording_of}
use Rattle.member.specs.declared.Answer.{Answer}
use Rattle.member.specs.declared.Reply.{Reply}
use Rattle.recovery.specs.Calls.{Outcome, refused, call_verdict, of_reset, read_step, receive_of}
use Rattle.recovery.specs.Promise as promise
use Rattle.recovery.specs.Promise.{Seen, called, Changed}
use Rattle.recovery.specs.Sound.{member_sound}
use Rattle.recovery.specs.State.{Terminal}
use Rattle.recovery.specs.View.{Stored, View, seen, odd, view_of}
use Rattle.attempt.specs.Promise.{reset_read, ResetReceived}
use Rattle.attempt.proofs.Resetting.{read_reset}
use Rattle.terminals.specs.Steps.{resets, end_verdict}
use Rattle.terminals.proofs.Freezing.{reset_kind}

-- questions 1 and 2 of what is seen
room_of : (t : Terminal) (room : ℕ) → call_verdict t room ≡ all_yes → longest_packet ≤ room
unfolding call_verdict when◌then◌else◌
room_of t room e = leb-true longest_packet room (go (member_sound t) (longest_packet ≤? room) e)
  where
    go : (a b : Bool) → (when a then (when b then all_yes else Err Refusal.ShortOutput) else Err Refusal.UnsoundState) ≡ all_yes → b ≡ true
    go true true h = refl
    go true false h = let z : ◌≡◌ {A = ℕ} 0 1 = cc in absurd (omega arith)
    go false b h = let z : ◌≡◌ {A = ℕ} 0 1 = cc in absurd (omega arith)

end_room : (w : View) (room : ℕ) → end_verdict w room ≡ all_yes → longest_packet ≤ room
unfolding end_verdict
end_room (seen t) room e = room_of t room e
end_room (odd s) room e = let z : ◌≡◌ {A = ℕ} 0 1 = cc in absurd (omega arith)

end_reset : (w : View) (packet : List ℕ) (room : ℕ) (h : Header) → end_verdict w room ≡ all_yes → read_of packet ≡ Ok h → accept_kind < h.kind
    → called (λ t. receive_of t packet room) w ≡ called (λ t. reset_read t h (payload_at packet)) w
unfolding end_verdict called receive_of judged
end_reset (seen t) packet room h e r above =
    ap (λ (x : Outcome). record { view = seen x.terminal; answer = x.answer; bytes = x.bytes })
    (ap (λ (v : Verdict). judged v (refused t) (read_step t (read_of packet) (payload_at packet))) e ∙ ap (λ (x : Reading). read_step t x (payload_at packet)) r ∙ sym (read_reset t h (payload_at packet) above))
end_reset (odd s) packet room h e r above = refl

end_no : (w : View) (packet : List ℕ) (room : ℕ) (refusal : Refusal) → end_verdict w room ≡ Err refusal
    → called (λ t. receive_of t packet room) w ≡ record { view = w; answer = Answer.Refused refusal; bytes = [] }
unfolding end_verdict called receive_of judged refused
end_no (seen t) packet room refusal e =
    ap (λ (v : Verdict). let x : Outcome = judged v (refused t) (read_step t (read_of packet) (payload_at packet)) in record { view = seen x.terminal; answer = x.answer; bytes = x.bytes }) e
end_no (odd s) packet room refusal e =
    let q : Refusal.UnsoundState ≡ refusal = cc in ap (λ (x : Refusal). record { view = odd s; answer = Answer.Refused x; bytes = [] }) q

-- what the reset's step asks of a packet that was read
of_reset_lem : (packet : List ℕ) (h : Header) → read_of packet ≡ Ok h → resets (read_of packet) ≡ true → of_reset (content_of h) ≡ true
unfolding resets
of_reset_lem packet h e r = rw e at r

pub reset_high : (packet : List ℕ) (h : Header) → read_of packet ≡ Ok h → resets (read_of packet) ≡ true → accept_kind < h.kind
reset_high packet h e r =
    let a = askable h (length packet - header_size) (payload_at packet) (readable packet h e).fields in
    ltb-true accept_kind h.kind (reset_kind h (kind_low h.kind a.known) ∙ of_reset_lem packet h e r)

pub reset_room : {v : Verdict} (s : Stored) (room : ℕ) → v ≡ end_verdict (view_of s) room → v ≡ all_yes → longest_packet ≤ room
reset_room s room e a = end_room (view_of s) room (sym e ∙ a)

-- the call's promise, of what the reset's step promises, and of a refusal
module _ (s : Stored) (packet : List ℕ) {v : Verdict} {before : List ℕ} {reply : Reply} (e : v ≡ end_verdict (view_of s) (length before)) where
  pub received_reset : (h : Header) {payload after : List ℕ} {left : Stored} → v ≡ all_yes → read_of packet ≡ Ok h → resets (read_of packet) ≡ true → payload ≡ payload_at packet
      → ResetReceived s h payload before reply left after → promise.Received s packet before reply left after
  received_reset h {payload} {after} {left} a r o same p =
      subst (λ (x : Seen). Changed x reply left before after) (sym (end_reset (view_of s) packet (length before) h (sym e ∙ a) r (reset_high packet h r o)))
      (subst (λ (x : List ℕ). ResetReceived s h x before reply left after) same p)

  pub received_no : {refusal : Refusal} → v ≡ Err refusal → reply ≡ record { answer = Answer.Refused refusal; written = 0 } → promise.Received s packet before reply s before
  received_no {refusal} a told =
      subst (λ (x : Seen). Changed x reply s before before) (sym (end_no (view_of s) packet (length before) refusal (sym e ∙ a)))
      (record { answer = told; state = refl; lent = refl; wording = ap (λ (r : Reply). wording_of r.answer) told })

-- a packet of a reset is no refused reading
pub not_reset : (packet : List ℕ) (refusal : Refusal) → read_of packet ≡ Err refusal → resets (read_of packet) ≡ true → ⊥
unfolding resets
not_reset packet refusal e r = false≢true (rw e at r)
