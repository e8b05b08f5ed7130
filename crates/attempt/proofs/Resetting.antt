-- A packet of a reset that was read: question 1 of the whole terminal, 7, and then those of its kind. Assumes nothing.
use Rattle.std.specs.Prelude.{Ok}
use mathlib.Core.Path.{◌≡◌, refl, sym, ap, ◌∙◌, subst}
use mathlib.Core.Logic.{◌≢◌}
use mathlib.Core.Bool.{Bool, true, false}
use mathlib.Core.List.{List}
use Prim.Native.Nat.{ℕ, ◌-◌, ◌≤◌, ◌<◌}
use native.Mathlib.Omega.{arith}
use borrow.Author.Tests.{eqb-true, eqb-false}
use lib.ListN.{length}
use Rattle.group.specs.Choice.{when◌then◌else◌, ◌and◌, ◌=?◌}
use Rattle.group.specs.Limits.{header_size, largest_number}
use Rattle.group.specs.declared.Group.{Group}
use Rattle.group.specs.declared.Refusal.{Refusal}
use Rattle.group.proofs.Choice.{when_true, when_false, when_eq, when_ne}
use Rattle.group.proofs.Lists.{eq_or}
use Rattle.big_endian.specs.Laws.{Bytes}
use Rattle.packet.specs.Packet.{request_kind, broadcast_kind, gap_kind, status_kind, poll_kind, offer_kind, confirm_kind, accept_kind, invitation_kind, reply_kind, content_of, from_elected, payload_at, read_of, survivors_size, Named}
use Rattle.packet.specs.declared.Header.{Header}
use Rattle.packet.specs.declared.Packet.{Packet}
use Rattle.packet.proofs.Verdicts.{askable, readable, fits_size, result_size, read_named}
use Rattle.member.specs.View as memberView
use Rattle.member.specs.declared.Reply.{Reply}
use Rattle.recovery.specs.Calls.{Outcome, of_reset, reset_step, read_step}
use Rattle.recovery.specs.Promise.{called, Changed}
use Rattle.recovery.specs.Sound.{terminal_sound}
use Rattle.recovery.specs.State.{Terminal}
use Rattle.recovery.specs.View.{Stored, terminal_of, flags_sound, view_of}
use Rattle.attempt.specs.Promise.{reset_read, ResetReceived}
use Rattle.attempt.specs.Steps.{Takes, reply_step, note_step, answer_step}
use Rattle.attempt.specs.declared.Done.{Done}
use Rattle.attempt.proofs.Changing.{Facts, Matches, match_as, no_of, with_parts, call_as, step_changed, declined_done, unsound_done}
use Rattle.attempt.proofs.Replying.{reply_matches, note_matches}

-- what the fields of each kind mean
content_invitation : (h : Header) → h.kind ≡ invitation_kind → content_of h ≡ Packet.Invitation h.member h.a
unfolding content_of when◌then◌else◌
content_invitation h e = rw e

content_reply : (h : Header) → h.kind ≡ reply_kind → content_of h ≡ Packet.Reply h.member h.a (record { 0 = h.b })
unfolding content_of when◌then◌else◌
content_reply h e = rw e

content_result : (h : Header) → reply_kind < h.kind → content_of h ≡ Packet.Result h.member h.a (record { 0 = h.b }) (record { 0 = h.c })
unfolding content_of
content_result h above =
    sym (when_ne h.kind request_kind _ _ _ (other request_kind (omega arith)) (when_ne h.kind broadcast_kind _ _ _ (other broadcast_kind (omega arith)) (when_ne h.kind gap_kind _ _ _ (other gap_kind (omega arith)) (when_ne h.kind status_kind _ _ _ (other status_kind (omega arith)) (when_ne h.kind poll_kind _ _ _ (other poll_kind (omega arith)) (when_ne h.kind offer_kind _ _ _ (other offer_kind (omega arith)) (when_ne h.kind confirm_kind _ _ _ (other confirm_kind (omega arith)) (when_ne h.kind accept_kind _ _ _ (other accept_kind (omega arith)) (when_ne h.kind invitation_kind _ _ _ (other invitation_kind (omega arith)) (when_ne h.kind reply_kind _ _ _ (other reply_kind (omega arith)) refl))))))))))
  where
    other : (k : ℕ) → k ≤ reply_kind → h.kind ≡ k → ⊥
    other k low e = omega arith

module _ (s : Stored) (h : Header) (payload : List ℕ) where
  abbrev t : Terminal
  t = terminal_of s

  abbrev call : Terminal → Outcome
  call x = reset_read x h payload

  pub reset_unsound : {b : Bool} {done : Done} {before : List ℕ} → b ≡ (flags_sound s.head and terminal_sound (terminal_of s)) → b ≡ false → done ≡ record { head = s.head; reply = no_of Refusal.UnsoundState }
      → ResetReceived s h payload before done.reply (with_parts s done.head s.replies) before
  unfolding reset_read
  reset_unsound is e d = unsound_done s call is e (λ u. sym (when_false (terminal_sound t) _ _ _ u refl)) d

  module _ (k : Facts s) where
    pub reset_other : {done : Done} {before : List ℕ} → (h.group ≡ s.head.member.group.number → ⊥) → done ≡ record { head = s.head; reply = no_of Refusal.OtherGroup }
        → ResetReceived s h payload before done.reply (with_parts s done.head s.replies) before
    unfolding reset_read terminal_of memberView.view_of
    reset_other n d = declined_done s call Refusal.OtherGroup k.flags (sym (when_true (terminal_sound t) _ _ _ k.sound (when_ne h.group s.head.member.group.number _ _ _ n refl))) d

    module _ (ours : h.group ≡ s.head.member.group.number) where
      ours_as : reset_step t (content_of h) payload ≡ call t
      unfolding reset_read terminal_of memberView.view_of
      ours_as = when_true (terminal_sound t) _ _ _ k.sound (when_eq h.group s.head.member.group.number _ _ _ ours refl)

      answer_matches : s.head.member.taken.0 ≤ largest_number → accept_kind < h.kind → h.kind ≤ reply_kind
          → Matches s (answer_step s.head s.held s.replies h) (reset_step t (content_of h) payload)
      unfolding answer_step when◌then◌else◌
      answer_matches most above low = go (h.kind =? invitation_kind) refl
        where
          go : (b : Bool) → (h.kind =? invitation_kind) ≡ b
              → Matches s (when b then reply_step s.head s.held s.replies h.member h.a else note_step s.head s.replies h.member h.a h.b) (reset_step t (content_of h) payload)
          go true e = match_as s (ap (λ (x : Packet). reset_step t x payload) (sym (content_invitation h (eqb-true h.kind invitation_kind e)))) (reply_matches s most k.flags h.member h.a payload)
          go false e =
              let n : h.kind ≢ invitation_kind = eqb-false h.kind invitation_kind e in
              match_as s (ap (λ (x : Packet). reset_step t x payload) (sym (content_reply h (omega arith)))) (note_matches s most k.flags h.member h.a (record { 0 = h.b }) payload)

      pub reset_answered : {done : Done} {left before after : List ℕ} → s.head.member.taken.0 ≤ largest_number → accept_kind < h.kind → h.kind ≤ reply_kind
          → Takes (answer_step s.head s.held s.replies h) done left before after → ResetReceived s h payload before done.reply (with_parts s done.head left) after
      reset_answered most above low p =
          step_changed s call (answer_step s.head s.held s.replies h) k.flags (match_as s ours_as (answer_matches most above low)) p

      pub reset_result : {left : Stored} {reply : Reply} {before after : List ℕ} → reply_kind < h.kind
          → Changed (called (λ x. reset_step x (Packet.Result h.member h.a (record { 0 = h.b }) (record { 0 = h.c })) payload) (view_of s)) reply left before after
          → ResetReceived s h payload before reply left after
      reset_result above p = call_as s (λ x. reset_step x (Packet.Result h.member h.a (record { 0 = h.b }) (record { 0 = h.c })) payload) call k.flags (ap (λ (x : Packet). reset_step t x payload) (sym (content_result h above)) ∙ ours_as) p

-- what was read of a reset is what the member's call for packets makes of it
reset_content : (group : Group) (h : Header) → accept_kind < h.kind → (from_elected group (content_of h) ≡ true) × (of_reset (content_of h) ≡ true)
unfolding from_elected of_reset
reset_content group h above =
    eq_or h.kind invitation_kind (λ e. of (content_invitation h e) (refl, refl))
    (λ n. eq_or h.kind reply_kind (λ e. of (content_reply h e) (refl, refl)) (λ m. of (content_result h (omega arith)) (refl, refl)))
  where
    of : {x : Packet} → content_of h ≡ x → (from_elected group x ≡ true) × (of_reset x ≡ true) → (from_elected group (content_of h) ≡ true) × (of_reset (content_of h) ≡ true)
    of e p = subst (λ (x : Packet). (from_elected group x ≡ true) × (of_reset x ≡ true)) (sym e) p

pub read_reset : (t : Terminal) (h : Header) (payload : List ℕ) → accept_kind < h.kind → reset_read t h payload ≡ read_step t (Ok h) payload
unfolding read_step reset_read
read_reset t h payload above =
    let c = reset_content t.member.group h above in
    when_true (from_elected t.member.group (content_of h)) _ _ _ c.0 (when_true (of_reset (content_of h)) _ _ _ c.1 refl)

-- and it has a meaning, of a result with its two bytes
pub reset_fits : (p : List ℕ) → Bytes p → (h : Header) → read_of p ≡ Ok h → Named h × (reply_kind < h.kind → survivors_size ≤ length (payload_at p))
reset_fits p bytes h e =
    let a = askable h (length p - header_size) (payload_at p) (readable p h e).fields in (
      read_named p bytes h e,
      λ above. result_size h.kind (length (payload_at p)) a.known (fits_size h.kind (length p - header_size) (length (payload_at p)) a.fits) above,
    )
