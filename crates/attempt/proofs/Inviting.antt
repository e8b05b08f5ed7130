-- Inviting: questions 1 and 2, and then its step. Assumes nothing.
use mathlib.Core.Path.{◌≡◌, sym}
use mathlib.Core.Bool.{Bool, false}
use mathlib.Core.List.{List}
use Prim.Native.Nat.{ℕ, ◌≤◌, ◌<◌}
use lib.ListN.{length}
use Rattle.group.specs.Choice.{◌and◌}
use Rattle.group.specs.Limits.{longest_packet, largest_number}
use Rattle.group.specs.declared.Refusal.{Refusal}
use Rattle.history.proofs.Asking.{judged_no}
use Rattle.recovery.specs.Calls.{invite_of}
use Rattle.recovery.specs.Promise.{Invited}
use Rattle.recovery.specs.Sound.{terminal_sound}
use Rattle.recovery.specs.View.{Stored, terminal_of, flags_sound}
use Rattle.attempt.specs.Steps.{Takes, invite_step}
use Rattle.attempt.specs.declared.Done.{Done}
use Rattle.attempt.proofs.Changing.{Facts, no_of, with_parts, whole_short, whole_unsound, step_changed, declined_done, unsound_done}
use Rattle.attempt.proofs.Replying.{invite_matches}

module _ (s : Stored) (attempt : ℕ) {done : Done} {before : List ℕ} where
  pub invite_unsound : {b : Bool} → b ≡ (flags_sound s.head and terminal_sound (terminal_of s)) → b ≡ false → done ≡ record { head = s.head; reply = no_of Refusal.UnsoundState }
      → Invited s attempt before done.reply (with_parts s done.head s.replies) before
  unfolding invite_of
  invite_unsound is h d =
      unsound_done s (λ t. invite_of t attempt (length before)) is h (λ u. sym (judged_no _ _ _ _ (whole_unsound (terminal_of s) (length before) u))) d

  pub invite_short : Facts s → length before < longest_packet → done ≡ record { head = s.head; reply = no_of Refusal.ShortOutput }
      → Invited s attempt before done.reply (with_parts s done.head s.replies) before
  unfolding invite_of
  invite_short k h d =
      declined_done s (λ t. invite_of t attempt (length before)) Refusal.ShortOutput k.flags (sym (judged_no _ _ _ _ (whole_short (terminal_of s) (length before) k.sound h))) d

  pub invite_done : {left after : List ℕ} → Facts s → s.head.member.taken.0 ≤ largest_number → longest_packet ≤ length before
      → Takes (invite_step s.head s.held attempt) done left before after → Invited s attempt before done.reply (with_parts s done.head left) after
  invite_done k most h p =
      step_changed s (λ t. invite_of t attempt (length before)) (invite_step s.head s.held attempt) k.flags (invite_matches s most k.flags attempt (length before) k.sound h) p
