-- A sound terminal's submit, repeat, status and take are its member's. Assumes nothing.
use Rattle.group.specs.Question.{all_yes}
use mathlib.Core.Path.{◌≡◌}
use mathlib.Core.Bool.{true}
use mathlib.Core.List.{List}
use Prim.Native.Nat.{ℕ, ◌+◌}
use Rattle.group.proofs.Choice.{both_first}
use Rattle.group.specs.Choice.{when◌then◌else◌}
use Rattle.group.specs.Limits.{longest_packet}
use Rattle.group.specs.Question.{judged}
use Rattle.group.specs.Question.{Verdict}
use Rattle.member.specs.Calls as member
use Rattle.window.specs.Places as window
use Rattle.recovery.specs.Calls as terminal
use Rattle.recovery.specs.Sound.{member_sound, terminal_sound}
use Rattle.recovery.specs.State.{Kept, Terminal}

pub sound_member : (t : Terminal) → terminal_sound t ≡ true → member_sound t ≡ true
unfolding terminal_sound
sound_member t sound = both_first (member_sound t) _ sound

module _ (t : Terminal) (sound : member_sound t ≡ true) where
  pub called : terminal.call_verdict t longest_packet ≡ all_yes
  unfolding terminal.call_verdict when◌then◌else◌
  called = rw sound

  pub submit_is : (payload : List ℕ) → terminal.submit_of t payload longest_packet ≡ terminal.carried t t.kept (member.submit_of t.member payload longest_packet)
  unfolding terminal.submit_of judged
  submit_is payload = rw called

  pub repeat_is : terminal.repeat_of t longest_packet ≡ terminal.carried t t.kept (member.repeat_of t.member longest_packet)
  unfolding terminal.repeat_of judged
  repeat_is = rw called

  pub status_is : terminal.status_of t longest_packet ≡ terminal.carried t t.kept (member.status_of t.member longest_packet)
  unfolding terminal.status_of judged
  status_is = rw called

  -- what a take hands out is kept
  abbrev next : ℕ
  next = t.member.taken.0 + 1

  abbrev pub keeps_of : Kept
  keeps_of = when member.is_ready t.member next then terminal.kept_took t.kept next (window.message_at t.member.held next) else t.kept

  pub take_is : terminal.take_of t longest_packet ≡ terminal.carried t keeps_of (member.take_of t.member longest_packet)
  unfolding terminal.take_of judged
  take_is = rw called
