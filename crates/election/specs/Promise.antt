-- What a result leaves of the parts that the code is lent, whatever the others are.
use Rattle.std.specs.Prelude.{◌≡◌, true, List, ℕ}
use Rattle.group.specs.declared.MemberNumber.{MemberNumber}
use Rattle.group.specs.declared.SequenceNumber.{SequenceNumber}
use Rattle.recovery.specs.Begin.{result_of}
use Rattle.recovery.specs.View.{whole, terminal_of, flags_sound}
use Rattle.recovery.specs.declared.Head.{Head}

-- no waiting message is looked at; the terminal is as the result leaves it, and flags stay sound
pub record Enters (head : Head) (held held_originators held_lengths held_payloads past past_originators past_lengths past_payloads highest replies taken counts repeats kept marks originators lengths payloads : List ℕ) (attempt : ℕ) (elected : MemberNumber) (number : SequenceNumber) (survivors : ℕ) (head' : Head) (held' held_originators' held_lengths' held_payloads' replies' taken' counts' repeats' kept' marks' originators' lengths' payloads' : List ℕ) : Type 0 where
  pub flags : flags_sound head ≡ true → flags_sound head' ≡ true
  pub result : (queued queued_originators queued_lengths queued_payloads : List ℕ)
      → terminal_of (whole head' queued held' queued_originators queued_lengths held_originators' held_lengths' queued_payloads held_payloads' past past_originators past_lengths past_payloads highest replies' taken' counts' repeats' kept' marks' originators' lengths' payloads')
      ≡ result_of (terminal_of (whole head queued held queued_originators queued_lengths held_originators held_lengths queued_payloads held_payloads past past_originators past_lengths past_payloads highest replies taken counts repeats kept marks originators lengths payloads)) attempt elected number survivors
