-- What a packet of a reset comes to at a terminal once it was read, and what the code promises of it.
use Rattle.std.specs.Prelude.{List, ℕ}
use Rattle.group.specs.Choice.{ask◌or◌then◌, ◌=?◌}
use Rattle.group.specs.declared.Refusal.{Refusal}
use Rattle.packet.specs.Packet.{content_of}
use Rattle.packet.specs.declared.Header.{Header}
use Rattle.member.specs.declared.Reply.{Reply}
use Rattle.recovery.specs.Calls.{Outcome, refused, reset_step}
use Rattle.recovery.specs.Promise.{called, Changed}
use Rattle.recovery.specs.Sound.{terminal_sound}
use Rattle.recovery.specs.State.{Terminal}
use Rattle.recovery.specs.View.{Stored, view_of}

-- question 1 of the whole terminal, 7, and then those of its kind: the branch of a reset in `read_step`
unfoldable pub reset_read : Terminal → Header → List ℕ → Outcome
reset_read t h payload =
    ask terminal_sound t or refused t Refusal.UnsoundState then
    ask h.group =? t.member.group.number or refused t Refusal.OtherGroup then
    reset_step t (content_of h) payload

abbrev pub ResetReceived : Stored → Header → List ℕ → List ℕ → Reply → Stored → List ℕ → Type 0
ResetReceived s h payload before reply s' after = Changed (called (λ t. reset_read t h payload) (view_of s)) reply s' before after
