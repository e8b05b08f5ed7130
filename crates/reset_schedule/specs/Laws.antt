-- What else holds of reading. `proofs/Laws.antt` has the proofs.
use Rattle.std.specs.Prelude.{◌≡◌, Option, None, Some, List, ℕ, ◌≤◌}
use Rattle.std.proofs.Math.ListN as list
use Rattle.group.specs.Lent.{front}
use Rattle.reset.specs.World.{Event, submit, repeat, take, status, poll, copy, hand_member, hand_sequencer, invite, make}
use Rattle.schedule.specs.Line.{payload_room}
use Rattle.reset_schedule.specs.Line.{event_of, command_of, payload_of}
use Rattle.reset_schedule.specs.declared.Command.{Command}
use Rattle.reset_schedule.specs.declared.Command.TheVariants.{Submit, Repeat, Take, Status, Poll, Copy, HandMember, HandSequencer, Invite, Make}

-- the event that a command means, with the bytes that were lent
unfoldable pub meant_by : Option Command → List ℕ → Option Event
meant_by None lent = None
meant_by (Some (Submit i size)) lent = Some (submit i (list.take size lent))
meant_by (Some (Repeat i)) lent = Some (repeat i)
meant_by (Some (Take i)) lent = Some (take i)
meant_by (Some (Status i)) lent = Some (status i)
meant_by (Some (Poll i)) lent = Some (poll i)
meant_by (Some (Copy i number)) lent = Some (copy i number)
meant_by (Some (HandMember k i)) lent = Some (hand_member k i)
meant_by (Some (HandSequencer k i)) lent = Some (hand_sequencer k i)
meant_by (Some (Invite i number)) lent = Some (invite i number)
meant_by (Some (Make i demand)) lent = Some (make i demand)

-- a command, with the lent bytes as reading leaves them, means the event that was read
abbrev pub CommandMeans : Type 0
CommandMeans = (event : Option Event) (lent : List ℕ) → meant_by (command_of event) (front (payload_of event) lent) ≡ event

-- a submit's payload has room in the bytes that are lent
abbrev pub SubmitFits : Type 0
SubmitFits = (line : List ℕ) (i size : ℕ) → command_of (event_of line) ≡ Some (Submit i size) → size ≤ payload_room
