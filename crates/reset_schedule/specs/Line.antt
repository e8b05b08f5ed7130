-- What a line of a schedule with resets means. None: it is of another form. The first line, the fields of a line and its length are those of
-- a schedule without.
use Rattle.std.specs.Prelude.{Option, None, Some, List, [], ◌∷◌, ℕ, length}
use Prim.Native.Char.{code}
use Rattle.group.specs.Choice.{when◌then◌else◌, ask◌or◌then◌, ◌≤?◌, ◌=?◌}
use Rattle.reset.specs.World.{Event, submit, repeat, take, status, poll, copy, hand_member, hand_sequencer, invite, make}
use Rattle.schedule.specs.Line.{line_most}
use Rattle.text.specs.Field.{fields_of, letter_of, is_letter, number_in, hex_in}
use Rattle.reset_schedule.specs.declared.Command.{Command}
use Rattle.reset_schedule.specs.declared.Command.TheVariants.{Submit, Repeat, Take, Status, Poll, Copy, HandMember, HandSequencer, Invite, Make}

-- `R i` repeat, `T i` take, `A i` status, `P i` poll
unfoldable pub with_number : Option ℕ → Option ℕ → Option Event
with_number None i = None
with_number (Some letter) None = None
with_number (Some letter) (Some i) =
    when letter =? code "R" then Some (repeat i) else
    when letter =? code "T" then Some (take i) else
    when letter =? code "A" then Some (status i) else
    when letter =? code "P" then Some (poll i) else
    None

-- `S i hex` submit
unfoldable pub submitted : Option ℕ → Option (List ℕ) → Option Event
submitted None payload = None
submitted (Some i) None = None
submitted (Some i) (Some payload) = Some (submit i payload)

-- `M k i` hand to member, `Q k i` hand to sequencer, `C i s` copy, `I i number` invite, `G i demand` make the group
unfoldable pub with_numbers : Option ℕ → Option ℕ → Option ℕ → Option Event
with_numbers None x y = None
with_numbers (Some letter) None y = None
with_numbers (Some letter) (Some x) None = None
with_numbers (Some letter) (Some x) (Some y) =
    when letter =? code "M" then Some (hand_member x y) else
    when letter =? code "Q" then Some (hand_sequencer x y) else
    when letter =? code "C" then Some (copy x y) else
    when letter =? code "I" then Some (invite x y) else
    when letter =? code "G" then Some (make x y) else
    None

unfoldable pub with_two : Option ℕ → List ℕ → List ℕ → Option Event
with_two letter a b =
    when is_letter (code "S") letter then submitted (number_in a) (hex_in b) else
    with_numbers letter (number_in a) (number_in b)

-- the event of a line's fields: its letter, and one or two fields behind it
unfoldable pub form_of : List (List ℕ) → Option Event
form_of [] = None
form_of (name ∷ []) = None
form_of (name ∷ (a ∷ [])) = with_number (letter_of name) (number_in a)
form_of (name ∷ (a ∷ (b ∷ []))) = with_two (letter_of name) a b
form_of (name ∷ (a ∷ (b ∷ (c ∷ rest)))) = None

-- one event a line; a line over 1,000 characters is of another form
unfoldable pub event_of : List ℕ → Option Event
event_of line = ask length line ≤? line_most or None then form_of (fields_of line)

-- what reading an event gives back, and the bytes that it lays at the front of those that were lent: a submit's payload
unfoldable pub command_of : Option Event → Option Command
command_of None = None
command_of (Some (submit i payload)) = Some (Submit i (length payload))
command_of (Some (repeat i)) = Some (Repeat i)
command_of (Some (take i)) = Some (Take i)
command_of (Some (status i)) = Some (Status i)
command_of (Some (poll i)) = Some (Poll i)
command_of (Some (copy i number)) = Some (Copy i number)
command_of (Some (hand_member k i)) = Some (HandMember k i)
command_of (Some (hand_sequencer k i)) = Some (HandSequencer k i)
command_of (Some (invite i number)) = Some (Invite i number)
command_of (Some (make i demand)) = Some (Make i demand)

unfoldable pub payload_of : Option Event → List ℕ
payload_of None = []
payload_of (Some (submit i payload)) = payload
payload_of (Some (repeat i)) = []
payload_of (Some (take i)) = []
payload_of (Some (status i)) = []
payload_of (Some (poll i)) = []
payload_of (Some (copy i number)) = []
payload_of (Some (hand_member k i)) = []
payload_of (Some (hand_sequencer k i)) = []
payload_of (Some (invite i number)) = []
payload_of (Some (make i demand)) = []
