-- What a line means. None: it is of another form.
use Rattle.std.specs.Prelude.{Option, None, Some, List, [], ◌∷◌, ℕ, ◌/◌, length}
use Prim.Native.Char.{code}
use Rattle.group.specs.Choice.{when◌then◌else◌, ask◌or◌then◌, ◌≤?◌, ◌=?◌}
use Rattle.model.specs.World.{Event, submit, repeat, take, status, poll, copy, hand_member, hand_sequencer}
use Rattle.text.specs.Field.{fields_of, letter_of, is_letter, number_in, hex_in}
use Rattle.schedule.specs.declared.Command.{Command}
use Rattle.schedule.specs.declared.Command.TheVariants.{Submit, Repeat, Take, Status, Poll, Copy, HandMember, HandSequencer}
use Rattle.schedule.specs.declared.Opening.{Opening}

-- a line over 1,000 characters is of another form
abbrev pub line_most : ℕ
line_most = 1000

-- the bytes that a line has room for, two digits a byte
abbrev pub payload_room : ℕ
payload_room = line_most / 2

-- `P` poll
unfoldable pub alone : Option ℕ → Option Event
alone letter = when is_letter (code "P") letter then Some poll else None

-- `R i` repeat, `T i` take, `A i` status, `C s` copy, `Q k` hand to sequencer
unfoldable pub with_number : Option ℕ → Option ℕ → Option Event
with_number None x = None
with_number (Some letter) None = None
with_number (Some letter) (Some x) =
    when letter =? code "R" then Some (repeat x) else
    when letter =? code "T" then Some (take x) else
    when letter =? code "A" then Some (status x) else
    when letter =? code "C" then Some (copy x) else
    when letter =? code "Q" then Some (hand_sequencer x) else
    None

-- `S i hex` submit
unfoldable pub submitted : Option ℕ → Option (List ℕ) → Option Event
submitted None payload = None
submitted (Some i) None = None
submitted (Some i) (Some payload) = Some (submit i payload)

-- `M k i` hand to member
unfoldable pub handed : Option ℕ → Option ℕ → Option Event
handed None i = None
handed (Some k) None = None
handed (Some k) (Some i) = Some (hand_member k i)

unfoldable pub with_two : Option ℕ → List ℕ → List ℕ → Option Event
with_two letter a b =
    when is_letter (code "S") letter then submitted (number_in a) (hex_in b) else
    when is_letter (code "M") letter then handed (number_in a) (number_in b) else
    None

-- the event of a line's fields: its letter, and one or two fields behind it
unfoldable pub form_of : List (List ℕ) → Option Event
form_of [] = None
form_of (name ∷ []) = alone (letter_of name)
form_of (name ∷ (a ∷ [])) = with_number (letter_of name) (number_in a)
form_of (name ∷ (a ∷ (b ∷ []))) = with_two (letter_of name) a b
form_of (name ∷ (a ∷ (b ∷ (c ∷ rest)))) = None

-- one event a line; a line over 1,000 characters is of another form
unfoldable pub event_of : List ℕ → Option Event
event_of line = ask length line ≤? line_most or None then form_of (fields_of line)

-- what reading an event gives back, and the bytes that it lays at the front of those that were lent: a submit's payload
unfoldable pub command_of : Option Event → Option Command
command_of None = None
command_of (Some (submit i payload)) = Some (Submit i (length payload))
command_of (Some (repeat i)) = Some (Repeat i)
command_of (Some (take i)) = Some (Take i)
command_of (Some (status i)) = Some (Status i)
command_of (Some poll) = Some Poll
command_of (Some (copy number)) = Some (Copy number)
command_of (Some (hand_member k i)) = Some (HandMember k i)
command_of (Some (hand_sequencer k)) = Some (HandSequencer k)

unfoldable pub payload_of : Option Event → List ℕ
payload_of None = []
payload_of (Some (submit i payload)) = payload
payload_of (Some (repeat i)) = []
payload_of (Some (take i)) = []
payload_of (Some (status i)) = []
payload_of (Some poll) = []
payload_of (Some (copy number)) = []
payload_of (Some (hand_member k i)) = []
payload_of (Some (hand_sequencer k)) = []

-- the first line: `N n group`, or `N n group r`; where r does not end it, r is 0
unfoldable pub opened : Option ℕ → Option ℕ → Option ℕ → Option Opening
opened None group resilience = None
opened (Some n) None resilience = None
opened (Some n) (Some group) None = None
opened (Some n) (Some group) (Some resilience) = Some (record { n = n; number = group; resilience = resilience })

unfoldable pub opening_with : List ℕ → List ℕ → List ℕ → Option ℕ → Option Opening
opening_with name a b resilience =
    when is_letter (code "N") (letter_of name) then opened (number_in a) (number_in b) resilience else None

unfoldable pub opening_form : List (List ℕ) → Option Opening
opening_form [] = None
opening_form (name ∷ []) = None
opening_form (name ∷ (a ∷ [])) = None
opening_form (name ∷ (a ∷ (b ∷ []))) = opening_with name a b (Some 0)
opening_form (name ∷ (a ∷ (b ∷ (c ∷ [])))) = opening_with name a b (number_in c)
opening_form (name ∷ (a ∷ (b ∷ (c ∷ (d ∷ rest))))) = None

unfoldable pub opening_of : List ℕ → Option Opening
opening_of line = ask length line ≤? line_most or None then opening_form (fields_of line)
