-- What is printed: event number, answer in lower case, its values, then the index of a packet written.
use Rattle.std.specs.Prelude.{Bool, List, [], ◌∷◌, map, ℕ, ◌+◌, ◌*◌, length}
use Rattle.group.specs.Choice.{when◌then◌else◌, ◌≤?◌, ◌=?◌}
use Rattle.group.specs.Wording.{Value, Wording, refused_wording}
use Rattle.group.specs.declared.Refusal.{Refusal}
use Rattle.member.specs.Wording as member
use Rattle.model.specs.World.{Answer, absent, by_sequencer, by_member}
use Rattle.sequencer.specs.Wording as sequencer
use Rattle.text.specs.Text.{text_of}
use Rattle.text.specs.Written.{decimal_of, payload_text, line, number_digits, count_digits}

-- whether the following number is held
unfoldable pub more_text : Bool → List ℕ
more_text more = when more then text_of "more" else text_of "last"

-- the index of the next packet, where a call wrote `size` bytes of it; and then other fields
unfoldable pub index_text : ℕ → ℕ → List (List ℕ) → List (List ℕ)
index_text size index rest = when size =? 0 then rest else decimal_of index ∷ rest

-- the values of an answer, where `bytes` are those that the call wrote, and `index` is that of the next packet
unfoldable pub values_text : List ℕ → ℕ → List Value → List (List ℕ)
values_text bytes index [] = []
values_text bytes index (Value.number n ∷ rest) = decimal_of n ∷ values_text bytes index rest
values_text bytes index (Value.payload ∷ rest) = payload_text bytes ∷ values_text bytes index rest
values_text bytes index (Value.more m ∷ rest) = more_text m ∷ values_text bytes index rest
values_text bytes index (Value.packet ∷ rest) = decimal_of index ∷ values_text bytes index rest
values_text bytes index (Value.any_packet ∷ rest) = index_text (length bytes) index (values_text bytes index rest)

-- a refusal prints `refused` and its number, any other answer its word and then its values
unfoldable pub wording_fields : Wording → List ℕ → ℕ → List (List ℕ)
wording_fields (Wording.refusal k) bytes index = text_of "refused" ∷ decimal_of k ∷ []
wording_fields (Wording.word w values) bytes index = text_of w ∷ values_text bytes index values

-- an absent packet or member prints `absent`
unfoldable pub answer_fields : Answer → ℕ → List (List ℕ)
answer_fields absent index = text_of "absent" ∷ []
answer_fields (by_sequencer answer bytes) index = wording_fields (sequencer.wording_of answer) bytes index
answer_fields (by_member answer bytes) index = wording_fields (member.wording_of answer) bytes index

-- the line that an event prints
abbrev pub line_of : ℕ → Answer → ℕ → List ℕ
line_of number answer index = line (decimal_of number ∷ answer_fields answer index)

-- a line of another form prints `bad line`; with 200 packets written the next event prints `no space`
abbrev pub bad_line : ℕ → List ℕ
bad_line number = line (decimal_of number ∷ text_of "bad line" ∷ [])

abbrev pub no_space : ℕ → List ℕ
no_space number = line (decimal_of number ∷ text_of "no space" ∷ [])

-- a first line missing or of another form prints `bad line`, a refused one `refused 18` or `refused 24`
abbrev pub bad_opening : List ℕ
bad_opening = line (text_of "bad line" ∷ [])

abbrev pub refused_opening : Refusal → List ℕ
refused_opening refusal = line (wording_fields (refused_wording refusal) [] 0)

-- the last line gives top, floor and each t
abbrev pub last_line : ℕ → ℕ → List ℕ → List ℕ
last_line top floor taken =
    line (text_of "top" ∷ decimal_of top ∷ text_of "floor" ∷ decimal_of floor ∷ text_of "taken" ∷ map decimal_of taken)

-- the room of the longest answer, which is a take's, beside the digits of its payload: `took`, three numbers, `-`, `more`, and
-- a space before each
abbrev pub answer_room : ℕ
answer_room = length (text_of "took") + 3 * number_digits + 1 + length (text_of "more") + 6

-- the room that a line asks for: an event's number, an answer and the line feed; beside it two digits for each byte of a
-- payload, and in the last line a space and the digits of each t
abbrev pub line_room : ℕ
line_room = count_digits + answer_room + 1

abbrev pub event_room : List ℕ → ℕ
event_room payload = line_room + 2 * length payload

abbrev pub last_room : List ℕ → ℕ
last_room taken = line_room + (1 + number_digits) * length taken

-- a line goes to an output that has the room asked; to any other goes nothing
unfoldable pub fitting : ℕ → ℕ → List ℕ → List ℕ
fitting asked room bytes = when asked ≤? room then bytes else []
