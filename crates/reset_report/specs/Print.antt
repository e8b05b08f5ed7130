-- What is printed at the end of a schedule with resets: a line for each terminal, and one for its sequencer.
use Rattle.std.specs.Prelude.{Bool, List, [], ◌∷◌, ◌++◌, map, ℕ, zero, suc, ◌+◌, ◌*◌, length}
use Rattle.group.specs.Choice.{when◌then◌else◌}
use Rattle.group.specs.Limits.{members_most}
use Rattle.group.specs.Members.{is_in}
use Rattle.text.specs.Text.{text_of}
use Rattle.text.specs.Written.{decimal_of, line, number_digits}

-- member i, if it is in the mask
unfoldable pub listed_at : ℕ → ℕ → List ℕ
listed_at mask i = when is_in mask i then i ∷ [] else []

-- the members of a mask below k, in their order
unfoldable pub members_below : ℕ → ℕ → List ℕ
members_below mask zero = []
members_below mask (suc k) = members_below mask k ++ listed_at mask k

-- `terminal I group G taken T elected E survivors S ..`: of its member the group number, t, and the elected member and the survivors that it
-- knows of
abbrev pub terminal_line : ℕ → ℕ → ℕ → ℕ → ℕ → List ℕ
terminal_line i group taken elected survivors =
    line
    (text_of "terminal" ∷ decimal_of i
    ∷ text_of "group" ∷ decimal_of group
    ∷ text_of "taken" ∷ decimal_of taken
    ∷ text_of "elected" ∷ decimal_of elected
    ∷ text_of "survivors" ∷ map decimal_of (members_below survivors members_most))

-- `sequencer I group G top T floor F`, with `frozen` behind it where it is
unfoldable pub frozen_text : Bool → List (List ℕ)
frozen_text frozen = when frozen then text_of "frozen" ∷ [] else []

abbrev pub sequencer_line : ℕ → ℕ → ℕ → ℕ → Bool → List ℕ
sequencer_line i group top floor frozen =
    line
    (text_of "sequencer" ∷ decimal_of i
    ∷ text_of "group" ∷ decimal_of group
    ∷ text_of "top" ∷ decimal_of top
    ∷ text_of "floor" ∷ decimal_of floor
    ∷ frozen_text frozen)

-- the room that such a line asks for: its words, its numbers with a space before each, and the line feed
abbrev pub terminal_room : ℕ
terminal_room = length (text_of "terminal group taken elected survivors") + (4 + members_most) * (1 + number_digits) + 1

abbrev pub sequencer_room : ℕ
sequencer_room = length (text_of "sequencer group top floor frozen") + 4 * (1 + number_digits) + 1
