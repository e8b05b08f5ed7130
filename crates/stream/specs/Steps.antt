-- What the private functions promise on the way. No public promise speaks of it.
use Rattle.std.specs.Prelude.{Bool, true, false, List, ℕ}
use Rattle.std.specs.declared.option.Option.{Option}
use Rattle.descriptor.specs.Descriptor.{Takes}
use Rattle.descriptor.specs.declared.Source.{Source}
use Rattle.descriptor.specs.declared.Sink.{Sink}
use Rattle.inspection.specs.Lists.{Listed}
use Rattle.inspection.specs.Table.{lists_left, inspect_program, Tabled}
use Rattle.model.specs.World.{Group}
use Rattle.player.specs.Feed.{State}
use Rattle.player.specs.Play.{Program, line_told, play_program}
use Rattle.player.specs.Player.{stage_in, phase_of}
use Rattle.player.specs.declared.Phase.{Phase}
use Rattle.player.specs.declared.Phase.TheVariants.{Opening, Running, Ended, Closed}
use Rattle.player.specs.declared.Player.{Player}
use Rattle.simulator.specs.Whole.{Terminals, Packets, packets_in}
use Rattle.simulator.specs.declared.Head.{Head}
use Rattle.stream.specs.Puts.{PutsBy, TurnsBy}
use Rattle.stream.specs.declared.Turn.{Turn}

-- the program that is quiet about events, and the one that is not
unfoldable pub program_of : Bool → Program
program_of true = inspect_program
program_of false = play_program

-- how many bytes of a line's text it says, by the phase that the line leads to
unfoldable pub said_size : Bool → Phase → ℕ → ℕ
said_size false phase size = size
said_size true Opening size = 0
said_size true Running size = 0
said_size true Ended size = 0
said_size true Closed size = size

-- an input was played but for what is left of it, and the sink took what was printed
abbrev pub Puts : {W : Type 0} → (W → Option (List ℕ)) → Program → State → List ℕ → State → List ℕ → Sink W → Sink W → Type 0
Puts contents program from input to left before after = PutsBy line_told program contents from input to left before after

-- the source gave an input, which was played
abbrev pub Turns : {R W : Type 0} → (R → Option (List ℕ)) → (W → Option (List ℕ)) → Program → State → State → Source R → Sink W → Turn Player R W → Type 0
Turns remaining contents program from to source sink r = TurnsBy line_told program contents remaining from to source sink r.source r.sink

-- the sink took what `text` says of every group that is shown by these numbers and packets
abbrev pub HandsLists : {W : Type 0} → (W → Option (List ℕ)) → (Group → List ℕ) → Head → List (List ℕ) → Packets → Sink W → Sink W → Type 0
HandsLists contents text head numbers p before after = (g : Group) → Listed head numbers (packets_in p) g → Takes contents before (text g) after

-- the lists of such a group, where there is one at the end
abbrev pub HandsLeft : {W : Type 0} → (W → Option (List ℕ)) → Player → List (List ℕ) → Packets → Sink W → Sink W → Type 0
HandsLeft contents player numbers p before after =
    HandsLists contents (λ g. lists_left (stage_in (phase_of player.head player.phase) g player.number)) player.head numbers p before after

-- all that the program prints at the end, of every group that has these members, repeat counts and packets too
abbrev pub HandsLast : {W : Type 0} → (W → Option (List ℕ)) → Bool → Player → List ℕ → List ℕ → Terminals → Packets → Sink W → Sink W → Type 0
HandsLast contents quiet player taken repeats t p before after =
    (g : Group) → Tabled t taken repeats g → Listed player.head t.numbers (packets_in p) g
    → Takes contents before ((program_of quiet).last (stage_in (phase_of player.head player.phase) g player.number)) after
