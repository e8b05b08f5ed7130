-- What the private functions promise on the way. No public promise speaks of it.
use Rattle.std.specs.Prelude.{List, ℕ}
use Rattle.std.specs.declared.option.Option.{Option}
use Rattle.descriptor.specs.Descriptor.{Takes}
use Rattle.descriptor.specs.declared.Source.{Source}
use Rattle.descriptor.specs.declared.Sink.{Sink}
use Rattle.recovery.specs.State.{Terminal}
use Rattle.reset_player.specs.Feed.{State}
use Rattle.reset_player.specs.Player.{stage_in, phase_of, Fresh}
use Rattle.reset_output.specs.Recover.{line_told, terminals_told, last_of, recover_program}
use Rattle.reset_player.specs.declared.Player.{Player}
use Rattle.reset_simulator.specs.Whole.{Rows, terminals_of, terminal_at}
use Rattle.simulator.specs.Whole.{list_of}
use Rattle.stream.specs.Puts.{PutsBy, TurnsBy}
use Rattle.stream.specs.declared.Played.{Played}
use Rattle.reset_stream.specs.Recovered.{Recovers}
use Rattle.stream.specs.declared.Turn.{Turn}

-- an input was played but for what is left of it, and the sink took what was printed
abbrev pub Puts : {W : Type 0} → (W → Option (List ℕ)) → State → List ℕ → State → List ℕ → Sink W → Sink W → Type 0
Puts contents from input to left before after = PutsBy line_told recover_program contents from input to left before after

-- the source gave an input, which was played
abbrev pub Turns : {R W : Type 0} → (R → Option (List ℕ)) → (W → Option (List ℕ)) → State → State → Source R → Sink W → Turn Player R W → Type 0
Turns remaining contents from to source sink r = TurnsBy line_told recover_program contents remaining from to source sink r.source r.sink

-- the first n terminals, by the rows of their heads
abbrev pub terminals_by : List (List ℕ) → List (List ℕ) → List (List ℕ) → Rows → ℕ → List Terminal
terminals_by small masks numbers rows n = list_of (terminal_at (terminals_of small masks numbers rows)) 0 n

-- the sink took their lines, whatever their arrays hold
abbrev pub HandsTerminals : {W : Type 0} → (W → Option (List ℕ)) → List (List ℕ) → List (List ℕ) → List (List ℕ) → ℕ → Sink W → Sink W → Type 0
HandsTerminals contents small masks numbers n before after = (rows : Rows) → Takes contents before (terminals_told 0 (terminals_by small masks numbers rows n)) after

-- and all that is printed at the end, whatever packets there are
abbrev pub HandsLast : {W : Type 0} → (W → Option (List ℕ)) → Player → List (List ℕ) → List (List ℕ) → List (List ℕ) → Sink W → Sink W → Type 0
HandsLast contents player small masks numbers before after =
    (rows : Rows) (packets : List (List ℕ))
    → Takes contents before
    (last_of (stage_in (phase_of player.world player.phase) (record { terminals = terminals_by small masks numbers rows player.world.n; packets = packets }) player.number))
    after

-- a player that has read nothing plays the whole input
abbrev pub Runs : {R W : Type 0} → (R → Option (List ℕ)) → (W → Option (List ℕ)) → Player → Source R → Sink W → Played R W → Type 0
Runs remaining contents player source sink r = Fresh player → Recovers remaining contents source sink r
