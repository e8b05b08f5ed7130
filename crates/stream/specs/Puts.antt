-- What a player handed to a sink, whatever a line tells.
use Rattle.std.specs.Prelude.{List, [], ℕ}
use Rattle.std.specs.declared.option.Option.{Option}
use Rattle.descriptor.specs.Descriptor.{Gives, Takes}
use Rattle.descriptor.specs.declared.Source.{Source}
use Rattle.descriptor.specs.declared.Sink.{Sink}
use Rattle.player.specs.Lines.{Told, Program}
use Rattle.player.specs.Parts.{State, Continues}

module _ {Stage : Type 0} (line_told : Stage → List ℕ → Told Stage) (program : Program Stage) {W : Type 0} (contents : W → Option (List ℕ)) where
  -- an input was played but for what is left of it, and the sink took what was printed
  pub record PutsBy (from : State Stage) (input : List ℕ) (to : State Stage) (left : List ℕ) (before after : Sink W) : Type 0 where
    pub printed : List ℕ
    pub takes : Takes contents before printed after
    pub continues : Continues line_told program from input printed to left

  -- the source gave an input, which was played
  pub record TurnsBy {R : Type 0} (remaining : R → Option (List ℕ)) (from to : State Stage) (source : Source R) (sink : Sink W) (read : Source R) (handed : Sink W) : Type 0 where
    pub input : List ℕ
    pub gives : Gives remaining source input read
    pub puts : PutsBy from input to [] sink handed
